-- From the entries of one map sector to the pages, and one turn of the loops over entries.
use Rattle.std.proofs.Common.{◌≡◌, ℕ, ◌+◌, ◌*◌, ◌^◌, ◌<◌, ◌≤◌, List, length, get_or, set, sym, ap, ◌∙◌, arith, below_more, Bool, false, cond, get_or-set_other, get_or-set_same, ◌/◌}
use Rattle.std.specs.Int.Digits.{number_from_digits}
use Rattle.octets.specs.Parts.{put, put_in}
use Rattle.shadow.specs.Layout.{raw_in}
use Rattle.octets.specs.Numbers.{be}
use Rattle.octets.proofs.Parts.{part-put, part-before, put_in-fits}
use Rattle.octets.proofs.Numbers.{length-be, number-be}
use Rattle.pager.specs.Steps.{Owners}
use Rattle.std.proofs.lemmas.Grind.{common_steps}

-- a map sector after an entry was written: that entry, and those before it
pub raw_same : (s : List ℕ) (k e : ℕ) → k < 64 → length s ≡ 512 → e < 2 ^ 64 → raw_in (put s (8 * k) (be 8 e)) k ≡ e
raw_same s k e l n z = ap (number_from_digits 256) (part-put s (be 8 e) (8 * k) 8 (sym (length-be 8 e)) (omega arith)) ∙ number-be 8 e (omega arith)

pub raw-other : (s : List ℕ) (k e j : ℕ) → j < k → k < 64 → length s ≡ 512 → raw_in (put s (8 * k) (be 8 e)) j ≡ raw_in s j
raw-other s k e j b l n = ap (number_from_digits 256) (part-before s (be 8 e) (8 * k) (8 * j) 8 (omega arith) (let y = length-be 8 e in omega arith))

-- one entry more in a map sector
pub raw-more : (s : List ℕ) (f : ℕ → ℕ) (k : ℕ) → k < 64 → length s ≡ 512 → f k < 2 ^ 64 → ((j : ℕ) → j < k → raw_in s j ≡ f j) → (j : ℕ) → j < k + 1 → raw_in (put_in s (8 * k) (be 8 (f k))) j ≡ f j
raw-more s f k l n x h j b =
    let long = length-be 8 (f k) in
    let e = put_in-fits s (be 8 (f k)) (8 * k) (omega (arith, long)) in
    let here : raw_in (put s (8 * k) (be 8 (f k))) k ≡ f k = ap (number_from_digits 256) (part-put s (be 8 (f k)) (8 * k) 8 (sym long) (omega arith)) ∙ number-be 8 (f k) (omega arith) in
    ap (λ t. raw_in t j) e ∙ below_more (λ i. raw_in (put s (8 * k) (be 8 (f k))) i ≡ f i) k (λ i d. ap (number_from_digits 256) (part-before s (be 8 (f k)) (8 * k) (8 * i) 8 (omega arith) (omega (arith, long))) ∙ h i d) here j b

-- one entry more in the array
pub load-more : (l : List ℕ) (f : ℕ → ℕ) (at k e : ℕ) → at + k < length l → e ≡ f k → ((j : ℕ) → j < k → get_or l (at + j) 0 ≡ f j) → (j : ℕ) → j < k + 1 → get_or (set l (at + k) e) (at + j) 0 ≡ f j
load-more l f at k e b z h j m =
    below_more (λ i. get_or (set l (at + k) e) (at + i) 0 ≡ f i) k (λ i d. get_or-set_other l (at + k) (at + i) e 0 (λ r. omega arith) ∙ h i d) (get_or-set_same l (at + k) e 0 b ∙ z) j m

-- one page more
pub link-more : (base owner : List ℕ) (n : ℕ) → get_or base n 0 < length owner → Owners base owner n → Owners base (set owner (get_or base n 0) n) (n + 1)
link-more base owner n l h p k m = grind (arith, common_steps, h p)

pub link-skip : (base owner : List ℕ) (n : ℕ) → length owner ≤ get_or base n 0 → Owners base owner n → Owners base owner (n + 1)
link-skip base owner n l h p k m = grind (arith, common_steps, h p)

-- the slices that were read are the arrays
pub settled-as : (f : List Bool) (a b : List ℕ) (f' : List Bool) (a' b' : List ℕ) (p : ℕ) → f' ≡ f → a' ≡ a → b' ≡ b → cond (get_or f' (p / 64) false) (get_or a' p 0) (get_or b' p 0) ≡ cond (get_or f (p / 64) false) (get_or a p 0) (get_or b p 0)
settled-as f a b f' a' b' p e g h = λ i. cond (get_or (e i) (p / 64) false) (get_or (g i) p 0) (get_or (h i) p 0)
