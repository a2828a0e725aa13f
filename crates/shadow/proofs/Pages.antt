-- Pages of eight sectors: what they hold depends on the sectors of their slot, and how they are written and read sector by sector.
use Rattle.std.proofs.Common.{◌≡◌, ℕ, zero, suc, ◌+◌, ◌*◌, ◌<◌, ◌≤◌, true, List, [], ◌∷◌, ◌++◌, get_or, take, drop, replicate, sym, refl, ap, ◌∙◌, arith, take-add, ne_eqb}
use Rattle.device.specs.Device.{Device, zeros, latest, shown, written}
use Rattle.device.proofs.Sectors.{shown-written, since-other}
use Rattle.octets.specs.Parts.{blank}
use Rattle.shadow.specs.Layout.{slot_at, gather, page_in}

pub shown-other : (x y : ℕ) (v : List ℕ) (d : Device) → (y ≡ x → ⊥) → shown (written x v d) y ≡ shown d y
shown-other x y v d h = ap (latest (d.kept y)) (since-other x y v d (ne_eqb y x h))

pub gather-same : (k l : ℕ → List ℕ) (x n : ℕ) → ((j : ℕ) → j < n → l (x + j) ≡ k (x + j)) → gather l x n ≡ gather k x n
unfolding gather
gather-same k l x zero h = refl
gather-same k l x (suc n) h = ap (λ t. t ++ l (x + n)) (gather-same k l x n (λ j b. h j (omega arith))) ∙ ap (λ t. gather k x n ++ t) (h n (omega arith))

pub page-same : (M : ℕ) (k l : ℕ → List ℕ) (e : ℕ) → ((j : ℕ) → 1 ≤ e → j < 8 → l (slot_at M e + j) ≡ k (slot_at M e + j)) → page_in M l e ≡ page_in M k e
page-same M k l zero h = refl
page-same M k l (suc e) h = gather-same k l (slot_at M (suc e)) 8 (λ j b. h j (omega arith) b)

pub page-slot : (M : ℕ) (k : ℕ → List ℕ) (e : ℕ) → 1 ≤ e → page_in M k e ≡ gather k (slot_at M e) 8
page-slot M k zero h = absurd (omega arith)
page-slot M k (suc e) h = refl

-- sectors of two slots are apart
pub slot_apart : (M e f i j : ℕ) → 1 ≤ e → 1 ≤ f → i < 8 → j < 8 → slot_at M e + i ≡ slot_at M f + j → e ≡ f
slot_apart M e f i j o q a b z = omega arith

-- a write to a sector of the slot s leaves the pages of all other slots
pub page-write : (M s e i : ℕ) (v : List ℕ) (d : Device) → 1 ≤ s → i < 8 → (e ≡ s → ⊥) → page_in M (shown (written (slot_at M s + i) v d)) e ≡ page_in M (shown d) e
page-write M s e i v d o b n =
    page-same M (shown d) (shown (written (slot_at M s + i) v d)) e (λ j one c. shown-other (slot_at M s + i) (slot_at M e + j) v d (λ z. n (slot_apart M e s j i one o c b z)))

-- the first n sectors of a slot show the first n parts of a page
abbrev pub Laid : ℕ → List ℕ → ℕ → Device → Type 0
Laid x page n d = gather (shown d) x n ≡ take (512 * n) page

pub laid_none : (x : ℕ) (page : List ℕ) (d : Device) → Laid x page 0 d
unfolding gather
laid_none x page d = refl

pub laid_more : (x n : ℕ) (page v : List ℕ) (d : Device) → v ≡ take 512 (drop (512 * n) page) → Laid x page n d → Laid x page (n + 1) (written (x + n) v d)
unfolding gather
laid_more x n page v d e h =
    let z : n + 1 ≡ suc n = omega arith in
    ap (λ t. gather (shown (written (x + n) v d)) x t) z
    ∙ ap (λ t. t ++ shown (written (x + n) v d) (x + n)) (gather-same (shown d) (shown (written (x + n) v d)) x n (λ j b. shown-other (x + n) (x + j) v d (λ z. omega arith)))
    ∙ ap (λ t. gather (shown d) x n ++ t) (shown-written (x + n) v d ∙ e)
    ∙ ap (λ t. t ++ take 512 (drop (512 * n) page)) h
    ∙ sym (take-add (512 * n) 512 page)
    ∙ (let y : 512 * n + 512 ≡ 512 * (n + 1) = omega arith in ap (λ t. take t page) y)

-- what was read so far, in the first n parts of a page
pub got-more : (k : ℕ → List ℕ) (x n : ℕ) (seen : List ℕ) → seen ≡ gather k x n → seen ++ k (x + n) ≡ gather k x (n + 1)
unfolding gather
got-more k x n seen e = let z : suc n ≡ n + 1 = omega arith in ap (λ t. t ++ k (x + n)) e ∙ ap (gather k x) z

pub gather_none : (k : ℕ → List ℕ) (x : ℕ) → [] ≡ gather k x 0
unfolding gather
gather_none k x = refl

-- zeros
pub blank-zeros : (n : ℕ) → blank (zeros n) ≡ true
unfolding zeros
blank-zeros zero = refl
blank-zeros (suc n) = blank-zeros n

pub zeros-at : (n k : ℕ) → get_or (zeros n) k 0 ≡ 0
unfolding zeros
zeros-at zero k = refl
zeros-at (suc n) zero = refl
zeros-at (suc n) (suc k) = zeros-at n k

pub zeros-replicate : (n : ℕ) → replicate n 0 ≡ zeros n
unfolding zeros
zeros-replicate zero = refl
zeros-replicate (suc n) = ap (λ t. 0 ∷ t) (zeros-replicate n)
