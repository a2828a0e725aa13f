-- Two strings of bytes of which neither is a beginning of the other, by the first place where they differ. Assumes nothing.
use Rattle.std.proofs.Common.{◌≡◌, ℕ, zero, suc, ◌+◌, ◌-◌, ◌*◌, ◌/◌, ◌%◌, ◌^◌, ◌<◌, Bool, true, false, ltb, ◌⊎◌, List, [], ◌∷◌, ◌++◌, sym, refl, ap, ◌∙◌, subst, inl, inr, pow-suc, arith}
use Rattle.std.proofs.lemmas.Nat.{div_below, div-add-mod'}
use Rattle.std.proofs.lemmas.Bool.{lt-ltb, le-ltb, eq-eqb, ne_eqb, cases_order}
use Rattle.std.proofs.lemmas.Bool.Decides.{nat_tests}
use Rattle.meaning.specs.Value.{less_bytes}
use Rattle.octets.specs.Numbers.{be, Bytes, turned}

-- which comes first, or that they are the same
pub data Verdict : Type 0 where
  Before After Alike : Verdict

-- the verdict at the first difference; no rule for one that is a beginning of the other
pub data Compared : List ℕ → List ℕ → Verdict → Type 0 where
  alike : Compared [] [] Alike
  before : {x y : ℕ} {xs ys : List ℕ} → x < y → Compared (x ∷ xs) (y ∷ ys) Before
  after : {x y : ℕ} {xs ys : List ℕ} → y < x → Compared (x ∷ xs) (y ∷ ys) After
  more : {x y : ℕ} {xs ys : List ℕ} {v : Verdict} → x ≡ y → Compared xs ys v → Compared (x ∷ xs) (y ∷ ys) v

unfoldable pub next : Verdict → Verdict → Verdict
next Before w = Before
next After w = After
next Alike w = w

unfoldable pub opposite : Verdict → Verdict
opposite Before = After
opposite After = Before
opposite Alike = Alike

-- the verdict by two tests
unfoldable pub verdict : Bool → Bool → Verdict
verdict true q = Before
verdict false true = After
verdict false false = Alike

unfoldable pub decided : Verdict → Bool → Bool
decided Before b = true
decided After b = false
decided Alike b = b

pub at-verdict : {u v : List ℕ} (p q p' q' : Bool) → p ≡ p' → q ≡ q' → Compared u v (verdict p q) → Compared u v (verdict p' q')
at-verdict {u} {v} p q p' q' e f d = subst (λ (w : Verdict). Compared u v w) (λ i. verdict (e i) (f i)) d

pub then-compared : {u v r s : List ℕ} {w z : Verdict} → Compared u v w → Compared r s z → Compared (u ++ r) (v ++ s) (next w z)
unfolding next
then-compared alike e = e
then-compared (before h) e = before h
then-compared (after h) e = after h
then-compared (more h d) e = more h (then-compared d e)

pub turned-compared : {u v : List ℕ} {w : Verdict} → Bytes u → Bytes v → Compared u v w → Compared (turned u) (turned v) (opposite w)
unfolding opposite
turned-compared bu bv alike = alike
turned-compared bu bv (before h) = let x = bu.0 in let y = bv.0 in after (omega arith)
turned-compared bu bv (after h) = let x = bu.0 in let y = bv.0 in before (omega arith)
turned-compared bu bv (more h d) = more (ap (λ n. 255 - n) h) (turned-compared bu.1 bv.1 d)

-- the order of what goes on from two such strings
pub compared-less : {u v : List ℕ} {w : Verdict} (r s : List ℕ) → Compared u v w → less_bytes (u ++ r) (v ++ s) ≡ decided w (less_bytes r s)
unfolding less_bytes decided
compared-less r s alike = refl
compared-less r s (before {x} {y} h) = rw (lt-ltb x y h) refl
compared-less r s (after {x} {y} h) = grind (arith, nat_tests)
compared-less r s (more {x} {y} {xs} {ys} h d) = rw (le-ltb x y (omega arith), eq-eqb x y h) (compared-less r s d)

-- where the strings go on to the same bytes, they are the same
pub compared_same : {u v : List ℕ} {w : Verdict} (r s : List ℕ) → Compared u v w → u ++ r ≡ v ++ s → (w ≡ Alike) × (r ≡ s)
compared_same r s alike e = (refl, e)
compared_same r s (before {x} {y} h) e = let k : x ≡ y = cc in absurd (omega arith)
compared_same r s (after {x} {y} h) e = let k : x ≡ y = cc in absurd (omega arith)
compared_same r s (more {x} {y} {xs} {ys} h d) e = let k : xs ++ r ≡ ys ++ s = cc in compared_same r s d k

-- numbers as bytes are compared as numbers

abbrev pub ranked : ℕ → ℕ → Verdict
ranked a b = verdict (ltb a b) (ltb b a)

digits-ranked : (a b c d : ℕ) → c < 256 → d < 256 → next (ranked a b) (ranked c d) ≡ ranked (a * 256 + c) (b * 256 + d)
unfolding next verdict
digits-ranked a b c d h k = grind (arith, nat_tests)

pub digit-compared : (a b : ℕ) → Compared (a ∷ []) (b ∷ []) (ranked a b)
unfolding verdict
digit-compared a b = go (cases_order a b)
  where
    go : (a ≡ b) ⊎ ((a < b) ⊎ (b < a)) → Compared (a ∷ []) (b ∷ []) (ranked a b)
    go (inl e) = rw (le-ltb a b (omega arith), le-ltb b a (omega arith)) (more e alike)
    go (inr (inl h)) = rw (lt-ltb a b h) (before h)
    go (inr (inr h)) = rw (le-ltb a b (omega arith), lt-ltb b a h) (after h)

pub be-compared : (k a b : ℕ) → a < 256 ^ k → b < 256 ^ k → Compared (be k a) (be k b) (ranked a b)
unfolding be verdict
be-compared zero a b h k = let e : a ≡ 0 = omega arith in let f : b ≡ 0 = omega arith in rw (e, f) alike
be-compared (suc n) a b h k =
    let i = div_below a 256 (256 ^ n) (omega arith) (rw pow-suc at h) in
    let j = div_below b 256 (256 ^ n) (omega arith) (rw pow-suc at k) in
    let e : next (ranked (a / 256) (b / 256)) (ranked (a % 256) (b % 256)) ≡ ranked a b = digits-ranked (a / 256) (b / 256) (a % 256) (b % 256) (omega arith) (omega arith) ∙ (λ t. ranked (div-add-mod' a 256 t) (div-add-mod' b 256 t)) in
    subst (λ (w : Verdict). Compared (be n (a / 256) ++ (a % 256 ∷ [])) (be n (b / 256) ++ (b % 256 ∷ [])) w) e (then-compared (be-compared n (a / 256) (b / 256) i j) (digit-compared (a % 256) (b % 256)))

-- strings that begin with the bytes that are compared
pub heads-compared : (x y : ℕ) (a b u v : List ℕ) → (x ≡ y → Compared u v (verdict (less_bytes a b) (less_bytes b a))) → Compared (x ∷ u) (y ∷ v) (verdict (less_bytes (x ∷ a) (y ∷ b)) (less_bytes (y ∷ b) (x ∷ a)))
unfolding less_bytes verdict
heads-compared x y a b u v d = go (cases_order x y)
  where
    go : (x ≡ y) ⊎ ((x < y) ⊎ (y < x)) → Compared (x ∷ u) (y ∷ v) (verdict (less_bytes (x ∷ a) (y ∷ b)) (less_bytes (y ∷ b) (x ∷ a)))
    go (inl e) = rw (le-ltb x y (omega arith), le-ltb y x (omega arith), eq-eqb x y e, eq-eqb y x (sym e)) (more e (d e))
    go (inr (inl h)) = rw (lt-ltb x y h) (before h)
    go (inr (inr h)) = rw (le-ltb x y (omega arith), lt-ltb y x h, ne_eqb x y (λ e. omega arith)) (after h)
