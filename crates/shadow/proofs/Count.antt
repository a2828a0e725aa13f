-- Where no slot is free, there are at least as many pages that have one as there are slots.
use Rattle.std.proofs.Common.{◌≡◌, ℕ, zero, suc, ◌+◌, ◌<◌, ◌≤◌, Bool, true, false, not, ◌&&◌, eqb, leb, ◌⊎◌, refl, subst, inl, inr, arith, eqb-true, ◌≢◌, ap, ne_eqb}
use borrow.Author.Tests.{eqb-false}
use Rattle.std.proofs.lemmas.Bool.{cases_lt, not-true}
use Rattle.std.proofs.lemmas.Grind.{common_steps}
use Rattle.shadow.specs.Layout.{Free, count}

abbrev Under : ℕ → (ℕ → Bool) → (ℕ → Bool) → Type 0
Under n f g = (p : ℕ) → p < n → f p ≡ true → g p ≡ true

pub count-le : (n : ℕ) (f g : ℕ → Bool) → Under n f g → count n f ≤ count n g
count-le zero f g h = omega arith
count-le (suc n) f g h = let v = count-le n f g (λ p l. h p (omega arith)) in let u = h n (omega arith) in grind (arith, common_steps)

pub count-lt : (n : ℕ) (f g : ℕ → Bool) (p : ℕ) → Under n f g → p < n → f p ≡ false → g p ≡ true → count n f + 1 ≤ count n g
count-lt zero f g p h l e k = absurd (omega arith)
count-lt (suc n) f g p h l e k =
    let u = h n (omega arith) in
    let v = count-le n f g (λ q j. h q (omega arith)) in
    let w : p < n → count n f + 1 ≤ count n g = λ i. count-lt n f g p (λ q j. h q (omega arith)) i e k in
    grind (arith, common_steps)

-- what is new at each number counts
pub pigeon : (N S : ℕ) (L G : ℕ → ℕ → Bool) → ((t : ℕ) → Under N (L t) (L (t + 1))) → ((t : ℕ) → Under N (G t) (G (t + 1))) →
    ((t : ℕ) → t < S → (p : ℕ) × (p < N) × (((L t p ≡ false) × (L (t + 1) p ≡ true)) ⊎ ((G t p ≡ false) × (G (t + 1) p ≡ true)))) → (t : ℕ) → t ≤ S → t ≤ count N (L t) + count N (G t)
pigeon N S L G a b new zero l = omega arith
pigeon N S L G a b new (suc t) l =
    let ih = pigeon N S L G a b new t (omega arith) in
    let (p, i, c) = new t (omega arith) in
    subst (λ x. x ≤ count N (L x) + count N (G x)) (omega arith) (step p i c ih)
  where
    step : (p : ℕ) → p < N → ((L t p ≡ false) × (L (t + 1) p ≡ true)) ⊎ ((G t p ≡ false) × (G (t + 1) p ≡ true)) → t ≤ count N (L t) + count N (G t) → t + 1 ≤ count N (L (t + 1)) + count N (G (t + 1))
    step p i (inl c) ih = let u = count-lt N (L t) (L (t + 1)) p (a t) i c.0 c.1 in let v = count-le N (G t) (G (t + 1)) (b t) in omega arith
    step p i (inr c) ih = let u = count-lt N (G t) (G (t + 1)) p (b t) i c.0 c.1 in let v = count-le N (L t) (L (t + 1)) (a t) in omega arith

-- an entry that is a slot up to t
abbrev upto : ℕ → ℕ → Bool
upto v t = leb 1 v && leb v t

-- a present entry that is not the committed one
abbrev pub moved : ℕ → ℕ → Bool
moved v u = not (eqb v u)

pub moved-of : (v u : ℕ) → (v ≡ u → ⊥) → moved v u ≡ true
moved-of v u h = ap not (ne_eqb v u h)

pub moved_in : (v u : ℕ) → moved v u ≡ true → v ≡ u → ⊥
moved_in v u e = eqb-false v u (not-true (eqb v u) e)

-- no slot is free: each is the committed one of a page, or the present one of a page that has left its committed one
pub no_room : (N S : ℕ) (b w o : ℕ → ℕ) (live given : ℕ → Bool) → ((p : ℕ) → p < N → 1 ≤ b p → live p ≡ true) → ((p : ℕ) → p < N → 1 ≤ w p → (w p ≡ b p → ⊥) → given p ≡ true) →
    ((s : ℕ) → 1 ≤ s → s ≤ S → Free N b w o s → ⊥) → S ≤ count N live + count N given
no_room N S b w o live given hl hg none =
    let x = pigeon N S (λ t p. upto (b p) t) (λ t p. upto (w p) t && moved (w p) (b p)) (λ t p l e. grind (arith, common_steps)) (λ t p l e. grind (arith, common_steps)) new S (omega arith) in
    let y = count-le N (λ p. upto (b p) S) live (λ p l e. hl p l (grind (arith, common_steps))) in
    let z = count-le N (λ p. upto (w p) S && moved (w p) (b p)) given (λ p l e. hg p l (grind (arith, common_steps)) (λ k. grind (arith, common_steps))) in
    omega arith
  where
    new : (t : ℕ) → t < S → (p : ℕ) × (p < N) × (((upto (b p) t ≡ false) × (upto (b p) (t + 1) ≡ true)) ⊎ ((upto (w p) t && moved (w p) (b p) ≡ false) × (upto (w p) (t + 1) && moved (w p) (b p) ≡ true)))
    new t l = let p = o (t + 1) in (p, inside (cases_lt p N), by (eqb (b p) (t + 1)) refl)
      where
        free : Free N b w o (t + 1) → ⊥
        free = none (t + 1) (omega arith) (omega arith)

        inside : (o (t + 1) < N) ⊎ (N ≤ o (t + 1)) → o (t + 1) < N
        inside (inl i) = i
        inside (inr i) = absurd (free (inl i))

        by : (c : Bool) → eqb (b (o (t + 1))) (t + 1) ≡ c →
            ((upto (b (o (t + 1))) t ≡ false) × (upto (b (o (t + 1))) (t + 1) ≡ true)) ⊎ ((upto (w (o (t + 1))) t && moved (w (o (t + 1))) (b (o (t + 1))) ≡ false) × (upto (w (o (t + 1))) (t + 1) && moved (w (o (t + 1))) (b (o (t + 1))) ≡ true))
        by true e = let k = eqb-true (b (o (t + 1))) (t + 1) e in inl (grind (arith, common_steps), grind (arith, common_steps))
        by false e =
            let k = eqb-false (b (o (t + 1))) (t + 1) e in
            let j : w (o (t + 1)) ≢ t + 1 → ⊥ = λ z. free (inr (k, z)) in
            inr (grind (arith, common_steps), grind (arith, common_steps))
