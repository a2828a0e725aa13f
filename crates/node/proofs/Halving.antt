-- Where a test fails of all behind one that fails it, one answer tells of all on one side.
use Rattle.std.proofs.Common.{◌≡◌, ℕ, ◌+◌, ◌<◌, ◌≤◌, Bool, true, false, ◌⊎◌, List, refl, subst, inl, inr, arith}
use Rattle.std.proofs.lemmas.Bool.{cases_lt}
use Rattle.meaning.specs.Value.{less_bytes}
use Rattle.octets.proofs.Order.{less-trans, never}
use Rattle.node.specs.Node.{key_at, Sorted}
use Rattle.node.specs.Look.{Falls}

module _ (n m : ℕ) (f : ℕ → Bool) (s : Falls n f) (h : m < n) where
  pub under_more : f m ≡ true → (i : ℕ) → i < m + 1 → f i ≡ true
  under_more t i l = go (cases_lt i m)
    where
      go : (i < m) ⊎ (m ≤ i) → f i ≡ true
      go (inl p) = s i m p h t
      go (inr p) = let e : m ≡ i = omega arith in subst (λ j. f j ≡ true) e t

  pub from_more : f m ≡ false → (i : ℕ) → m ≤ i → i < n → f i ≡ false
  from_more t i l b = go (cases_lt m i)
    where
      above : m < i → (v : Bool) → f i ≡ v → v ≡ false
      above p true e = never (f m) (s m i p b e) t
      above p false e = refl

      go : (m < i) ⊎ (i ≤ m) → f i ≡ false
      go (inl p) = above p (f i) refl
      go (inr p) = let e : m ≡ i = omega arith in subst (λ j. f j ≡ false) e t

-- where the keys rise, none behind one that isn't below a key is below it
pub rising-falls : (page k : List ℕ) (n : ℕ) → Sorted page n → Falls n (λ i. less_bytes (key_at page i) k)
rising-falls page k n s i j h l e = less-trans (key_at page i) (key_at page j) k (s i j h l) e
