-- Where the keys of a page rise, what a look at the list of its entries finds stands at a place that halving gives.
use Rattle.std.proofs.Common.{◌≡◌, ℕ, zero, suc, ◌+◌, ◌-◌, ◌<◌, ◌≤◌, Bool, true, false, cond, not, ltb, ◌⊎◌, List, [], ◌∷◌, ◌++◌, sym, refl, ap, ◌∙◌, subst, inl, inr, arith}
use Rattle.std.proofs.lemmas.Bool.{cases_lt, lt-ltb, le-ltb}
use Rattle.std.proofs.lemmas.Bool.Decides.{nat_tests}
use Rattle.meaning.specs.Value.{less_bytes}
use Rattle.tree.specs.Entries.{Entry}
use Rattle.tree.specs.Look.{pick, child, next_above, next_in}
use Rattle.node.specs.Node.{count_in, key_at, entry_at, entries_to, entries_from, entries_in, Parted}
use Rattle.node.specs.Look.{key_from, Picked}

-- the key just above one is the key with a 0 behind it
less-succ : (x k : List ℕ) → less_bytes x (k ++ (0 ∷ [])) ≡ not (less_bytes k x)
unfolding less_bytes
less-succ [] [] = refl
less-succ [] (b ∷ k) = refl
less-succ (a ∷ x) [] = grind (arith, nat_tests)
less-succ (a ∷ x) (b ∷ k) = let ih = less-succ x k in grind (arith, nat_tests)

from-push : (page : List ℕ) (i d : ℕ) → entries_from page i d ++ (entry_at page (i + d) ∷ []) ≡ entries_from page i (suc d)
unfolding entries_from
from-push page i zero = let e : i + 0 ≡ i = omega arith in ap (λ j. entry_at page j ∷ []) e
from-push page i (suc d) = let e : i + suc d ≡ i + 1 + d = omega arith in ap (λ xs. entry_at page i ∷ xs) (ap (λ j. entries_from page (i + 1) d ++ (entry_at page j ∷ [])) e ∙ from-push page (i + 1) d)

pub entries_from_lem : (page : List ℕ) (n : ℕ) → entries_to page n ≡ entries_from page 0 n
unfolding entries_to entries_from
entries_from_lem page zero = refl
entries_from_lem page (suc n) = ap (λ xs. xs ++ (entry_at page n ∷ [])) (entries_from_lem page n) ∙ (let e : 0 + n ≡ n = omega arith in subst (λ j. entries_from page 0 n ++ (entry_at page j ∷ []) ≡ entries_from page 0 (suc n)) e (from-push page 0 n))

-- all from i on that stand before r are not above k, the others are
module _ (page k : List ℕ) (n r : ℕ) (low : (j : ℕ) → j < r → less_bytes k (key_at page j) ≡ false) (high : (j : ℕ) → r ≤ j → j < n → less_bytes k (key_at page j) ≡ true) where
  pick_at : (i d : ℕ) → i < r → i + 1 + d ≡ n → r ≤ n → pick k (entry_at page i) (entries_from page (i + 1) d) ≡ entry_at page (r - 1)
  unfolding pick entries_from
  pick_at i zero h e l = ap (entry_at page) (omega arith)
  pick_at i (suc d) h e l =
      elim (cases_lt (i + 1) r) [
        | inl p ↦ rw (low (i + 1) p) (pick_at (i + 1) d p (omega arith) l)
        | inr p ↦ rw (high (i + 1) p (omega arith)) (ap (entry_at page) (omega arith))
      ]

  pick_first : (i d : ℕ) → r ≤ i → i + 1 + d ≡ n → pick k (entry_at page i) (entries_from page (i + 1) d) ≡ entry_at page i
  unfolding pick entries_from
  pick_first i zero h e = refl
  pick_first i (suc d) h e = rw (high (i + 1) (omega arith) (omega arith)) refl

  next-at : (i d : ℕ) → i ≤ r → i + d ≡ n → r ≤ n → next_above k (entries_from page i d) ≡ cond (ltb r n) (key_at page r ∷ []) []
  unfolding next_above entries_from
  next-at i zero h e l = rw (le-ltb r n (omega arith)) refl
  next-at i (suc d) h e l =
      elim (cases_lt i r) [
        | inl p ↦ rw (low i p) (next-at (i + 1) d (omega arith) (omega arith) l)
        | inr p ↦ let z : i ≡ r = omega arith in rw (high i p (omega arith), lt-ltb r n (omega arith)) (ap (λ j. key_at page j ∷ []) z)
      ]

next-first : (page k : List ℕ) (n i d : ℕ) → i + d ≡ n → ((j : ℕ) → i ≤ j → j < n → less_bytes k (key_at page j) ≡ true) → next_above k (entries_from page i d) ≡ cond (ltb i n) (key_at page i ∷ []) []
unfolding next_above entries_from
next-first page k n i zero e f = rw (le-ltb i n (omega arith)) refl
next-first page k n i (suc d) e f = rw (f i (omega arith) (omega arith), lt-ltb i n (omega arith)) refl

not-true : (t : Bool) → true ≡ not t → t ≡ false
not-true true e = e
not-true false e = refl

not-false : (t : Bool) → false ≡ not t → t ≡ true
not-false true e = refl
not-false false e = e

-- the place that halving by the key just above gives, or the first
module _ (page k : List ℕ) (r : ℕ) (p : Parted page (k ++ (0 ∷ [])) (count_in page) r) (some : 0 < count_in page) where
  low : (j : ℕ) → j < r → less_bytes k (key_at page j) ≡ false
  low j h = not-true (less_bytes k (key_at page j)) (sym (p.under j h) ∙ less-succ (key_at page j) k)

  high : (j : ℕ) → r ≤ j → j < count_in page → less_bytes k (key_at page j) ≡ true
  high j h l = not-false (less_bytes k (key_at page j)) (sym (p.from j h l) ∙ less-succ (key_at page j) k)

  all-entries : entries_in page ≡ entry_at page 0 ∷ entries_from page 1 (count_in page - 1)
  unfolding entries_from
  all-entries = entries_from_lem page (count_in page) ∙ (let e : count_in page ≡ suc (count_in page - 1) = omega arith in ap (entries_from page 0) e)

  picked-some : 0 < r → Picked page k (r - 1)
  unfolding child next_in
  picked-some h =
      let f = p.few in
      let e : r - 1 + 1 ≡ r = omega arith in
      record {
        within = omega arith;
        leads = ap (child pick k) all-entries ∙ ap (λ (x : Entry). x.value) (pick_at page k (count_in page) r low high 0 (count_in page - 1) h (omega arith) f);
        next = ap (next_in k) all-entries ∙ next-at page k (count_in page) r low high 1 (count_in page - 1) (omega arith) (omega arith) f ∙ ap (key_from page) (sym e);
      }

  picked_none : r ≡ 0 → Picked page k 0
  unfolding child next_in
  picked_none h =
      let above : (j : ℕ) → 1 ≤ j → j < count_in page → less_bytes k (key_at page j) ≡ true = (λ j l m. high j (omega arith) m) in
      record {
        within = some;
        leads = ap (child pick k) all-entries ∙ ap (λ (x : Entry). x.value) (pick_first page k (count_in page) r low high 0 (count_in page - 1) (omega arith) (omega arith));
        next = ap (next_in k) all-entries ∙ next-first page k (count_in page) 1 (count_in page - 1) (omega arith) above;
      }

  pub picked : (i : ℕ) → i ≡ r - 1 → Picked page k i
  picked i e = go (cases_lt 0 r)
    where
      go : (0 < r) ⊎ (r ≤ 0) → Picked page k i
      go (inl h) = subst (Picked page k) (sym e) (picked-some h)
      go (inr h) = let z : 0 ≡ i = omega arith in subst (Picked page k) z (picked_none (omega arith))
