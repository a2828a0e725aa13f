-- Words compared with keywords. Assumes nothing.
use Rattle.std.proofs.Common.{◌≡◌, ℕ, Bool, true, false, ◌||◌, ◌&&◌, ◌==◌, List, [], ◌∷◌, map, length, Decides, sym, refl, ap, ◌∙◌, ⊎_elim, arith, rules, ◌<◌, ◌++◌, get_or}
use lib.ListN.{length-map}
use Rattle.std.proofs.lemmas.Bool.{cases_Bool}
use Rattle.std.proofs.lemmas.Slice.Eq.{compares_Decides}
use Rattle.meaning.specs.Text.{small}
use Rattle.meaning.specs.Meaning.{same_name, some}
use Rattle.std.specs.List.{list_all, zip}
use Rattle.std.specs.Char.{to_ascii_lowercase}
use Rattle.std.proofs.lemmas.Bool.Decides.{nat_tests}
use Rattle.std.proofs.lemmas.List.{ext_get_or, get_or-map}

pub name-decides : (m n : List ℕ) → Decides (same_name m n) (m ≡ n)
unfolding same_name
name-decides m n = compares_Decides same_name (search rules) m n

pub name-other : (m n : List ℕ) → (m ≡ n → ⊥) → same_name m n ≡ false
name-other m n h = ⊎_elim (λ t. absurd (h ((name-decides m n).0 t))) (λ f. f) (cases_Bool (same_name m n))

-- as the library has it
pub small-is : (b : ℕ) → to_ascii_lowercase b ≡ small b
unfolding small
small-is b = grind (arith, nat_tests)

-- letter by letter
pub key-zip : (w k : List ℕ) → length w ≡ length k → list_all (λ p. to_ascii_lowercase p.0 == p.1) (zip w k) ≡ same_name (map small w) k
unfolding same_name
key-zip [] [] e = refl
key-zip [] (y ∷ k) e = absurd (omega (arith, e))
key-zip (x ∷ w) [] e = absurd (omega (arith, e))
key-zip (x ∷ w) (y ∷ k) e = λ i. (small-is x i == y) && key-zip w k (omega (arith, e)) i

pub key-same : (w k : List ℕ) → length w ≡ length k → ((i : ℕ) → i < length w → small (get_or w i 0) ≡ get_or k i 0) → same_name (map small w) k ≡ true
key-same w k l h =
    let long = length-map w small in
    (name-decides (map small w) k).1 (ext_get_or 0 (map small w) k (long ∙ l) (λ i m. get_or-map small w i 0 0 (omega arith) ∙ h i (omega arith)))

pub key-other : (w k : List ℕ) (i : ℕ) → i < length w → (small (get_or w i 0) ≡ get_or k i 0 → ⊥) → same_name (map small w) k ≡ false
key-other w k i l h = name-other _ _ (λ e. h (sym (get_or-map small w i 0 0 l) ∙ ap (λ v. get_or v i 0) e))

pub key-long : (w k : List ℕ) → (length w ≡ length k → ⊥) → same_name (map small w) k ≡ false
key-long w k h = name-other _ _ (λ e. h (sym (length-map w small) ∙ ap length e))

pub or-false : (b : Bool) → (b || false) ≡ b
or-false true = refl
or-false false = refl

-- one of two lists has it where one of them has it
pub some-append : (f : List ℕ → Bool) (xs ys : List (List ℕ)) → some f (xs ++ ys) ≡ (some f xs || some f ys)
unfolding some
some-append f [] ys = refl
some-append f (x ∷ xs) ys = go (f x) (some-append f xs ys)
  where
    go : (b : Bool) → some f (xs ++ ys) ≡ (some f xs || some f ys) → (b || some f (xs ++ ys)) ≡ ((b || some f xs) || some f ys)
    go true h = refl
    go false h = h
