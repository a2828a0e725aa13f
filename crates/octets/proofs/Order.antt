-- The order of bytes: it is one, which the meaning shows, and that of slices.
use Rattle.std.proofs.Common.{◌≡◌, ℕ, Bool, true, false, List, [], ◌∷◌, Some, sym, refl, ◌∙◌, subst, arith}
use Rattle.std.proofs.lemmas.Bool.Decides.{nat_tests}
use Rattle.std.specs.Ordering.{is_lt, is_some_and, nat_cmp}
use Rattle.std.specs.Cmp.Lexicographic.{slice_partial_cmp}
use Rattle.std.proofs.lemmas.Cmp.{same_from_slice_cmp_tested}
use Rattle.meaning.specs.Value.{less_bytes}
pub use Rattle.meaning.proofs.Order.{clash, bytes-trans as less-trans, bytes-asym as less-asym, bytes-neither as less-neither}

pub never : {P : Type 0} (t : Bool) → t ≡ true → t ≡ false → P
never t h k = clash (sym k ∙ h)

pub less-same : (a : List ℕ) → less_bytes a a ≡ false
unfolding less_bytes
less-same [] = refl
less-same (x ∷ a) = let ih = less-same a in grind (arith, nat_tests)

-- a below b, b not above c
pub less-from : (a b c : List ℕ) → less_bytes a b ≡ true → less_bytes c b ≡ false → less_bytes a c ≡ true
less-from a b c h k = go (less_bytes b c) refl
  where
    go : (t : Bool) → less_bytes b c ≡ t → less_bytes a c ≡ true
    go true e = less-trans a b c h e
    go false e = subst (λ z. less_bytes a z ≡ true) (less-neither b c e k) h

-- a not above b, b below c
pub from_less : (a b c : List ℕ) → less_bytes b a ≡ false → less_bytes b c ≡ true → less_bytes a c ≡ true
from_less a b c h k = go (less_bytes a b) refl
  where
    go : (t : Bool) → less_bytes a b ≡ t → less_bytes a c ≡ true
    go true e = less-trans a b c e k
    go false e = subst (λ z. less_bytes z c ≡ true) (less-neither b a h e) k

-- the order of slices is that of their bytes
pub lex-is : (xs ys : List ℕ) (r : Bool) → r ≡ is_some_and is_lt (slice_partial_cmp (λ x y. Some (nat_cmp x y)) xs ys) → r ≡ less_bytes xs ys
unfolding less_bytes
lex-is = same_from_slice_cmp_tested nat_cmp is_lt less_bytes refl (λ _ _. refl) (λ _ _. refl) (λ x y xs ys o h. grind (arith, nat_tests))
