-- The derived orders are those of the meaning.
use Rattle.std.proofs.Common.{◌≡◌, Bool, true, false, ℤ, pos, negsuc, refl, ap, subst, arith}
use Rattle.std.specs.Ordering.{is_lt, int_cmp, partial_lt, ord_min, ord_max}
use Rattle.std.specs.Bool.{Decides, one_answer}
use Rattle.std.proofs.lemmas.Bool.Decides.{Decides-int_eq, nat_tests}
use Rattle.std.proofs.lemmas.Slice.Eq.{bytes_eq-Decides}
use Rattle.meaning.specs.Value as M
use Rattle.meaning.proofs.Order.{order-stands, true-holds}
use Rattle.meaning.specs.Value.{and3, not3, less, less_z, less_bytes, same}
use Rattle.octets.proofs.Order.{lex-is}
use Rattle.values.specs.Meant.{meaning_of, truth_of}
use Rattle.values.specs.declared.Value.{Value}
use Rattle.values.specs.declared.Value.TheVariants.{Null, Number, Text}
use Rattle.values.specs.declared.Truth.{Truth}
use Rattle.values.specs.declared.Truth.TheVariants.{Holds, Fails, Unknown}
use Rattle.values.specs.contracts.TruthOrd.TheImpl.{cmp-value}
use Rattle.values.specs.contracts.ValuePartialOrd.TheImpl.{partial_cmp-value}
use Rattle.values.specs.contracts.ValuePartialEq.TheImpl.{eq-value}

pub min-is : (a b : Truth) → truth_of (ord_min cmp-value.it a b) ≡ and3 (truth_of a) (truth_of b)
unfolding and3
min-is Fails Fails = refl
min-is Fails Unknown = refl
min-is Fails Holds = refl
min-is Unknown Fails = refl
min-is Unknown Unknown = refl
min-is Unknown Holds = refl
min-is Holds Fails = refl
min-is Holds Unknown = refl
min-is Holds Holds = refl

pub max-is : (a b : Truth) → truth_of (ord_max cmp-value.it a b) ≡ not3 (and3 (not3 (truth_of a)) (not3 (truth_of b)))
unfolding and3 not3
max-is Fails Fails = refl
max-is Fails Unknown = refl
max-is Fails Holds = refl
max-is Unknown Fails = refl
max-is Unknown Unknown = refl
max-is Unknown Holds = refl
max-is Holds Fails = refl
max-is Holds Unknown = refl
max-is Holds Holds = refl

number-is : (a b : ℤ) → is_lt (int_cmp a b) ≡ less_z a b
unfolding less_z
number-is (pos a) (pos b) = grind (arith, nat_tests)
number-is (pos a) (negsuc b) = refl
number-is (negsuc a) (pos b) = refl
number-is (negsuc a) (negsuc b) = grind (arith, nat_tests)

pub less-is : (a b : Value) → partial_lt partial_cmp-value.it a b ≡ less (meaning_of a) (meaning_of b)
unfolding less
less-is Null Null = refl
less-is Null (Number b) = refl
less-is Null (Text b) = refl
less-is (Number a) Null = refl
less-is (Number a) (Number b) = number-is a b
less-is (Number a) (Text b) = refl
less-is (Text a) Null = refl
less-is (Text a) (Number b) = refl
less-is (Text a) (Text b) = lex-is a.now b.now _ refl

not-less : (a : M.Value) → less a a ≡ false
not-less a = go (less a a) refl
  where
    go : (t : Bool) → less a a ≡ t → t ≡ false
    go false e = refl
    go true e = absurd (order-stands.0 a a (true-holds _ e) (true-holds _ e))

same-decides : (a b : M.Value) → Decides (same a b) (a ≡ b)
same-decides a b = (λ h. order-stands.2 a b (true-holds _ h), λ e. subst (λ (v : M.Value). same a v ≡ true) e (let n = not-less a in rw n refl))

pub same-is : (a b : Value) → eq-value.it a b ≡ same (meaning_of a) (meaning_of b)
unfolding less
same-is Null Null = refl
same-is Null (Number b) = refl
same-is Null (Text b) = refl
same-is (Number a) Null = refl
same-is (Number a) (Number b) = let d = Decides-int_eq a b in one_answer _ _ (λ h. ap M.Num (d.0 h), λ e. d.1 cc) (same-decides (M.Num a) (M.Num b))
same-is (Number a) (Text b) = refl
same-is (Text a) Null = refl
same-is (Text a) (Number b) = refl
same-is (Text a) (Text b) = let d = bytes_eq-Decides a.now b.now in one_answer _ _ (λ h. ap M.Text (d.0 h), λ e. d.1 cc) (same-decides (M.Text a.now) (M.Text b.now))
