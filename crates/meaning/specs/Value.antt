-- Values, their order, and what is computed with them. Nothing here can fail: what has no result is null.
use Rattle.std.specs.Prelude.{ℕ, zero, suc, ◌+◌, Bool, true, false, cond, not, ◌&&◌, ◌||◌, List, [], ◌∷◌, ◌++◌, length, ℤ, pos, negsuc, ◌+ℤ◌, ◌==◌, nat_lt}

pub data Value : Type 0 where
  Null : Value
  Num : ℤ → Value
  Text : List ℕ → Value

pub data Truth : Type 0 where
  Holds Fails Unknown : Truth

-- a number that 64 bits with a sign don't hold is null
unfoldable pub fits : ℤ → Value
fits (pos n) = cond (nat_lt n 9223372036854775808) (Num (pos n)) Null
fits (negsuc n) = cond (nat_lt n 9223372036854775808) (Num (negsuc n)) Null

unfoldable pub less_z : ℤ → ℤ → Bool
less_z (pos a) (pos b) = nat_lt a b
less_z (pos a) (negsuc b) = false
less_z (negsuc a) (pos b) = true
less_z (negsuc a) (negsuc b) = nat_lt b a

unfoldable pub less_bytes : List ℕ → List ℕ → Bool
less_bytes xs [] = false
less_bytes [] (y ∷ ys) = true
less_bytes (x ∷ xs) (y ∷ ys) = nat_lt x y || (x == y && less_bytes xs ys)

-- the order of values: null, then numbers, then texts by bytes
unfoldable pub less : Value → Value → Bool
less Null Null = false
less Null (Num b) = true
less Null (Text b) = true
less (Num a) Null = false
less (Num a) (Num b) = less_z a b
less (Num a) (Text b) = true
less (Text a) Null = false
less (Text a) (Num b) = false
less (Text a) (Text b) = less_bytes a b

-- equal values: neither is less
abbrev pub same : Value → Value → Bool
same a b = not (less a b) && not (less b a)

-- a number but 0 holds, 0 and texts fail, null is neither
unfoldable pub truth : Value → Truth
truth Null = Unknown
truth (Num (pos zero)) = Fails
truth (Num (pos (suc n))) = Holds
truth (Num (negsuc n)) = Holds
truth (Text t) = Fails

unfoldable pub from_truth : Truth → Value
from_truth Holds = Num (pos 1)
from_truth Fails = Num (pos 0)
from_truth Unknown = Null

-- and, not with three answers
unfoldable pub and3 : Truth → Truth → Truth
and3 Holds b = b
and3 Fails b = Fails
and3 Unknown Holds = Unknown
and3 Unknown Fails = Fails
and3 Unknown Unknown = Unknown

unfoldable pub not3 : Truth → Truth
not3 Holds = Fails
not3 Fails = Holds
not3 Unknown = Unknown

unfoldable pub holds : Truth → Bool
holds Holds = true
holds Fails = false
holds Unknown = false

abbrev pub from_bool : Bool → Value
from_bool b = cond b (Num (pos 1)) (Num (pos 0))

unfoldable pub is_null : Value → Bool
is_null Null = true
is_null (Num a) = false
is_null (Text t) = false

-- a comparison with null is null, else 1 or 0
abbrev pub compared : (Value → Value → Bool) → Value → Value → Value
compared f a b = cond (is_null a || is_null b) Null (from_bool (f a b))

-- arithmetic with null or a text is null
unfoldable pub arithmetic : (ℤ → ℤ → ℤ) → Value → Value → Value
arithmetic f (Num a) (Num b) = fits (f a b)
arithmetic f (Num a) Null = Null
arithmetic f (Num a) (Text t) = Null
arithmetic f Null b = Null
arithmetic f (Text t) b = Null

-- texts joined; null where more than 4,000 bytes would come out
unfoldable pub joined : Value → Value → Value
joined (Text a) (Text b) = cond (nat_lt 4000 (length a + length b)) Null (Text (a ++ b))
joined (Text a) Null = Null
joined (Text a) (Num b) = Null
joined Null b = Null
joined (Num a) b = Null

-- the aggregates of a group: count passes by null, sum all but numbers, min and max null
pub data Aggregate : Type 0 where
  Count Sum Min Max : Aggregate

unfoldable pub counted : List Value → ℕ
counted [] = 0
counted (v ∷ vs) = cond (is_null v) (counted vs) (1 + counted vs)

unfoldable pub numbers : List Value → List ℤ
numbers [] = []
numbers (Num a ∷ vs) = a ∷ numbers vs
numbers (Null ∷ vs) = numbers vs
numbers (Text t ∷ vs) = numbers vs

unfoldable pub total : List ℤ → ℤ
total [] = pos 0
total (a ∷ as') = a +ℤ total as'

unfoldable pub summed : List ℤ → Value
summed [] = Null
summed (a ∷ as') = fits (a +ℤ total as')

unfoldable pub best : (Value → Value → Bool) → List Value → Value
best f [] = Null
best f (v ∷ vs) = cond (is_null v) (best f vs) (cond (is_null (best f vs) || not (f (best f vs) v)) v (best f vs))

unfoldable pub aggregated : Aggregate → List Value → Value
aggregated Count vs = fits (pos (counted vs))
aggregated Sum vs = summed (numbers vs)
aggregated Min vs = best less vs
aggregated Max vs = best (λ a b. less b a) vs
