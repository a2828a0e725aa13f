-- Keys as bytes: comparing the bytes is comparing the values, column by column, each rising or falling.
use Rattle.std.specs.Prelude.{◌≡◌, ℕ, zero, suc, ◌+◌, ◌-◌, ◌*◌, ◌≤◌, Bool, true, false, cond, ◌&&◌, ◌||◌, List, [], ◌∷◌, ◌++◌, length, ℤ, pos, negsuc, nat_le}
use Rattle.std.specs.List.{AllByRecursion}
use Rattle.meaning.specs.Value.{Value, Null, Num, Text, fits, less_bytes}
use Rattle.meaning.specs.Meaning.{same_all, earlier}
use Rattle.meaning.specs.Doing.{weight, key_weight}
use Rattle.values.specs.declared.key.Direction.{Direction}
use Rattle.values.specs.declared.key.Direction.TheVariants.{Rising, Falling}
use Rattle.octets.specs.Numbers.{be, Bytes, turned}

-- a number as one that is not negative: 2^63 is added
unfoldable pub lifted : ℤ → ℕ
lifted (pos n) = n + 9223372036854775808
lifted (negsuc n) = 9223372036854775807 - n

-- a text with 0, 255 for each 0 in it, and 0, 1 behind it: so a text comes right before those that it begins
unfoldable pub escaped : List ℕ → List ℕ
escaped [] = 0 ∷ 1 ∷ []
escaped (zero ∷ bs) = 0 ∷ 255 ∷ escaped bs
escaped (suc b ∷ bs) = suc b ∷ escaped bs

-- a rising column: nulls first, then numbers, then texts
unfoldable pub rising_code : Value → List ℕ
rising_code Null = 1 ∷ []
rising_code (Num n) = 2 ∷ be 8 (lifted n)
rising_code (Text t) = 3 ∷ escaped t

-- whether a column of the code falls
abbrev pub falls : Direction → Bool
falls Rising = false
falls Falling = true

-- a column of a key; a falling one has each byte taken from 255
abbrev pub code_of : (falling : Bool) → Value → List ℕ
code_of falling v = cond falling (turned (rising_code v)) (rising_code v)

-- a column of a key has room behind `at`: 1 and twice the value's weight, as many bytes as it can take
abbrev pub column_room : List ℕ → ℕ → Value → Bool
column_room out at v = nat_le (at + (2 * weight v + 1)) (length out)

-- a key: its columns one behind the other
unfoldable pub code : List Bool → List Value → List ℕ
code [] vs = []
code (d ∷ ds) [] = []
code (d ∷ ds) (v ∷ vs) = code_of d v ++ code ds vs

-- a value that a table can hold: a number of 64 bits, a text of bytes
abbrev pub Storable : Value → Type 0
Storable Null = Unit {0}
Storable (Num n) = fits n ≡ Num n
Storable (Text t) = Bytes t

-- comparing the bytes is comparing the values in that order
abbrev pub KeysOrdered : Type 0
KeysOrdered = (ds : List Bool) (xs ys : List Value) → AllByRecursion Storable xs → AllByRecursion Storable ys → length xs ≡ length ys → less_bytes (code ds xs) (code ds ys) ≡ earlier ds xs ys

-- what follows two keys decides only where the keys are the same, so a row's number can follow
abbrev pub KeysFollowed : Type 0
KeysFollowed = (ds : List Bool) (xs ys : List Value) (r s : List ℕ) → AllByRecursion Storable xs → AllByRecursion Storable ys → length xs ≡ length ds → length ys ≡ length ds → less_bytes (code ds xs ++ r) (code ds ys ++ s) ≡ (earlier ds xs ys || (same_all xs ys && less_bytes r s))

-- the test of two strings of bytes that begin with keys is that of the keys, and where these are the same, of what follows them
abbrev pub OrdersKeys : List ℕ → List ℕ → Bool → Type 0
OrdersKeys a b t = (ds : List Bool) (xs ys : List Value) (r s : List ℕ) → AllByRecursion Storable xs → AllByRecursion Storable ys → length xs ≡ length ds → length ys ≡ length ds → a ≡ code ds xs ++ r → b ≡ code ds ys ++ s → t ≡ (earlier ds xs ys || (same_all xs ys && less_bytes r s))

-- no key is a beginning of another: whatever follows, the same bytes are the same key and the same rest
abbrev pub KeysApart : Type 0
KeysApart = (ds : List Bool) (xs ys : List Value) (r s : List ℕ) → AllByRecursion Storable xs → AllByRecursion Storable ys → length xs ≡ length ds → length ys ≡ length ds → code ds xs ++ r ≡ code ds ys ++ s → (xs ≡ ys) × (r ≡ s)

-- a key takes at most 1 and twice its weight a column
abbrev pub KeysShort : Type 0
KeysShort = (ds : List Bool) (vs : List Value) → length (code ds vs) ≤ key_weight vs
