-- Rows as bytes: each value by a first byte that says its kind, exactly as many bytes as it weighs; and what bytes are the row of.
use Rattle.std.specs.Prelude.{◌≡◌, ℕ, zero, suc, ◌+◌, ◌-◌, ◌≤◌, Bool, cond, ◌&&◌, List, [], ◌∷◌, ◌++◌, length, take, drop, ℤ, pos, negsuc, Some, None, Option, MatchOption, ◌==◌, nat_le, nat_lt}
use Rattle.std.specs.Option.{option_map}
use Rattle.std.specs.Int.Digits.{number_from_digits}
use Rattle.std.specs.List.{AllByRecursion}
use Rattle.meaning.specs.Value.{Value, Null, Num, Text}
use Rattle.meaning.specs.Meaning.{nth}
use Rattle.meaning.specs.Doing.{weight, weight_all}
use Rattle.octets.specs.Numbers.{be, Bytes}
use Rattle.values.specs.Key.{lifted, Storable}
use Rattle.values.specs.Meant.{meaning_of}
use Rattle.values.specs.declared.Value as V
use Rattle.values.specs.declared.row.First.{First}

-- null: 0. A number: 1, and 8 bytes of it with 2^63 added. A text: 2, its length in 2 bytes, and its bytes
unfoldable pub bytes_of : Value → List ℕ
bytes_of Null = 0 ∷ []
bytes_of (Num n) = 1 ∷ be 8 (lifted n)
bytes_of (Text t) = 2 ∷ be 2 (length t) ++ t

-- a row: its values one behind the other
unfoldable pub row_bytes : List Value → List ℕ
row_bytes [] = []
row_bytes (v ∷ vs) = bytes_of v ++ row_bytes vs

-- a value has room behind `at`; 2 bytes hold a text's length
abbrev pub has_room : List ℕ → ℕ → Value → Bool
has_room out at v = nat_le (at + weight v) (length out) && nat_le (weight v) 65538

-- the number of which 8 bytes hold 2^63 more
unfoldable pub lowered : ℕ → ℤ
lowered n = cond (nat_lt n 9223372036854775808) (negsuc (9223372036854775807 - n)) (pos (n - 9223372036854775808))

-- a value and the bytes behind it
pub record Split : Type 0 where
  pub value : Value
  pub rest : List ℕ

-- a text of n bytes
abbrev pub text_front : ℕ → List ℕ → Option Split
text_front n bs = cond (nat_le n (length bs)) (Some (record { value = Text (take n bs); rest = drop n bs })) None

-- what stands behind the first byte
abbrev pub front_of : ℕ → List ℕ → Option Split
front_of kind bs =
    cond (kind == 0) (Some (record { value = Null; rest = bs }))
    (cond (kind == 1) (cond (nat_le 8 (length bs)) (Some (record { value = Num (lowered (number_from_digits 256 (take 8 bs))); rest = drop 8 bs })) None)
    (cond (kind == 2) (cond (nat_le 2 (length bs)) (text_front (number_from_digits 256 (take 2 bs)) (drop 2 bs)) None) None))

-- the first value of bytes and what is behind it, or none where no value stands there
unfoldable pub front : List ℕ → Option Split
front [] = None
front (kind ∷ bs) = front_of kind bs

-- the same of the code
abbrev pub seen : First → Split
seen f = record { value = meaning_of f.value; rest = f.rest.now }

-- a value of the code is taken off the front, or nothing where none stands there
abbrev pub Takes : List ℕ → Option V.Value → List ℕ → Type 0
Takes bs v rest = MatchOption v ((front bs ≡ None) × (rest ≡ bs)) (λ (w : V.Value). front bs ≡ Some (record { value = meaning_of w; rest = rest }))

-- what is made of the first value, where one stands there
abbrev pub chained : {A : Type 0} → Option Split → (Split → Option A) → Option A
chained None f = None
chained (Some s) f = f s

-- the value of column i
unfoldable pub column_of : ℕ → List ℕ → Option Value
column_of zero bs = chained (front bs) (λ (s : Split). Some s.value)
column_of (suc i) bs = chained (front bs) (λ (s : Split). column_of i s.rest)

-- the row that bytes are, taking at most f values; none where they are none
unfoldable pub row_by : ℕ → List ℕ → Option (List Value)
row_by f [] = Some []
row_by zero (b ∷ bs) = None
row_by (suc f) (b ∷ bs) = chained (front (b ∷ bs)) (λ (s : Split). option_map (λ (vs : List Value). s.value ∷ vs) (row_by f s.rest))

-- the row that bytes are: each value takes a byte at least
abbrev pub row_of : List ℕ → Option (List Value)
row_of bs = row_by (length bs) bs

-- what is written is read: a row of values that can be stored, of texts whose length 2 bytes hold
abbrev pub RowsRead : Type 0
RowsRead = (vs : List Value) → AllByRecursion Storable vs → weight_all vs ≤ 65538 → row_of (row_bytes vs) ≡ Some vs

-- bytes that are a row are the bytes of that row
abbrev pub RowsWritten : Type 0
RowsWritten = (bs : List ℕ) (vs : List Value) → Bytes bs → row_of bs ≡ Some vs → row_bytes vs ≡ bs

-- a column of bytes that are a row
abbrev pub RowsColumns : Type 0
RowsColumns = (bs : List ℕ) (vs : List Value) (i : ℕ) → row_of bs ≡ Some vs → column_of i bs ≡ cond (nat_lt i (length vs)) (Some (nth i vs)) None

-- a row takes as many bytes as it weighs
abbrev pub RowsWeigh : Type 0
RowsWeigh = (vs : List Value) → length (row_bytes vs) ≡ weight_all vs
