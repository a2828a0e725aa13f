-- What a column of a key is the code of: a rising column read back.
use Rattle.std.specs.Prelude.{◌≡◌, ℕ, zero, suc, ◌-◌, ◌<◌, ◌≤◌, cond, List, [], ◌∷◌, ◌++◌, length, Some, None, Option, ◌==◌}
use Rattle.std.specs.Option.{option_map}
use Rattle.meaning.specs.Value.{Value, Text}
use Rattle.meaning.specs.Doing.{weight}
use Rattle.octets.specs.Numbers.{Bytes}
use Rattle.values.specs.Key.{rising_code, Storable}
use Rattle.values.specs.Row.{Split, front_of}
use Rattle.values.specs.declared.back.Next.{Next}
use Rattle.values.specs.declared.back.Next.TheVariants.{Byte, End}

-- a text, and the bytes behind it
pub record Taken : Type 0 where
  pub text : List ℕ
  pub rest : List ℕ

-- a byte before a text that has room for it
abbrev pub added : ℕ → ℕ → Option Taken → Option Taken
added room b o = cond (room == 0) None (option_map (λ (t : Taken). record { text = b ∷ t.text; rest = t.rest }) o)

-- the text of at most `room` bytes that escaped bytes begin with; none where they don't
unfoldable pub unescaped : (room : ℕ) → List ℕ → Option Taken
unescaped room [] = None
unescaped room (zero ∷ []) = None
unescaped room (zero ∷ mark ∷ bs) = cond (mark == 1) (Some (record { text = []; rest = bs })) (cond (mark == 255) (added room 0 (unescaped (room - 1) bs)) None)
unescaped room (suc b ∷ bs) = added room (suc b) (unescaped (room - 1) bs)

-- a text of at most 4,000 bytes
abbrev pub text_back : List ℕ → Option Split
text_back bs = option_map (λ (t : Taken). record { value = Text t.text; rest = t.rest }) (unescaped 4000 bs)

-- what stands behind the first byte of a column
abbrev pub back_of : ℕ → List ℕ → Option Split
back_of kind bs = cond (kind == 1) (front_of 0 bs) (cond (kind == 2) (front_of 1 bs) (cond (kind == 3) (text_back bs) None))

-- the value of a rising column and what is behind it; none where no column stands there, or its text has more than 4,000 bytes
unfoldable pub back : List ℕ → Option Split
back [] = None
back (kind ∷ bs) = back_of kind bs

-- one byte of an escaped text, its end, or bytes that are none: whatever room there is
abbrev pub Steps : List ℕ → Option Next → Type 0
Steps bs (Some (Byte b rest)) = ((room : ℕ) → unescaped room bs ≡ added room b (unescaped (room - 1) rest.now)) × (length rest.now < length bs)
Steps bs (Some (End rest)) = (room : ℕ) → unescaped room bs ≡ Some (record { text = []; rest = rest.now })
Steps bs None = (room : ℕ) → unescaped room bs ≡ None

-- what is written is read
abbrev pub ColumnsRead : Type 0
ColumnsRead = (v : Value) (rest : List ℕ) → Storable v → weight v ≤ 4003 → back (rising_code v ++ rest) ≡ Some (record { value = v; rest = rest })

-- bytes that are read as a column are the bytes of that column
abbrev pub ColumnsWritten : Type 0
ColumnsWritten = (bs : List ℕ) (s : Split) → Bytes bs → back bs ≡ Some s → rising_code s.value ++ s.rest ≡ bs
