-- What the tokens stand for that the code has cut from the bytes.
use Rattle.std.specs.Prelude.{◌≡◌, ℕ, ◌+◌, ◌*◌, ◌<◌, ◌≤◌, Bool, true, false, ◌||◌, List, [], ◌∷◌, map, length, take, drop, ◌==◌, slice_index}
use Rattle.meaning.specs.Text as text
use Rattle.meaning.specs.Text.{Token, Between, tokens, small, less_by, letter, digit, is_in, spaces, at_most_sign, differs_sign, joined_sign, at_least_sign}
use Rattle.text.specs.declared.nodes.Span.{Span}
use Rattle.text.specs.declared.tokens.Sign as signs
use Rattle.text.specs.declared.tokens.Sign.TheVariants as sign
use Rattle.text.specs.declared.tokens.Tok.{Tok}
use Rattle.text.specs.declared.tokens.Tok.TheVariants.{Word, Number, Quoted, Sign, Wrong, End}
use Rattle.text.specs.declared.tokens.Place.{Place}

-- the bytes of a part
abbrev pub part : List ℕ → Span → List ℕ
part bs s = take s.len (drop s.from bs)

-- a name: capitals are read as small letters
abbrev pub name : List ℕ → Span → List ℕ
name bs s = map small (part bs s)

-- the value of digits, read on from a
unfoldable pub decimal : ℕ → List ℕ → ℕ
decimal a [] = a
decimal a (b ∷ bs) = decimal (10 * a + less_by 48 b) bs

-- a quoted text without its doubled quotes; skip: the byte before was the first of two
unfoldable pub undoubled : Bool → List ℕ → List ℕ
undoubled skip [] = []
undoubled false (b ∷ bs) = b ∷ undoubled (b == 39) bs
undoubled true (b ∷ bs) = undoubled false bs

abbrev pub in_word : ℕ → Bool
in_word b = letter b || digit b

abbrev pub space : ℕ → Bool
space b = is_in b spaces

-- the byte with which no word, number, text or space begins
abbrev pub Opens : ℕ → Type 0
Opens b = (letter b ≡ false) × (digit b ≡ false) × (b ≡ 39 → ⊥) × (space b ≡ false)

-- the number of a sign: its byte, or from 256 on where it has two
abbrev pub number_of : signs.Sign → ℕ
number_of sign.Open = 40
number_of sign.Close = 41
number_of sign.Comma = 44
number_of sign.Dot = 46
number_of sign.Times = 42
number_of sign.Plus = 43
number_of sign.Minus = 45
number_of sign.Equal = 61
number_of sign.Below = 60
number_of sign.AtMost = at_most_sign
number_of sign.Differs = differs_sign
number_of sign.Above = 62
number_of sign.AtLeast = at_least_sign
number_of sign.Joined = joined_sign

-- the tokens from a cut token on
abbrev pub tokens_of : List ℕ → Tok → ℕ → List Token
tokens_of bs (Word p) r = text.Word (name bs p) ∷ tokens Between (drop r bs)
tokens_of bs (Number p) r = text.Number (decimal 0 (part bs p)) ∷ tokens Between (drop r bs)
tokens_of bs (Quoted p) r = text.Quoted (undoubled false (part bs p)) ∷ tokens Between (drop r bs)
tokens_of bs (Sign b) r = text.Sign (number_of b) ∷ tokens Between (drop r bs)
tokens_of bs Wrong r = text.Wrong ∷ tokens Between (drop r bs)
tokens_of bs End r = []

abbrev pub tokens_at : List ℕ → Place → List Token
tokens_at bs x = tokens_of bs x.tok x.rest

-- the first n bytes are of a kind, and the next is not
pub record Run (p : ℕ → Bool) (bs : List ℕ) (n : ℕ) : Type 0 where
  pub within : n ≤ length bs
  pub all : (k : ℕ) → k < n → p (slice_index bs k) ≡ true
  pub stops : n < length bs → p (slice_index bs n) ≡ false

-- the same of a test by what its calls may answer
pub record RunBy (P : ℕ → Bool → Type 0) (bs : List ℕ) (n : ℕ) : Type 0 where
  pub within : n ≤ length bs
  pub all : (k : ℕ) → k < n → P (slice_index bs k) true
  pub stops : n < length bs → P (slice_index bs n) false
