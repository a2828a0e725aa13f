-- What a value of the code means.
use Rattle.std.specs.Prelude.{◌≡◌, ℤ, Some, None, Option}
use Rattle.meaning.specs.Value as M
use Rattle.values.specs.declared.Value.{Value}
use Rattle.values.specs.declared.Value.TheVariants.{Null, Number, Text}
use Rattle.values.specs.declared.Truth.{Truth}
use Rattle.values.specs.declared.Truth.TheVariants.{Holds, Fails, Unknown}

-- a text means the bytes that it points to
abbrev pub meaning_of : Value → M.Value
meaning_of Null = M.Null
meaning_of (Number n) = M.Num n
meaning_of (Text t) = M.Text t.now

-- the three answers of a test
abbrev pub truth_of : Truth → M.Truth
truth_of Holds = M.Holds
truth_of Fails = M.Fails
truth_of Unknown = M.Unknown

-- a number, or null where there is none
abbrev pub number_or : Option ℤ → M.Value
number_or (Some n) = M.Num n
number_or None = M.Null

-- a tested operation gives what 64 bits hold of f, else nothing
abbrev pub Computes : (ℤ → ℤ → Option ℤ → Type 0) → (ℤ → ℤ → ℤ) → Type 0
Computes post f = (a b : ℤ) (o : Option ℤ) → post a b o → number_or o ≡ M.fits (f a b)
