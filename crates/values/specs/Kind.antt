-- What a value is, as a number.
use Rattle.std.specs.Prelude.{ℕ}
use Rattle.values.specs.declared.Value.{Value}
use Rattle.values.specs.declared.Value.TheVariants as V
use Rattle.values.specs.declared.kind.Kind.{Kind}
use Rattle.values.specs.declared.kind.Kind.TheVariants.{Null, Number, Text}

abbrev pub number_of : Kind → ℕ
number_of Null = 0
number_of Number = 1
number_of Text = 2

abbrev pub kind_of : Value → Kind
kind_of V.Null = Null
kind_of (V.Number n) = Number
kind_of (V.Text t) = Text
