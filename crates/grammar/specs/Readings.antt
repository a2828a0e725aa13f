-- A text is at most one statement, and whether it is one can be told.
use Rattle.std.specs.Prelude.{◌≡◌, ℕ, ◌⊎◌, List}
use Rattle.meaning.specs.Tree.{Statement}
use Rattle.meaning.specs.Grammar.{Reads}

abbrev pub OneReading : Type 0
OneReading = (bytes : List ℕ) (p q : Statement) → Reads bytes p → Reads bytes q → p ≡ q

abbrev pub CanTell : Type 0
CanTell = (bytes : List ℕ) → ((q : Statement) × Reads bytes q) ⊎ ((q : Statement) → Reads bytes q → ⊥)
