-- A tree of two levels that stands, so that the laws speak of something.
use Rattle.std.specs.Prelude.{◌≡◌, ℕ, ◌+◌, List, [], ◌∷◌, length}
use Rattle.tree.specs.Entries.{Entry, Edit, put, applies}
use Rattle.tree.specs.Tree.{Node, pages, entries, Level, Stands, trim}
use Rattle.tree.specs.Change.{Replaced, Climbs}

-- an entry, and what it takes
abbrev pub e : List ℕ → List ℕ → Entry
e k v = record { key = k; value = v }

abbrev pub w : Entry → ℕ
w x = length x.key + length x.value

abbrev pub leaf : ℕ → ℕ → Node
leaf k name = record { name = name ∷ []; items = e (k ∷ 0 ∷ []) (9 ∷ 9 ∷ 9 ∷ 9 ∷ 9 ∷ []) ∷ [] }

abbrev pub leaves : List Node
leaves = leaf 0 1 ∷ leaf 1 2 ∷ leaf 2 3 ∷ []

abbrev pub tops : List Node
tops = record { name = 4 ∷ []; items = e (0 ∷ 0 ∷ []) (1 ∷ []) ∷ e (1 ∷ 0 ∷ []) (2 ∷ []) ∷ e (2 ∷ 0 ∷ []) (3 ∷ []) ∷ [] } ∷ []

abbrev pub Witness : Type 0
Witness = Level w 12 leaves × Stands w 12 3 leaves (tops ∷ [])

-- an entry put into its second leaf, whose page is then another, and the root with it
abbrev pub more : Edit
more = put (e (1 ∷ 1 ∷ []) (9 ∷ 9 ∷ 9 ∷ []))

abbrev pub second : Node
second = record { name = 5 ∷ []; items = e (1 ∷ 0 ∷ []) (9 ∷ 9 ∷ 9 ∷ 9 ∷ 9 ∷ []) ∷ e (1 ∷ 1 ∷ []) (9 ∷ 9 ∷ 9 ∷ []) ∷ [] }

abbrev pub leaves' : List Node
leaves' = leaf 0 1 ∷ second ∷ leaf 2 3 ∷ []

abbrev pub tops' : List Node
tops' = record { name = 6 ∷ []; items = e (0 ∷ 0 ∷ []) (1 ∷ []) ∷ e (1 ∷ 0 ∷ []) (5 ∷ []) ∷ e (2 ∷ 0 ∷ []) (3 ∷ []) ∷ [] } ∷ []

-- what the whole change asks for is there, and so is what it gives
abbrev pub Changed : Type 0
Changed =
    Replaced w 12 (more ∷ []) (pages leaves) (pages leaves') × Climbs w 12 3 leaves leaves' (tops ∷ []) (tops' ∷ []) ×
    (Level w 12 leaves' × (entries leaves' ≡ applies (more ∷ []) (entries leaves)) × Stands w 12 3 leaves' (trim leaves' (tops' ∷ [])))
