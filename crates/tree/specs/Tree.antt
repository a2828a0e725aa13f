-- Levels of pages with names, and the tree that they make.
use Rattle.std.specs.Prelude.{◌≡◌, ℕ, ◌+◌, ◌≤◌, cond, List, [], ◌∷◌, ◌++◌, length, nat_le}
use Rattle.std.specs.List.{AllByRecursion}
use Rattle.tree.specs.Entries.{Entry, first_key, Rising, Edit, put, del}
use Rattle.tree.specs.Pages.{Page, concat, Fits, Apart}

-- a page where it lies: its name is the number by which it is reached, as bytes
pub record Node : Type 0 where
  pub name : List ℕ
  pub items : Page

abbrev pub head : Node → Entry
head n = record { key = first_key n.items; value = n.name }

unfoldable pub heads : List Node → List Entry
heads [] = []
heads (n ∷ ns) = head n ∷ heads ns

unfoldable pub pages : List Node → List Page
pages [] = []
pages (n ∷ ns) = n.items ∷ pages ns

-- all entries of a level, in order
abbrev pub entries : List Node → List Entry
entries ns = concat (pages ns)

pub record Level (w : Entry → ℕ) (cap : ℕ) (ns : List Node) : Type 0 where
  pub fit : AllByRecursion (Fits w cap) (pages ns)
  pub apart : Apart w cap (pages ns)
  pub rising : Rising (entries ns)

-- the levels above one: each has the heads of the one below, entries of at most m, and only the top is one page
abbrev pub Stands : (Entry → ℕ) → ℕ → ℕ → List Node → List (List Node) → Type 0
Stands w cap m below [] = length below ≡ 1
Stands w cap m below (ns ∷ more) = Level w cap ns × AllByRecursion (λ (x : Entry). w x ≤ m) (entries ns) × (entries ns ≡ heads below) × (2 ≤ length below) × Stands w cap m ns more

unfoldable pub count_all : List (List Node) → ℕ
count_all [] = 0
count_all (l ∷ ls) = length l + count_all ls

-- the edits that a level's change makes in the level above: the old heads go, the new ones come
unfoldable pub dels : List Entry → List Edit
dels [] = []
dels (x ∷ xs) = del x.key ∷ dels xs

unfoldable pub puts : List Entry → List Edit
puts [] = []
puts (x ∷ xs) = put x ∷ puts xs

abbrev pub raised : List Node → List Node → List Edit
raised old new = dels (heads old) ++ puts (heads new)

-- each entry a page of its own
unfoldable pub singles : List Entry → List Page
singles [] = []
singles (x ∷ xs) = (x ∷ []) ∷ singles xs

-- as Stands, but for the height: levels above one, each with the heads of the one below
abbrev pub Linked : (Entry → ℕ) → ℕ → ℕ → List Node → List (List Node) → Type 0
Linked w cap m below [] = Unit {0}
Linked w cap m below (ns ∷ more) = Level w cap ns × AllByRecursion (λ (x : Entry). w x ≤ m) (entries ns) × (entries ns ≡ heads below) × Linked w cap m ns more

unfoldable pub top : List Node → List (List Node) → List Node
top below [] = below
top below (ns ∷ more) = top ns more

-- what stands above a level of one page goes
unfoldable pub trim : List Node → List (List Node) → List (List Node)
trim below [] = []
trim below (ns ∷ more) = cond (nat_le (length below) 1) [] (ns ∷ trim ns more)
