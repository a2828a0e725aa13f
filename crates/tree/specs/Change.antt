-- A change of a tree, level by level.
use Rattle.std.specs.Prelude.{◌≡◌, ℕ, ◌+◌, ◌≤◌, cond, ◌&&◌, List, [], ◌∷◌, ◌++◌}
use Rattle.std.specs.List.{AllByRecursion}
use Rattle.meaning.specs.Value.{less_bytes}
use Rattle.tree.specs.Entries.{Entry, Under, Above, Edit, put, del, spot, applies}
use Rattle.tree.specs.Pages.{Page, concat, Fits, join, Beside, spread}
use Rattle.tree.specs.Tree.{Node, heads, pages, raised, singles, top}

-- new is old with the pages where the edits belong edited, cut into any pages that fit, and these joined with their neighbours
pub record Replaced (w : Entry → ℕ) (cap : ℕ) (es : List Edit) (old new : List Page) : Type 0 where
  pub before : List Page
  pub left : List Page
  pub page : Page
  pub run : List Page
  pub right : List Page
  pub after : List Page
  pub leftmost : Beside before left
  pub rightmost : Beside after right
  pub low : AllByRecursion (λ (e : Edit). Under (spot e) (concat (before ++ left))) es
  pub high : AllByRecursion (λ (e : Edit). Above (spot e) (concat (right ++ after))) es
  pub was : old ≡ before ++ (left ++ ((page ∷ run) ++ (right ++ after)))
  pub news : List Page
  pub fits : AllByRecursion (Fits w cap) news
  pub holds : concat news ≡ applies es (concat (page ∷ run))
  pub now : new ≡ before ++ (join w cap (left ++ (news ++ right)) ++ after)

-- from one level's change up: to a level that stays as it is, or to the top
pub data Climbs (w : Entry → ℕ) (cap m : ℕ) : List Node → List Node → List (List Node) → List (List Node) → Type 0 where
  stays : (b : List Node) (more : List (List Node)) → Climbs w cap m b b more more
  ends : (b c : List Node) → Climbs w cap m b c [] []
  rises : (pre old new post us vs : List Node) (more news : List (List Node)) → AllByRecursion (λ (x : Entry). w x ≤ m) (heads (pre ++ (new ++ post))) → Replaced w cap (raised old new) (pages us) (pages vs) → Climbs w cap m us vs more news →
      Climbs w cap m (pre ++ (old ++ post)) (pre ++ (new ++ post)) (us ∷ more) (vs ∷ news)

-- what the entries weigh that edits put
unfoldable pub puts_weigh : (Entry → ℕ) → List Edit → ℕ
puts_weigh w [] = 0
puts_weigh w (put e ∷ es) = w e + puts_weigh w es
puts_weigh w (del k ∷ es) = puts_weigh w es

-- new top levels, each the heads of the old top, joined
pub data Topped (w : Entry → ℕ) (cap m : ℕ) (c : List Node) : List (List Node) → List (List Node) → Type 0 where
  as_is : (more : List (List Node)) → Topped w cap m c more more
  new_top : (more news : List (List Node)) (ns : List Node) → AllByRecursion (λ (x : Entry). w x ≤ m) (heads (top c more)) → pages ns ≡ join w cap (singles (heads (top c more))) → Topped w cap m c (more ++ (ns ∷ [])) news → Topped w cap m c more news

-- how many keys lie strictly between two
unfoldable pub within : List ℕ → List ℕ → List Entry → ℕ
within lo hi [] = 0
within lo hi (x ∷ xs) = cond (less_bytes lo x.key && less_bytes x.key hi) 1 0 + within lo hi xs

-- the last page before a run, and those before it; the first page after it, and those after that
unfoldable pub lasts : List Page → List Page
lasts [] = []
lasts (x ∷ []) = x ∷ []
lasts (x ∷ y ∷ ys) = lasts (y ∷ ys)

unfoldable pub fronts : List Page → List Page
fronts [] = []
fronts (x ∷ []) = []
fronts (x ∷ y ∷ ys) = x ∷ fronts (y ∷ ys)

unfoldable pub firsts : List Page → List Page
firsts [] = []
firsts (x ∷ xs) = x ∷ []

unfoldable pub rests : List Page → List Page
rests [] = []
rests (x ∷ xs) = xs

-- the level a, p, ps, z with the edits, which belong to p and ps: this is what code over pages computes
unfoldable pub replace : (Entry → ℕ) → ℕ → List Edit → List Page → Page → List Page → List Page → List Page
replace w cap es a p ps z = fronts a ++ (join w cap (lasts a ++ (spread w cap es p ps ++ firsts z)) ++ rests z)
