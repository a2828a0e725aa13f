-- Looking for a key, level by level.
use Rattle.std.specs.Prelude.{◌≡◌, ℕ, zero, suc, ◌<◌, true, false, cond, List, [], ◌∷◌, ◌++◌, length}
use Rattle.std.specs.List.{AllByRecursion}
use Rattle.meaning.specs.Value.{less_bytes}
use Rattle.tree.specs.Entries.{Entry, first_key, Reply, Nothing, Found, first_from, last_before}
use Rattle.tree.specs.Pages.{Page}
use Rattle.tree.specs.Tree.{Node, head, heads, entries}

-- the first key of a list, if there is one; the first of two
unfoldable pub lead : List Entry → List (List ℕ)
lead [] = []
lead (x ∷ xs) = x.key ∷ []

unfoldable pub either : List (List ℕ) → List (List ℕ) → List (List ℕ)
either [] ys = ys
either (x ∷ xs) ys = x ∷ []

-- no first key, or one above k; or one not below k
abbrev pub Over : List ℕ → List (List ℕ) → Type 0
Over k [] = Unit {0}
Over k (x ∷ xs) = less_bytes k x ≡ true

abbrev pub NotUnder : List ℕ → List (List ℕ) → Type 0
NotUnder k [] = Unit {0}
NotUnder k (x ∷ xs) = less_bytes x k ≡ false

-- nothing before, or a key that isn't above k
abbrev pub Reached : {X : Type 0} → List X → List ℕ → List ℕ → Type 0
Reached [] f k = Unit {0}
Reached (x ∷ xs) f k = less_bytes k f ≡ false

-- x is the last entry of a page whose key isn't above k, or the first, if there is none
abbrev pub Chosen : List ℕ → List Entry → Entry → List Entry → Type 0
Chosen k a x c = Reached a x.key k × Over k (lead c)

-- n is the page where k belongs, of a level that is pre, n and post
abbrev pub Belongs : List ℕ → List Node → Node → List Node → Type 0
Belongs k pre n post = Reached pre (first_key n.items) k × Over k (lead (heads post))

-- x is the last entry of a page whose key is below k; n is the last page of a level whose first key is below k
abbrev pub ChosenUnder : List ℕ → List Entry → Entry → List Entry → Type 0
ChosenUnder k a x c = (less_bytes x.key k ≡ true) × NotUnder k (lead c)

abbrev pub LastUnder : List ℕ → List Node → Node → List Node → Type 0
LastUnder k pre n post = (less_bytes (first_key n.items) k ≡ true) × NotUnder k (lead (heads post))

-- where an entry of the level above leads: its page, with what stands before and after it
pub record Child (below : List Node) (x : Entry) (P : List Node → Node → List Node → Type 0) : Type 0 where
  pub before : List Node
  pub here : Node
  pub after : List Node
  pub whole : below ≡ before ++ (here ∷ after)
  pub named : head here ≡ x
  pub holds : P before here after

unfoldable pub first_of : List Entry → Reply
first_of [] = Nothing
first_of (x ∷ xs) = Found x

unfoldable pub or_else : Reply → Reply → Reply
or_else Nothing r = r
or_else (Found x) r = Found x

-- the last of x ∷ xs whose key isn't above k, or x; and the last whose key is below k, or x
unfoldable pub pick : List ℕ → Entry → List Entry → Entry
pick k x [] = x
pick k x (y ∷ ys) = cond (less_bytes k y.key) x (pick k y ys)

unfoldable pub pick_under : List ℕ → Entry → List Entry → Entry
pick_under k x [] = x
pick_under k x (y ∷ ys) = cond (less_bytes y.key k) (pick_under k y ys) x

unfoldable pub child : (List ℕ → Entry → List Entry → Entry) → List ℕ → Page → List ℕ
child choose k [] = []
child choose k (x ∷ xs) = (choose k x xs).value

-- from the page p, h levels down, in a store of pages by name
unfoldable pub down : (List ℕ → Entry → List Entry → Entry) → (List ℕ → Page) → List ℕ → ℕ → List ℕ → List ℕ
down choose store k zero p = p
down choose store k (suc h) p = down choose store k h (child choose k (store p))

-- the key that comes next in a page after the one chosen; and, on the way down, in the level: the first key of the next page
unfoldable pub next_above : List ℕ → List Entry → List (List ℕ)
next_above k [] = []
next_above k (y ∷ ys) = cond (less_bytes k y.key) (y.key ∷ []) (next_above k ys)

unfoldable pub next_in : List ℕ → Page → List (List ℕ)
next_in k [] = []
next_in k (x ∷ xs) = next_above k xs

unfoldable pub down_next : (List ℕ → Page) → List ℕ → ℕ → List ℕ → List (List ℕ) → List (List ℕ)
down_next store k zero p next = next
down_next store k (suc h) p next = down_next store k h (child pick k (store p)) (either (next_in k (store p)) next)

-- the first entry from k on, and the last before k, in a tree of h levels above its leaves
unfoldable pub first_at : (List ℕ → Page) → ℕ → List ℕ → List (List ℕ) → Reply
first_at store h p [] = Nothing
first_at store h p (f ∷ fs) = first_of (store (down pick store f h p))

abbrev pub seek_from : (List ℕ → Page) → List ℕ → ℕ → List ℕ → Reply
seek_from store k h p = or_else (first_from k (store (down pick store k h p))) (first_at store h p (down_next store k h p []))

abbrev pub seek_before : (List ℕ → Page) → List ℕ → ℕ → List ℕ → Reply
seek_before store k h p = cond (less_bytes (first_key (store p)) k) (last_before k (store (down pick_under store k h p)) Nothing) Nothing

-- every page of a tree is in the store, under its name, and has an entry
abbrev pub Stored : (List ℕ → Page) → List Node → Type 0
Stored store ns = AllByRecursion (λ (n : Node). (n.items ≡ store n.name) × (0 < length n.items)) ns

-- the levels from one up, to a top of one page
abbrev pub InStore : (List ℕ → Page) → Node → List Node → List (List Node) → Type 0
InStore store root below [] = Stored store below × (below ≡ root ∷ [])
InStore store root below (ns ∷ more) = Stored store below × (entries ns ≡ heads below) × InStore store root ns more

pub record Reaches (below : List Node) (p : List ℕ) (P : List Node → Node → List Node → Type 0) : Type 0 where
  pub before : List Node
  pub here : Node
  pub after : List Node
  pub whole : below ≡ before ++ (here ∷ after)
  pub named : here.name ≡ p
  pub holds : P before here after
