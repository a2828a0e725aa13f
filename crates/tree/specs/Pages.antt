-- Pages as lists of entries, levels as lists of pages. w is what an entry takes, cap what a page holds.
use Rattle.std.specs.Prelude.{ℕ, ◌+◌, ◌<◌, ◌≤◌, Bool, cond, List, [], ◌∷◌, ◌++◌, length, nat_le}
use Rattle.tree.specs.Entries.{Entry, first_key, Edit, applies, lower, upper, edited}

abbrev pub Page : Type 0
Page = List Entry

unfoldable pub weigh : (Entry → ℕ) → Page → ℕ
weigh w [] = 0
weigh w (x ∷ xs) = w x + weigh w xs

unfoldable pub concat : List Page → List Entry
concat [] = []
concat (p ∷ ps) = p ++ concat ps

abbrev pub Fits : (Entry → ℕ) → ℕ → Page → Type 0
Fits w cap p = (weigh w p ≤ cap) × (0 < length p)

-- any two adjacent pages together exceed cap
abbrev pub ApartFrom : (Entry → ℕ) → ℕ → Page → List Page → Type 0
ApartFrom w cap p [] = Unit {0}
ApartFrom w cap p (q ∷ qs) = (cap < weigh w p + weigh w q) × ApartFrom w cap q qs

abbrev pub Apart : (Entry → ℕ) → ℕ → List Page → Type 0
Apart w cap [] = Unit {0}
Apart w cap (p ∷ ps) = ApartFrom w cap p ps

-- pages one after another, each joined to the last where both fit one page
unfoldable pub joins : (Entry → ℕ) → ℕ → Page → List Page → List Page
joins w cap p [] = p ∷ []
joins w cap p (q ∷ qs) = cond (nat_le (weigh w p + weigh w q) cap) (joins w cap (p ++ q) qs) (p ∷ joins w cap q qs)

unfoldable pub join : (Entry → ℕ) → ℕ → List Page → List Page
join w cap [] = []
join w cap (p ∷ ps) = joins w cap p ps

-- what stands outside a run of pages, and the page of it next to the run: there is one, unless nothing stands outside
pub data Beside : List Page → List Page → Type 0 where
  none : Beside [] []
  one : (outer : List Page) (l : Page) → Beside outer (l ∷ [])

-- a page cut around the entries of a test, each of which is alone
unfoldable pub kept : Page → List Page
kept [] = []
kept (x ∷ xs) = (x ∷ xs) ∷ []

unfoldable pub segments : (Entry → Bool) → Page → Page → List Page
segments t seg [] = kept seg
segments t seg (x ∷ xs) = cond (t x) (kept seg ++ (x ∷ []) ∷ segments t [] xs) (segments t (seg ++ x ∷ []) xs)

unfoldable pub parts : (Entry → ℕ) → ℕ → (Entry → Bool) → Page → List Page
parts w cap t [] = []
parts w cap t (x ∷ xs) = cond (nat_le (weigh w (x ∷ xs)) cap) ((x ∷ xs) ∷ []) (segments t [] (x ∷ xs))

-- a page with its edits, cut around them where it has become too large
abbrev pub pieces : (Entry → ℕ) → ℕ → List Edit → Page → List Page
pieces w cap es p = parts w cap (edited es) (applies es p)

-- a run of pages, each with the edits of the keys that belong to it
unfoldable pub spread : (Entry → ℕ) → ℕ → List Edit → Page → List Page → List Page
spread w cap es p [] = pieces w cap es p
spread w cap es p (q ∷ qs) = pieces w cap (lower (first_key q) es) p ++ spread w cap (upper (first_key q) es) q qs
