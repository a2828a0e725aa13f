-- The laws, each a type whose proof is a theorem.
use Rattle.std.specs.Prelude.{◌≡◌, ℕ, ◌+◌, ◌-◌, ◌*◌, ◌^◌, ◌<◌, ◌≤◌, true, false, ◌⊎◌, List, [], ◌∷◌, ◌++◌, length, ◌≢◌}
use Rattle.std.specs.List.{AllZip, AllByRecursion}
use Rattle.meaning.specs.Value.{less_bytes}
use Rattle.tree.specs.Entries.{Entry, first_key, enter, take_out, Nothing, first_from, last_before, Above, Under, Rising, Edit, put, del, Puts, spot, applies}
use Rattle.tree.specs.Pages.{Page, weigh, concat, Fits, Apart, join, Beside, pieces, spread}
use Rattle.tree.specs.Look.{pick, pick_under, down, down_next, seek_from, seek_before, Stored, InStore, Reaches, lead, either, NotUnder, Chosen, Belongs, ChosenUnder, LastUnder, Child, first_of, or_else}
use Rattle.tree.specs.Change.{Replaced, Climbs, Topped, puts_weigh, replace}
use Rattle.tree.specs.Tree.{Node, heads, pages, entries, Level, Stands, count_all, raised, singles, Linked, top, trim}

-- 1. Joining keeps the entries in order, gives pages that are apart, and pages that fit where all do; pages that are apart already it leaves.
abbrev pub JoinKeeps : Type 0
JoinKeeps = (w : Entry → ℕ) (cap : ℕ) (ps : List Page) → (concat (join w cap ps) ≡ concat ps) × Apart w cap (join w cap ps) × (AllByRecursion (Fits w cap) ps → AllByRecursion (Fits w cap) (join w cap ps)) × (Apart w cap ps → join w cap ps ≡ ps)

-- 2. In a level that is apart, a run of pages is replaced by any pages joined with the two neighbours: the level is apart again.
abbrev pub WindowApart : Type 0
WindowApart =
    (w : Entry → ℕ) (cap : ℕ) (pre l touched news r post : List Page) → Beside pre l → Beside post r → Apart w cap (pre ++ (l ++ (touched ++ (r ++ post)))) → Apart w cap (pre ++ (join w cap (l ++ (news ++ r)) ++ post))

-- Where each page is replaced by one that weighs no less, the neighbours need not be looked at.
abbrev pub WindowGrown : Type 0
WindowGrown =
    (w : Entry → ℕ) (cap : ℕ) (pre l touched news r post : List Page) → AllZip (λ p q. weigh w p ≤ weigh w q) touched news → Apart w cap (pre ++ (l ++ (touched ++ (r ++ post)))) →
    Apart w cap (pre ++ (l ++ (news ++ (r ++ post)))) × (join w cap (l ++ (news ++ r)) ≡ l ++ (news ++ r))

-- 3. Pieces have the page's entries with the edits, and fit where each entry put fits alone.
abbrev pub PiecesFit : Type 0
PiecesFit =
    (w : Entry → ℕ) (cap : ℕ) (es : List Edit) (p : Page) → AllByRecursion (Puts (λ (x : Entry). w x ≤ cap)) es → weigh w p ≤ cap → (concat (pieces w cap es p) ≡ applies es p) × AllByRecursion (Fits w cap) (pieces w cap es p)

-- A level with edits: p and ps are the pages where the edits' keys belong (p may be empty, where it is the root leaf of an empty tree).
-- What was a good level is one again, and its entries are the edited ones.
pub record Edited (w : Entry → ℕ) (cap : ℕ) (es : List Edit) (old new : List Page) : Type 0 where
  pub same : concat new ≡ applies es (concat old)
  pub fit : AllByRecursion (Fits w cap) new
  pub apart : Apart w cap new
  pub rising : Rising (concat new)

-- However the edited pages are cut, if only the parts fit:
abbrev pub LevelAny : Type 0
LevelAny =
    (w : Entry → ℕ) (cap : ℕ) (es : List Edit) (pre l : List Page) (p : Page) (ps r post news : List Page) → Beside pre l → Beside post r →
    AllByRecursion (Fits w cap) (pre ++ (l ++ (r ++ post))) → Apart w cap (pre ++ (l ++ ((p ∷ ps) ++ (r ++ post)))) → Rising (concat (pre ++ (l ++ ((p ∷ ps) ++ (r ++ post))))) →
    concat news ≡ applies es (concat (p ∷ ps)) → AllByRecursion (Fits w cap) news → AllByRecursion (λ (e : Edit). Under (spot e) (concat (pre ++ l))) es → AllByRecursion (λ (e : Edit). Above (spot e) (concat (r ++ post))) es →
    Edited w cap es (pre ++ (l ++ ((p ∷ ps) ++ (r ++ post)))) (pre ++ (join w cap (l ++ (news ++ r)) ++ post))

-- and by pieces:
abbrev pub LevelEdit : Type 0
LevelEdit =
    (w : Entry → ℕ) (cap : ℕ) (es : List Edit) (pre l : List Page) (p : Page) (ps r post : List Page) → Beside pre l → Beside post r →
    weigh w p ≤ cap → AllByRecursion (Fits w cap) (pre ++ (l ++ (ps ++ (r ++ post)))) → Apart w cap (pre ++ (l ++ ((p ∷ ps) ++ (r ++ post)))) → Rising (concat (pre ++ (l ++ ((p ∷ ps) ++ (r ++ post))))) →
    AllByRecursion (Puts (λ (x : Entry). w x ≤ cap)) es → AllByRecursion (λ (e : Edit). Under (spot e) (concat (pre ++ l))) es → AllByRecursion (λ (e : Edit). Above (spot e) (concat (r ++ post))) es →
    Edited w cap es (pre ++ (l ++ ((p ∷ ps) ++ (r ++ post)))) (pre ++ (join w cap (l ++ (spread w cap es p ps ++ r)) ++ post))

-- 4. How many pages there are.
abbrev pub LeafBound : Type 0
LeafBound = (w : Entry → ℕ) (cap : ℕ) (ps : List Page) → Apart w cap ps → (length ps - 1) * (cap + 1) ≤ 2 * weigh w (concat ps)

abbrev pub InnerBound : Type 0
InnerBound = (w : Entry → ℕ) (cap m : ℕ) → 4 * m ≤ cap → (below ns : List Node) (more : List (List Node)) → Stands w cap m below (ns ∷ more) → 5 * (length ns - 1) ≤ 2 * (length below - 1)

abbrev pub TreeBound : Type 0
TreeBound =
    (w : Entry → ℕ) (cap m : ℕ) → 4 * m ≤ cap → (below : List Node) (more : List (List Node)) → Stands w cap m below more → 3 * count_all (below ∷ more) ≤ 3 * length (below ∷ more) + 5 * (length below - 1)

-- v is what a leaf's entry takes, w an inner page's
abbrev pub SpaceBound : Type 0
SpaceBound =
    (v w : Entry → ℕ) (cap m : ℕ) (below : List Node) (more : List (List Node)) → 4 * m ≤ cap → Apart v cap (pages below) → Stands w cap m below more →
    3 * ((cap + 1) * count_all (below ∷ more)) ≤ 3 * ((cap + 1) * length (below ∷ more)) + 10 * weigh v (entries below)

-- with h levels, h - 2 of them stand above the second
abbrev pub HeightBound : Type 0
HeightBound =
    (w : Entry → ℕ) (cap m : ℕ) → 4 * m ≤ cap → (below ns : List Node) (more : List (List Node)) → Stands w cap m below (ns ∷ more) → 5 ^ length more ≤ 2 ^ length more * (length below - 1)

-- 6. A level's change, told to the level above: there the edits make exactly the new heads.
abbrev pub HeadsRise : Type 0
HeadsRise =
    (pre old new post : List Node) → AllByRecursion (λ (p : Page). 0 < length p) (pages (pre ++ (old ++ post))) → AllByRecursion (λ (p : Page). 0 < length p) (pages (pre ++ (new ++ post))) →
    Rising (entries (pre ++ (old ++ post))) → Rising (entries (pre ++ (new ++ post))) → applies (raised old new) (heads (pre ++ (old ++ post))) ≡ heads (pre ++ (new ++ post))

-- A new level above one: the heads joined to pages. It has fewer pages, so that such levels come to an end.
abbrev pub NewLevel : Type 0
NewLevel =
    (w : Entry → ℕ) (cap m : ℕ) → 4 * m ≤ cap → (below ns : List Node) → AllByRecursion (λ (p : Page). 0 < length p) (pages below) → Rising (entries below) → AllByRecursion (λ (x : Entry). w x ≤ m) (heads below) → pages ns ≡ join w cap (singles (heads below)) →
    Level w cap ns × (entries ns ≡ heads below) × (2 ≤ length below → length ns < length below)

-- Where the top is one page, and what stands above a level of one page goes, a tree stands.
abbrev pub TrimStands : Type 0
TrimStands =
    (w : Entry → ℕ) (cap m : ℕ) (below : List Node) (more : List (List Node)) → Linked w cap m below more → 0 < length below → length (top below more) ≡ 1 → Stands w cap m below (trim below more)

-- 5. Looking down a level: from the page where k belongs, the chosen entry leads to the page where k belongs; and what key comes after it is known on the way.
abbrev pub AtStep : Type 0
AtStep =
    (k : List ℕ) (below pre : List Node) (n : Node) (post : List Node) (a : List Entry) (x : Entry) (c : List Entry) → AllByRecursion (λ (p : Page). 0 < length p) (pages post) →
    entries (pre ++ (n ∷ post)) ≡ heads below → n.items ≡ a ++ (x ∷ c) → Belongs k pre n post → Chosen k a x c →
    Child below x (λ pre' n' post'. Belongs k pre' n' post' × (lead (heads post') ≡ either (lead c) (lead (heads post))))

-- The same for the last page whose first key is below k.
abbrev pub UnderStep : Type 0
UnderStep =
    (k : List ℕ) (below pre : List Node) (n : Node) (post : List Node) (a : List Entry) (x : Entry) (c : List Entry) → AllByRecursion (λ (p : Page). 0 < length p) (pages post) →
    entries (pre ++ (n ∷ post)) ≡ heads below → n.items ≡ a ++ (x ∷ c) → LastUnder k pre n post → ChosenUnder k a x c → Child below x (LastUnder k)

-- What belongs to a page is above all before it, and below all after it: so edits of its key are the page's own.
abbrev pub BelongsParts : Type 0
BelongsParts =
    (k : List ℕ) (pre : List Node) (n : Node) (post : List Node) → AllByRecursion (λ (p : Page). 0 < length p) (pages (pre ++ (n ∷ post))) → Rising (entries (pre ++ (n ∷ post))) → Belongs k pre n post →
    Under k (entries pre) × Above k (entries post)

-- In the leaf that is reached stands what is looked for, or else it is the next leaf's first.
abbrev pub FirstFound : Type 0
FirstFound =
    (k : List ℕ) (pre : List Node) (n : Node) (post : List Node) → AllByRecursion (λ (p : Page). 0 < length p) (pages (pre ++ (n ∷ post))) → Rising (entries (pre ++ (n ∷ post))) → Belongs k pre n post →
    first_from k (entries (pre ++ (n ∷ post))) ≡ or_else (first_from k n.items) (first_of (entries post))

abbrev pub LastFound : Type 0
LastFound =
    (k : List ℕ) (pre : List Node) (n : Node) (post : List Node) → AllByRecursion (λ (p : Page). 0 < length p) (pages (pre ++ (n ∷ post))) → Rising (entries (pre ++ (n ∷ post))) → LastUnder k pre n post →
    last_before k (entries (pre ++ (n ∷ post))) Nothing ≡ last_before k n.items Nothing

-- and nothing is below k where the first key isn't; the first key is the same at all levels
abbrev pub NoneFound : Type 0
NoneFound = (k : List ℕ) (xs : List Entry) → NotUnder k (lead xs) → last_before k xs Nothing ≡ Nothing

abbrev pub SameLead : Type 0
SameLead = (below ns : List Node) → AllByRecursion (λ (p : Page). 0 < length p) (pages below) → entries ns ≡ heads below → lead (entries ns) ≡ lead (entries below)

-- The whole way down, from the root's number: to the page where k belongs, with the first key of the next page; and to the last whose first key is below k.
abbrev pub DownReaches : Type 0
DownReaches =
    (store : List ℕ → Page) (k : List ℕ) (root : Node) (below : List Node) (more : List (List Node)) → InStore store root below more →
    Reaches below (down pick store k (length more) root.name) (λ pre n post. Belongs k pre n post × (lead (heads post) ≡ down_next store k (length more) root.name []))

abbrev pub DownUnder : Type 0
DownUnder =
    (store : List ℕ → Page) (k : List ℕ) (root : Node) (below : List Node) (more : List (List Node)) → InStore store root below more → less_bytes (first_key root.items) k ≡ true →
    Reaches below (down pick_under store k (length more) root.name) (LastUnder k)

-- The way down by a page's own first key comes to that page, and the way to the last below it comes to the page just before it.
abbrev pub DownExact : Type 0
DownExact =
    (store : List ℕ → Page) (root : Node) (below : List Node) (more : List (List Node)) (pre : List Node) (n : Node) (post : List Node) → InStore store root below more → Rising (entries below) → below ≡ pre ++ (n ∷ post) →
    down pick store (first_key n.items) (length more) root.name ≡ n.name

abbrev pub DownBefore : Type 0
DownBefore =
    (store : List ℕ → Page) (root : Node) (below : List Node) (more : List (List Node)) (pre : List Node) (l n : Node) (post : List Node) → InStore store root below more → Rising (entries below) → below ≡ pre ++ (l ∷ n ∷ post) →
    down pick_under store (first_key n.items) (length more) root.name ≡ l.name

-- LOOK-UPS: by the ways down, what is found is what the list of all entries says.
abbrev pub SeekFrom : Type 0
SeekFrom =
    (store : List ℕ → Page) (k : List ℕ) (root : Node) (below : List Node) (more : List (List Node)) → InStore store root below more → Rising (entries below) →
    seek_from store k (length more) root.name ≡ first_from k (entries below)

abbrev pub SeekBefore : Type 0
SeekBefore =
    (store : List ℕ → Page) (k : List ℕ) (root : Node) (below : List Node) (more : List (List Node)) → InStore store root below more → Rising (entries below) →
    seek_before store k (length more) root.name ≡ last_before k (entries below) Nothing

-- in a root that is a leaf, be it empty
abbrev pub SeekLeaf : Type 0
SeekLeaf = (store : List ℕ → Page) (k p : List ℕ) → Rising (store p) → (seek_from store k 0 p ≡ first_from k (store p)) × (seek_before store k 0 p ≡ last_before k (store p) Nothing)

-- A CHANGE: where the bottom level has changed, and each level above by the edits that the one below it makes, the levels are linked again.
abbrev pub ClimbLinks : Type 0
ClimbLinks =
    (w : Entry → ℕ) (cap m : ℕ) (b c : List Node) (more news : List (List Node)) → AllByRecursion (λ (p : Page). 0 < length p) (pages b) → AllByRecursion (λ (p : Page). 0 < length p) (pages c) → Rising (entries b) → Rising (entries c) →
    Climbs w cap m b c more news → Linked w cap m b more → Linked w cap m c news

-- a new top level
abbrev pub TopLinks : Type 0
TopLinks =
    (w : Entry → ℕ) (cap m : ℕ) (b ns : List Node) (more : List (List Node)) → Linked w cap m b more → Level w cap ns → AllByRecursion (λ (x : Entry). w x ≤ m) (entries ns) → entries ns ≡ heads (top b more) →
    Linked w cap m b (more ++ (ns ∷ [])) × (top b (more ++ (ns ∷ [])) ≡ ns)

-- the bottom level's own change
abbrev pub LeafChange : Type 0
LeafChange =
    (w : Entry → ℕ) (cap : ℕ) (es : List Edit) (old new : List Page) → AllByRecursion (Fits w cap) old → Apart w cap old → Rising (concat old) → Replaced w cap es old new → Edited w cap es old new

-- How many pages are put: of the joined pages, all but three are at most as many as the bytes between the neighbours allow.
abbrev pub NewPages : Type 0
NewPages =
    (w : Entry → ℕ) (cap : ℕ) (es : List Edit) (pre l : List Page) (p : Page) (ps r post news : List Page) → Beside pre l → Beside post r → weigh w p ≤ cap → AllByRecursion (Fits w cap) ps → concat news ≡ applies es (concat (p ∷ ps)) →
    (length (join w cap (l ++ (news ++ r))) - 3) * (cap + 1) ≤ 2 * (cap * length (p ∷ ps) + puts_weigh w es)

-- So in inner levels, where 3 pages are touched and 17 entries come from below, at most 17 pages go up again; and 6 from a leaf.
abbrev pub Seventeen : Type 0
Seventeen =
    (w : Entry → ℕ) (cap m : ℕ) → 4 * m ≤ cap → (es : List Edit) (pre l : List Page) (p : Page) (ps r post news : List Page) → Beside pre l → Beside post r → weigh w p ≤ cap → AllByRecursion (Fits w cap) ps → concat news ≡ applies es (concat (p ∷ ps)) →
    length (p ∷ ps) ≤ 3 → puts_weigh w es ≤ 17 * m → length (join w cap (l ++ (news ++ r))) ≤ 17

abbrev pub LeafSix : Type 0
LeafSix =
    (w : Entry → ℕ) (cap : ℕ) (e : Edit) (pre l : List Page) (p : Page) (r post news : List Page) → Beside pre l → Beside post r → weigh w p ≤ cap → concat news ≡ applies (e ∷ []) (concat (p ∷ [])) → Puts (λ (x : Entry). w x ≤ cap) e →
    length (join w cap (l ++ (news ++ r))) ≤ 6

-- At most four entries are no more than one whole inner page.
abbrev pub WholeFew : Type 0
WholeFew =
    (w : Entry → ℕ) (cap m : ℕ) → 4 * m ≤ cap → (pre mid post : List Page) → Apart w cap (pre ++ (mid ++ post)) → AllByRecursion (λ (x : Entry). w x ≤ m) (concat mid) → length (concat mid) ≤ 4 → AllByRecursion (Fits w cap) mid → length mid ≤ 1

-- The first entry of an empty tree, whose root is an empty leaf.
abbrev pub FirstChange : Type 0
FirstChange = (w : Entry → ℕ) (cap : ℕ) (es : List Edit) → AllByRecursion (Puts (λ (x : Entry). w x ≤ cap)) es → Edited w cap es ([] ∷ []) (join w cap (pieces w cap es []))

-- Entering and taking out, as edits.
abbrev pub EntersTakes : Type 0
EntersTakes =
    ((w : Entry → ℕ) (cap : ℕ) (e : Entry) (old new : List Page) → Edited w cap (put e ∷ []) old new → concat new ≡ enter e (concat old)) ×
    ((w : Entry → ℕ) (cap : ℕ) (k : List ℕ) (old new : List Page) → Edited w cap (del k ∷ []) old new → concat new ≡ take_out k (concat old))

-- Edits from a key lo on belong to no page before lo's, edits up to hi to none after hi's.
abbrev pub RunBelongs : Type 0
RunBelongs =
    ((lo : List ℕ) (es : List Edit) (pre : List Node) (n : Node) (post : List Node) → AllByRecursion (λ (p : Page). 0 < length p) (pages (pre ++ (n ∷ post))) → Rising (entries (pre ++ (n ∷ post))) → Belongs lo pre n post →
    AllByRecursion (λ (e : Edit). less_bytes (spot e) lo ≡ false) es → AllByRecursion (λ (e : Edit). Under (spot e) (entries pre)) es) ×
    ((hi : List ℕ) (es : List Edit) (pre : List Node) (n : Node) (post : List Node) → AllByRecursion (λ (p : Page). 0 < length p) (pages (pre ++ (n ∷ post))) → Rising (entries (pre ++ (n ∷ post))) → Belongs hi pre n post →
    AllByRecursion (λ (e : Edit). less_bytes hi (spot e) ≡ false) es → AllByRecursion (λ (e : Edit). Above (spot e) (entries post)) es)

-- With 4,088 bytes a page, and inner entries of at most 1,012: 1,226 bytes of leaf entries for each page, but one for each level.
abbrev pub Space1226 : Type 0
Space1226 =
    (v w : Entry → ℕ) (below : List Node) (more : List (List Node)) → Apart v 4088 (pages below) → Stands w 4088 1012 below more → 1226 * count_all (below ∷ more) ≤ 1226 * length (below ∷ more) + weigh v (entries below)

-- THE WHOLE CHANGE: the leaves edited, each level above by what the one below it makes, new tops where the top is more than one page, and old ones gone:
-- again a tree stands, and its entries are the edited ones.
abbrev pub WholeChange : Type 0
WholeChange =
    (v w : Entry → ℕ) (cap m : ℕ) → 4 * m ≤ cap → (es : List Edit) (b c : List Node) (more news tops : List (List Node)) → Level v cap b → Linked w cap m b more →
    Replaced v cap es (pages b) (pages c) → Climbs w cap m b c more news → Topped w cap m c news tops → 0 < length c → length (top c tops) ≡ 1 →
    Level v cap c × (entries c ≡ applies es (entries b)) × Stands w cap m c (trim c tops)

-- the same from the empty leaf
abbrev pub WholeFirst : Type 0
WholeFirst =
    (v w : Entry → ℕ) (cap m : ℕ) → 4 * m ≤ cap → (es : List Edit) (c : List Node) (tops : List (List Node)) → AllByRecursion (Puts (λ (x : Entry). v x ≤ cap)) es → pages c ≡ join v cap (pieces v cap es []) → Topped w cap m c [] tops → 0 < length c → length (top c tops) ≡ 1 →
    Level v cap c × (entries c ≡ applies es []) × Stands w cap m c (trim c tops)

-- Where a run of at most four heads changes, or of five of which one is at the least key, the inner pages between the first and the last that are touched are at most one.
abbrev pub TouchedThree : Type 0
TouchedThree =
    (w : Entry → ℕ) (cap m : ℕ) → 4 * m ≤ cap → (lo hi : List ℕ) (pre old post a : List Node) (p : Node) (mid : List Node) (q : Node) (z : List Node) →
    Level w cap (a ++ (p ∷ (mid ++ (q ∷ z)))) → AllByRecursion (λ (x : Entry). w x ≤ m) (entries (a ++ (p ∷ (mid ++ (q ∷ z))))) → entries (a ++ (p ∷ (mid ++ (q ∷ z)))) ≡ heads (pre ++ (old ++ post)) →
    Under lo (heads pre) → Above hi (heads post) → Belongs lo a p (mid ++ (q ∷ z)) → Belongs hi (a ++ (p ∷ mid)) q z →
    (length old ≤ 4) ⊎ ((length old ≤ 5) × (n : Node) × (rest : List Node) × (old ≡ n ∷ rest) × (first_key n.items ≡ lo)) → length mid ≤ 1

-- the level's edit as a function is such a replacement
abbrev pub ReplaceIs : Type 0
ReplaceIs =
    (w : Entry → ℕ) (cap : ℕ) (es : List Edit) (a : List Page) (p : Page) (ps z : List Page) → weigh w p ≤ cap → AllByRecursion (Fits w cap) ps → Rising (concat (p ∷ ps)) → AllByRecursion (Puts (λ (x : Entry). w x ≤ cap)) es →
    AllByRecursion (λ (e : Edit). Under (spot e) (concat a)) es → AllByRecursion (λ (e : Edit). Above (spot e) (concat z)) es → Replaced w cap es (a ++ ((p ∷ ps) ++ z)) (replace w cap es a p ps z)

-- No two pages of a level have one name, so that a level takes as many pages of the store as it has.
abbrev pub NamesApart : Type 0
NamesApart =
    (store : List ℕ → Page) (a : List Node) (m : Node) (b : List Node) (n : Node) (c : List Node) → Stored store (a ++ (m ∷ (b ++ (n ∷ c)))) → Rising (entries (a ++ (m ∷ (b ++ (n ∷ c))))) → m.name ≢ n.name

-- Where each touched page gives one piece that isn't lighter, the neighbours need not be read.
abbrev pub ReplaceGrown : Type 0
ReplaceGrown =
    (w : Entry → ℕ) (cap : ℕ) (es : List Edit) (a : List Page) (p : Page) (ps z : List Page) → Apart w cap (a ++ ((p ∷ ps) ++ z)) → AllZip (λ x y. weigh w x ≤ weigh w y) (p ∷ ps) (spread w cap es p ps) →
    replace w cap es a p ps z ≡ a ++ (spread w cap es p ps ++ z)

-- A tree that stands, each of whose pages is in a store, is one to look down in.
abbrev pub StandsStored : Type 0
StandsStored =
    (store : List ℕ → Page) (w : Entry → ℕ) (cap m : ℕ) (below : List Node) (more : List (List Node)) → Stands w cap m below more → Stored store below → AllByRecursion (Stored store) more →
    (root : Node) × InStore store root below more × (top below more ≡ root ∷ [])

-- What a level's change puts in the level above fits, if heads do; and there it is a splice: the old heads' run gives way to the new heads'.
abbrev pub RaisedPuts : Type 0
RaisedPuts = (w : Entry → ℕ) (cap m : ℕ) (old new : List Node) → m ≤ cap → AllByRecursion (λ (x : Entry). w x ≤ m) (heads new) → AllByRecursion (Puts (λ (x : Entry). w x ≤ cap)) (raised old new)

abbrev pub Splice : Type 0
Splice = (old new : List Node) (a b : List Entry) → Rising (a ++ (heads old ++ b)) → Rising (a ++ (heads new ++ b)) → applies (raised old new) (a ++ (heads old ++ b)) ≡ a ++ (heads new ++ b)
