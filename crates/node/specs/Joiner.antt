-- Pages of a level as they are made anew.
use Rattle.std.specs.Prelude.{◌≡◌, ℕ, zero, suc, ◌+◌, ◌-◌, ◌<◌, ◌≤◌, true, false, Result, Ok, Err, ⊤, is_ok, cond, List, [], ◌∷◌, ◌++◌, length, nat_le, nat_lt, slice_index_or, Vec}
use Rattle.std.specs.declared.alloc.Global.{Global}
use Rattle.tree.specs.Entries.{Entry}
use Rattle.tree.specs.Pages.{Page, weigh}
use Rattle.tree.specs.Bytes.{taken}
use Rattle.node.specs.Node.{entries_in, Sound}
use Rattle.node.specs.declared.Full.{Full}

-- the first n pages, by their entries
unfoldable pub pages_to : List (List ℕ) → ℕ → List Page
pages_to ps zero = []
pages_to ps (suc n) = pages_to ps n ++ (entries_in (slice_index_or ps n []) ∷ [])

-- what is known of a joiner: its level, its pages by their entries, and the memory with the bytes of all 24, in use or not
pub record Made : Type 0 where
  pub level : ℕ
  pub pages : List Page
  pub memory : Vec (List ℕ) Global

-- all its memory is there, and the pages in use are formed
pub record Kept (room : ℕ) (ps : List (List ℕ)) (len : ℕ) : Type 0 where
  pub all : room ≡ 24
  pub few : len ≤ 24
  pub sound : Sound ps len

-- other pages of the same level, whatever bytes they are written with
abbrev pub Remade : Made → List Page → Made → Type 0
Remade m ps k = (k.level ≡ m.level) × (k.pages ≡ ps)

-- there was no place for one page more, and nothing changed, no byte either
abbrev pub Stayed : Made → Made → Type 0
Stayed m k = (length m.pages ≡ 24) × (k ≡ m)

-- an entry at the end of the last page
unfoldable pub on_last : Entry → List Page → List Page
on_last e [] = []
on_last e (p ∷ []) = (p ++ (e ∷ [])) ∷ []
on_last e (p ∷ q ∷ qs) = p ∷ on_last e (q ∷ qs)

-- entries at the end of the last page, one after another
unfoldable pub on_last_all : List Entry → List Page → List Page
on_last_all [] ps = ps
on_last_all (e ∷ es) ps = on_last_all es (on_last e ps)

-- a unit joined to the last page where it has room, and else a page of its own
unfoldable pub join_on : (Entry → ℕ) → ℕ → Page → List Page → List Page
join_on w cap q [] = q ∷ []
join_on w cap q (p ∷ []) = cond (nat_le (weigh w p + weigh w q) cap) ((p ++ q) ∷ []) (p ∷ q ∷ [])
join_on w cap q (p ∷ r ∷ ps) = p ∷ join_on w cap q (r ∷ ps)

-- one page more, without entries; or there is no place for one
abbrev pub OpenedBy : Made → Result ⊤ Full → Made → Type 0
OpenedBy m (Ok u) k = Remade m (m.pages ++ ([] ∷ [])) k
OpenedBy m (Err e) k = Stayed m k

-- how many bytes the last page has room for; none where there is no page
unfoldable pub spare : List Page → ℕ
spare [] = 0
spare (p ∷ []) = 4088 - weigh taken p
spare (p ∷ q ∷ ps) = spare (q ∷ ps)

-- an entry behind the last page's, where that has room for it; else nothing changed, no byte either
pub record PushedBy (m : Made) (e : Entry) (r : Result ⊤ Full) (k : Made) : Type 0 where
  pub pages : Remade m (cond (is_ok r) (on_last e m.pages) m.pages) k
  pub stayed : is_ok r ≡ false → k ≡ m
  pub crowded : is_ok r ≡ false → spare m.pages < taken e

-- a page with room for so many bytes is the last one, or there was no place for one
abbrev pub ReservedBy : Made → ℕ → Result ⊤ Full → Made → Type 0
ReservedBy m w (Ok u) k = Remade m (cond (nat_lt (spare m.pages) w) (m.pages ++ ([] ∷ [])) m.pages) k
ReservedBy m w (Err e) k = Stayed m k

-- a unit was joined to the pages, or there was no place for it
abbrev pub JoinedBy : Made → Page → Result ⊤ Full → Made → Type 0
JoinedBy m q (Ok u) k = Remade m (join_on taken 4088 q m.pages) k
JoinedBy m q (Err e) k = Stayed m k

-- entries were pushed on the last page, if that has room for them
abbrev pub AllPushed : Made → List Entry → Result ⊤ Full → Made → Type 0
AllPushed m es r k = 0 < length m.pages → weigh taken es ≤ spare m.pages → (is_ok r ≡ true) × Remade m (on_last_all es m.pages) k
