-- What holds of the pager, its device and the model's state, phase by phase.
use Rattle.std.proofs.Common.{◌≡◌, ℕ, ◌+◌, ◌*◌, ◌/◌, ◌%◌, ◌<◌, ◌≤◌, Bool, false, ◌&&◌, leb, List, [], ◌∷◌, length, get_or, take, Vec, vec_items, sym, refl, ap, ◌∙◌, arith}
use Rattle.std.proofs.lemmas.Grind.{common_steps}
use Rattle.device.specs.Device.{Device, shown, AfterCut, With}
use Rattle.device.proofs.Sectors.{Quiet}
use Rattle.octets.specs.Parts.{blank}
use Rattle.shadow.specs.Layout.{other, area_at, slot_at, area_in, entry_in, page_in, gather, updated, Free}
use Rattle.shadow.proofs.Pages.{Laid}
use Rattle.shadow.proofs.Shadow.{Body, Low, low-cut, Above, Behind, Filled}
use Rattle.shadow.proofs.Count.{no_room, moved}
use Rattle.pager.specs.Steps.{bs, ws, os, ys, hs, held, Same, Sizes}
use Rattle.pager.specs.Model.{Held, undone, changed, cleared, Crowded}
use Rattle.pager.specs.declared.state.Call.{Call}
use Rattle.pager.specs.declared.state.Call.TheVariants.{Get, Put, Give, Vacant, Commit, Undo}
use Rattle.pager.specs.declared.state.Phase.{Phase}
use Rattle.pager.specs.declared.state.Phase.TheVariants.{Opening, Header, Fetch, Loading, Check, Comparing, Idle, Asked, Short, Getting, Putting, Filling, Settled, Marked, Sealed}
use Rattle.pager.specs.declared.state.Pager.{Pager}

-- a state of the arrays: the active area, the committed and the present map, the owners, the flags
abbrev pub Family : Type 1
Family = Bool → (ℕ → ℕ) → (ℕ → ℕ) → (ℕ → ℕ) → (ℕ → Bool) → (ℕ → Bool) → Type 0

abbrev pub Of : Family → Pager → Type 0
Of F m = F m.second (bs m) (ws m) (os m) (ys m) (hs m)

-- arrays that are the same are the same functions
pub as-map : {Z : Type 0} {v w : Vec ℕ Z} → v ≡ w → ◌≡◌ {A = ℕ → ℕ} (λ p. get_or (vec_items v) p 0) (λ p. get_or (vec_items w) p 0)
as-map e = ap (λ v p. get_or (vec_items v) p 0) e

pub as-flags : {Z : Type 0} {v w : Vec Bool Z} → v ≡ w → ◌≡◌ {A = ℕ → Bool} (λ p. get_or (vec_items v) p false) (λ p. get_or (vec_items w) p false)
as-flags e = ap (λ v p. get_or (vec_items v) p false) e

-- what holds of the arrays holds where they are the same
pub view-moved : (F : Family) {a a' : Bool} {b b' w w' o o' : ℕ → ℕ} {y y' h h' : ℕ → Bool} → a' ≡ a → b' ≡ b → w' ≡ w → o' ≡ o → y' ≡ y → h' ≡ h → F a b w o y h → F a' b' w' o' y' h'
view-moved F e1 e2 e3 e4 e5 e6 x = rw (e1, e2, e3, e4, e5, e6) x

pub same_view : (F : Family) (m n : Pager) → Same m n → Of F m → Of F n
same_view F m n e x =
    view-moved F e.second (as-map e.base)
    (as-map e.present) (as-map e.owner) (as-flags e.dirty) (as-flags e.behind) x

-- whether a page has a slot of its own
abbrev pub owns : ℕ → ℕ → Bool
owns v u = leb 1 v && moved v u

pub not_own : (v u : ℕ) → (1 ≤ v → v ≡ u) → owns v u ≡ false
not_own v u h = grind (arith, common_steps, h)

module _ (N M S : ℕ) (few : N ≤ 64 * M) where
  pub record Fixed (m : Pager) : Type 0 where
    pub pages : m.pages ≡ N
    pub maps : m.maps ≡ M
    pub slots : m.slots ≡ S

  pub fixed_on : (m n : Pager) → Sizes m n → Fixed m → Fixed n
  fixed_on m n e h = record { pages = e.pages ∙ h.pages; maps = e.maps ∙ h.maps; slots = e.slots ∙ h.slots }

  -- which pages have slots, in the model's words
  pub record Lived (s : Held) (b w : ℕ → ℕ) : Type 0 where
    pub live : (p : ℕ) → p < N → s.live p ≡ leb 1 (b p)
    pub has : (p : ℕ) → p < N → s.has p ≡ leb 1 (w p)
    pub given : (p : ℕ) → p < N → s.given p ≡ owns (w p) (b p)

  pub lived-put : (s : Held) (b w w' : ℕ → ℕ) (p slot : ℕ) (v : List ℕ) → 1 ≤ slot → ((q : ℕ) → q < N → b q ≡ slot → ⊥) → w' p ≡ slot → ((q : ℕ) → (q ≡ p → ⊥) → w' q ≡ w q) → Lived s b w → Lived (changed p v s) b w'
  lived-put s b w w' p slot v one free here rest h = record {
    live = h.live;
    has = λ q l. grind (arith, common_steps, rest q, h.has q l);
    given = λ q l. grind (arith, common_steps, rest q, free q l, h.given q l);
  }

  pub lived-clear : (s : Held) (b w w' : ℕ → ℕ) (p : ℕ) → w' p ≡ 0 → ((q : ℕ) → (q ≡ p → ⊥) → w' q ≡ w q) → Lived s b w → Lived (cleared p s) b w'
  lived-clear s b w w' p here rest h = record {
    live = h.live;
    has = λ q l. grind (arith, common_steps, rest q, h.has q l);
    given = λ q l. grind (arith, common_steps, rest q, h.given q l);
  }

  -- right after an undo, a commit, coming up
  pub lived-same : (s : Held) (b w : ℕ → ℕ) → ((p : ℕ) → p < N → s.live p ≡ leb 1 (b p)) → ((p : ℕ) → p < N → s.has p ≡ leb 1 (b p)) → ((p : ℕ) → s.given p ≡ false) → ((p : ℕ) → p < N → w p ≡ b p) → Lived s b w
  lived-same s b w l k g e = record { live = l; has = λ p i. k p i ∙ ap (leb 1) (sym (e p i)); given = λ p i. g p ∙ sym (not_own (w p) (b p) (λ o. e p i)) }

  pub crowded : (s : Held) (b w o : ℕ → ℕ) (p : ℕ) → p < N → (1 ≤ w p → w p ≡ b p) → ((t : ℕ) → 1 ≤ t → t ≤ S → Free N b w o t → ⊥) → Lived s b w → Crowded N S p s
  crowded s b w o p l own none h = record {
    inside = l;
    wants = h.given p l ∙ not_own (w p) (b p) own;
    taken = no_room N S b w o s.live s.given (λ q i one. grind (arith, common_steps, h.live q i)) (λ q i one ne. grind (arith, common_steps, h.given q i, ne)) none;
  }

  -- THE INVARIANT
  pub record Stand (s : Held) (d : Device) (a : Bool) (b w o : ℕ → ℕ) (y h : ℕ → Bool) : Type 0 where
    pub low : Low N M S few a b s.base d
    pub above : Above N M S few b w o y s.now d
    pub behind : Behind N M S few 0 a b h d
    pub lived : Lived s b w

  pub record Off (s : Held) (d : Device) : Type 0 where
    pub area : Bool
    pub map : ℕ → ℕ
    pub low : Low N M S few area map s.base d
    pub quiet : Quiet d
    pub settled : (p : ℕ) → s.now p ≡ s.base p
    pub live : (p : ℕ) → p < N → s.live p ≡ leb 1 (map p)
    pub has : (p : ℕ) → p < N → s.has p ≡ leb 1 (map p)
    pub none : (p : ℕ) → s.given p ≡ false

  -- coming up: the entries read so far; the sectors of the other area compared so far
  pub record Read-to (i : ℕ) (a : Bool) (map : ℕ → ℕ) (m : Pager) : Type 0 where
    pub upto : i ≤ M
    pub second : m.second ≡ a
    pub entries : (p : ℕ) → p < N → p < 64 * i → bs m p ≡ map p

  pub record Compared (i : ℕ) (s : Held) (d : Device) (a : Bool) (b w o : ℕ → ℕ) (y h : ℕ → Bool) : Type 0 where
    pub upto : i ≤ M
    pub low : Low N M S few a b s.base d
    pub above : (z : ℕ → Bool) → Above N M S few b w o z s.now d
    pub lived : Lived s b w
    pub flags : (p : ℕ) → p < N → p < 64 * i → h (p / 64) ≡ false → entry_in S (shown d (area_at M (other a) (p / 64))) (p % 64) ≡ b p

  abbrev pub RisingAt : Phase → Held → (a : Bool) (map : ℕ → ℕ) → Pager → List ℕ → Device → Type 0
  RisingAt Opening s a map m g d = Unit {0}
  RisingAt Header s a map m g d = g ≡ d.kept 0
  RisingAt (Fetch i) s a map m g d = Read-to i a map m
  RisingAt (Loading i) s a map m g d = Read-to i a map m × (i < M) × (g ≡ d.kept (area_at M a i))
  RisingAt (Check i) s a map m g d = Of (Compared i s d) m
  RisingAt (Comparing i) s a map m g d = Of (Compared i s d) m × (i < M) × (g ≡ shown d (area_at M (other m.second) i))
  RisingAt Idle s a map m g d = ⊥
  RisingAt (Asked c) s a map m g d = ⊥
  RisingAt Short s a map m g d = ⊥
  RisingAt (Getting e j) s a map m g d = ⊥
  RisingAt (Putting e j) s a map m g d = ⊥
  RisingAt (Filling i) s a map m g d = ⊥
  RisingAt Settled s a map m g d = ⊥
  RisingAt Marked s a map m g d = ⊥
  RisingAt Sealed s a map m g d = ⊥

  pub record Rising (s : Held) (m : Pager) (g : List ℕ) (d : Device) : Type 0 where
    pub fixed : Fixed m
    pub off : Off s d
    pub at : RisingAt m.phase s off.area off.map m g d

  pub record Ready (s : Held) (m : Pager) (d : Device) : Type 0 where
    pub fixed : Fixed m
    pub stand : Of (Stand s d) m

  -- the bytes of a put are in the page
  abbrev pub Told : Call → List ℕ → List ℕ → Type 0
  Told (Get p) b pg = Unit {0}
  Told (Put p) b pg = (length b ≡ 4096) × (pg ≡ b)
  Told (Give p) b pg = Unit {0}
  Told (Vacant p) b pg = Unit {0}
  Told Commit b pg = Unit {0}
  Told Undo b pg = Unit {0}

  pub record InShort (c : With Call) (s : Held) (d : Device) (a : Bool) (b w o : ℕ → ℕ) (y h : ℕ → Bool) : Type 0 where
    pub page : ℕ
    pub put : c.it ≡ Put page
    pub short : length c.bytes ≡ 4096 → ⊥
    pub stand : Stand s d a b w o y h

  pub record InGetting (e j : ℕ) (c : With Call) (s : Held) (pg g : List ℕ) (d : Device) (a : Bool) (b w o : ℕ → ℕ) (y h : ℕ → Bool) : Type 0 where
    pub page : ℕ
    pub get : c.it ≡ Get page
    pub inside : page < N
    pub slot : w page ≡ e
    pub one : 1 ≤ e
    pub fits : e ≤ S
    pub less : j < 8
    pub long : length pg ≡ 4096
    pub seen : take (512 * j) pg ≡ gather (shown d) (slot_at M e) j
    pub given : g ≡ shown d (slot_at M e + j)
    pub stand : Stand s d a b w o y h

  -- while a page is written, what it holds is whatever its slot shows
  pub record InPutting (e j : ℕ) (c : With Call) (s : Held) (pg : List ℕ) (d : Device) (a : Bool) (b w o : ℕ → ℕ) (y h : ℕ → Bool) : Type 0 where
    pub page : ℕ
    pub put : c.it ≡ Put page
    pub inside : page < N
    pub bytes : pg ≡ c.bytes
    pub long : length c.bytes ≡ 4096
    pub full : blank c.bytes ≡ false
    pub one : 1 ≤ e
    pub fits : e ≤ S
    pub upto : j ≤ 8
    pub slot : w page ≡ e
    pub free : (q : ℕ) → q < N → b q ≡ e → ⊥
    pub laid : Laid (slot_at M e) pg j d
    pub low : Low N M S few a b s.base d
    pub above : Above N M S few b w o y (updated page (page_in M (shown d) e) s.now) d
    pub behind : Behind N M S few 0 a b h d
    pub lived : Lived (changed page c.bytes s) b w

  pub record InFilling (i : ℕ) (c : With Call) (s : Held) (d : Device) (a : Bool) (b w o : ℕ → ℕ) (y h : ℕ → Bool) : Type 0 where
    pub upto : i ≤ M
    pub commit : c.it ≡ Commit
    pub lived : Lived s b w
    pub low : Low N M S few a b s.base d
    pub above : Above N M S few b w o y s.now d
    pub behind : Behind N M S few i a b h d
    pub filled : Filled N M S few i a w d

  pub record InSettled (c : With Call) (s : Held) (d : Device) (a : Bool) (b w o : ℕ → ℕ) (y h : ℕ → Bool) : Type 0 where
    pub commit : c.it ≡ Commit
    pub lived : Lived s b w
    pub low : Low N M S few a b s.base d
    pub above : Above N M S few b w o y s.now d
    pub next : Body N M S few (other a) w s.now d

  pub record InMarked (c : With Call) (s : Held) (d : Device) (a : Bool) (b w o : ℕ → ℕ) (y h : ℕ → Bool) : Type 0 where
    pub commit : c.it ≡ Commit
    pub lived : Lived s b w
    pub header : List ℕ
    pub waits : d.since 0 ≡ header ∷ []
    pub names : area_in header ≡ other a
    pub named : area_in (d.kept 0) ≡ a
    pub body : Body N M S few a b s.base d
    pub above : Above N M S few b w o y s.now d
    pub next : Body N M S few (other a) w s.now d

  pub record InSealed (c : With Call) (s : Held) (d : Device) (a : Bool) (b w o : ℕ → ℕ) (y h : ℕ → Bool) : Type 0 where
    pub commit : c.it ≡ Commit
    pub lived : Lived s b w
    pub low : Low N M S few (other a) w s.now d
    pub body : Body N M S few a b s.base d
    pub above : Above N M S few b w o y s.now d

  abbrev pub BusyAt : Phase → With Call → Held → List ℕ → List ℕ → Device → Family
  BusyAt Opening c s pg g d a b w o y h = ⊥
  BusyAt Header c s pg g d a b w o y h = ⊥
  BusyAt (Fetch i) c s pg g d a b w o y h = ⊥
  BusyAt (Loading i) c s pg g d a b w o y h = ⊥
  BusyAt (Check i) c s pg g d a b w o y h = ⊥
  BusyAt (Comparing i) c s pg g d a b w o y h = ⊥
  BusyAt Idle c s pg g d a b w o y h = ⊥
  BusyAt (Asked e) c s pg g d a b w o y h = (e ≡ c.it) × Told e c.bytes pg × Stand s d a b w o y h
  BusyAt Short c s pg g d a b w o y h = InShort c s d a b w o y h
  BusyAt (Getting e j) c s pg g d a b w o y h = InGetting e j c s pg g d a b w o y h
  BusyAt (Putting e j) c s pg g d a b w o y h = InPutting e j c s pg d a b w o y h
  BusyAt (Filling i) c s pg g d a b w o y h = InFilling i c s d a b w o y h
  BusyAt Settled c s pg g d a b w o y h = InSettled c s d a b w o y h
  BusyAt Marked c s pg g d a b w o y h = InMarked c s d a b w o y h
  BusyAt Sealed c s pg g d a b w o y h = InSealed c s d a b w o y h

  pub record Busy (c : With Call) (s : Held) (m : Pager) (g : List ℕ) (d : Device) : Type 0 where
    pub fixed : Fixed m
    pub at : Of (BusyAt m.phase c s (held m) g d) m

  -- what a cut leaves of the committed state
  pub lost : (a : Bool) (b : ℕ → ℕ) (s : Held) (d f : Device) → AfterCut d f → Low N M S few a b s.base d → ((p : ℕ) → p < N → s.live p ≡ leb 1 (b p)) → Off (undone s) f
  lost a b s d f x h l = record { area = a; map = b; low = low-cut N M S few a b s.base d f x h; quiet = x.nothing; settled = λ p. refl; live = l; has = l; none = λ p. refl }
