-- What each function of the pager does to it, by phases. N: pages; M: map sectors; S: slots.
use Rattle.std.specs.Prelude.{◌≡◌, ℕ, ◌+◌, ◌*◌, ◌/◌, ◌%◌, ◌<◌, ◌≤◌, Bool, true, false, cond, ◌||◌, ◌⊎◌, Option, Some, None, MatchOption, List, length, vec_items, ◌≢◌, slice_index, slice_index_or, slice_set}
use Rattle.octets.specs.Parts.{part, put, blank}
use Rattle.shadow.specs.Layout.{pages, map_sectors, slots, other, area_at, slot_at, area_in, blank_page, raw_in, entry_in, Free}
use Rattle.device.specs.Device.{With, Sector}
use Rattle.device.specs.declared.Ask.{Ask}
use Rattle.device.specs.declared.Never.{Never}
use Rattle.device.specs.declared.Ask.TheVariants.{Read, Write, Sync, Again, Answer}
use Rattle.pager.specs.declared.state.Call.{Call}
use Rattle.pager.specs.declared.state.Call.TheVariants.{Get, Put, Give, Vacant, Commit, Undo}
use Rattle.pager.specs.declared.state.Reply.{Reply}
use Rattle.pager.specs.declared.state.Reply.TheVariants.{Page, Done, NoRoom, Found, Outside}
use Rattle.pager.specs.declared.state.Phase.{Phase}
use Rattle.pager.specs.declared.state.Phase.TheVariants.{Opening, Header, Fetch, Loading, Check, Comparing, Idle, Asked, Short, Getting, Putting, Filling, Settled, Marked, Sealed}
use Rattle.pager.specs.declared.state.Pager.{Pager}

abbrev pub Asking : Type 0
Asking = Ask Never Reply

-- the arrays as functions
abbrev pub bs : Pager → ℕ → ℕ
bs m p = slice_index (vec_items m.base) p

abbrev pub ws : Pager → ℕ → ℕ
ws m p = slice_index (vec_items m.present) p

abbrev pub os : Pager → ℕ → ℕ
os m s = slice_index (vec_items m.owner) s

abbrev pub ys : Pager → ℕ → Bool
ys m i = slice_index_or (vec_items m.dirty) i false

abbrev pub hs : Pager → ℕ → Bool
hs m i = slice_index_or (vec_items m.behind) i false

-- the page under way
abbrev pub held : Pager → List ℕ
held m = vec_items m.page

-- a pager for a device of so many sectors that has yet to read it
pub record Opened (size : ℕ) (m : Pager) : Type 0 where
  pub phase : m.phase ≡ Opening
  pub pages : m.pages ≡ pages size
  pub maps : m.maps ≡ map_sectors size
  pub slots : m.slots ≡ slots size

-- no map, no owner and no flag changes
pub record Same (m n : Pager) : Type 0 where
  pub second : n.second ≡ m.second
  pub base : n.base ≡ m.base
  pub present : n.present ≡ m.present
  pub owner : n.owner ≡ m.owner
  pub dirty : n.dirty ≡ m.dirty
  pub behind : n.behind ≡ m.behind

pub record Sizes (m n : Pager) : Type 0 where
  pub pages : n.pages ≡ m.pages
  pub maps : n.maps ≡ m.maps
  pub slots : n.slots ≡ m.slots

pub record Goes (m : Pager) (r : Asking) (p : Phase) (w : Asking) (n : Pager) : Type 0 where
  pub ask : r ≡ w
  pub phase : n.phase ≡ p
  pub same : Same m n

-- a step at a place that is never come to: it answers
abbrev pub Answers : Asking → Type 0
Answers r = (y : Reply) × (r ≡ Answer y)

-- the header was read
pub record HeaderAt (m : Pager) (g : List ℕ) (r : Asking) (n : Pager) : Type 0 where
  pub ask : r ≡ Again
  pub phase : n.phase ≡ Fetch 0
  pub second : n.second ≡ area_in g

-- each slot that one of the first n pages has knows a page that has it
abbrev pub Owners : List ℕ → List ℕ → ℕ → Type 0
Owners base owner n = (p : ℕ) → p < n → slice_index base p < length owner → (slice_index owner (slice_index base p) < n) × (slice_index base (slice_index owner (slice_index base p)) ≡ slice_index base p)

-- all map sectors were read: the present map is the committed one, and the slots know their pages
pub record Linked (N S : ℕ) (m : Pager) (r : Asking) (n : Pager) : Type 0 where
  pub ask : r ≡ Again
  pub phase : n.phase ≡ Check 0
  pub second : n.second ≡ m.second
  pub base : n.base ≡ m.base
  pub present : vec_items n.present ≡ vec_items m.base
  pub owner : (p : ℕ) → p < N → bs m p ≤ S → (os n (bs m p) < N) × (bs m (os n (bs m p)) ≡ bs m p)

abbrev pub FetchAt : ℕ → ℕ → ℕ → ℕ → Pager → Asking → Pager → Type 0
FetchAt N M S i m r n = ((i < M) × Goes m r (Loading i) (Read (area_at M m.second i)) n) ⊎ ((M ≤ i) × Linked N S m r n)

pub record LoadAt (M S i : ℕ) (m : Pager) (g : List ℕ) (r : Asking) (n : Pager) : Type 0 where
  pub inside : i < M
  pub ask : r ≡ Again
  pub phase : n.phase ≡ Fetch (i + 1)
  pub second : n.second ≡ m.second
  pub rest : (p : ℕ) → p < 64 * i → bs n p ≡ bs m p
  pub here : (p : ℕ) → p / 64 ≡ i → bs n p ≡ entry_in S g (p % 64)

abbrev pub CheckAt : ℕ → ℕ → Pager → Asking → Pager → Type 0
CheckAt M i m r n = ((i < M) × Goes m r (Comparing i) (Read (area_at M (other m.second) i)) n) ⊎ ((M ≤ i) × Goes m r Idle (Answer Done) n)

pub record CompareAt (M S i : ℕ) (m : Pager) (g : List ℕ) (r : Asking) (n : Pager) : Type 0 where
  pub inside : i < M
  pub ask : r ≡ Again
  pub phase : n.phase ≡ Check (i + 1)
  pub second : n.second ≡ m.second
  pub base : n.base ≡ m.base
  pub present : n.present ≡ m.present
  pub owner : n.owner ≡ m.owner
  pub rest : (j : ℕ) → (j ≢ i) → hs n j ≡ hs m j
  pub here : hs n i ≡ false → (p : ℕ) → p / 64 ≡ i → entry_in S g (p % 64) ≡ bs m p

-- a page that has no slot is blank
pub record GetsBlank (N S p : ℕ) (m : Pager) (r : Asking) (n : Pager) : Type 0 where
  pub inside : p < N
  pub none : ws m p ≤ S → ws m p ≡ 0
  pub goes : Goes m r Idle (Answer Page) n
  pub page : held n ≡ blank_page

pub record GetsSlot (N M S p : ℕ) (m : Pager) (r : Asking) (n : Pager) : Type 0 where
  pub inside : p < N
  pub one : 1 ≤ ws m p
  pub fits : ws m p ≤ S
  pub goes : Goes m r (Getting (ws m p) 0) (Read (slot_at M (ws m p))) n

abbrev pub GetAt : ℕ → ℕ → ℕ → ℕ → Pager → Asking → Pager → Type 0
GetAt N M S p m r n = ((N ≤ p) × Goes m r Idle (Answer Outside) n) ⊎ GetsBlank N S p m r n ⊎ GetsSlot N M S p m r n

-- the slot of a page, if it has one
abbrev pub SlotOf : ℕ → ℕ → Pager → Option ℕ → Type 0
SlotOf S p m None = ws m p ≤ S → ws m p ≡ 0
SlotOf S p m (Some e) = (ws m p ≡ e) × (1 ≤ e) × (e ≤ S)

-- whether a sector of a slot is meant
abbrev pub InSlot : ℕ → ℕ → ℕ → Bool → Type 0
InSlot S e j true = (1 ≤ e) × (e ≤ S) × (j < 8)
InSlot S e j false = (1 ≤ e) × (e ≤ S) × (j < 8) → ⊥

-- a sector of a page was read, and the next is wanted; or it was the last
pub record Reads (M S e j : ℕ) (m : Pager) (g : List ℕ) (r : Asking) (n : Pager) : Type 0 where
  pub long : length g ≡ 512
  pub one : 1 ≤ e
  pub fits : e ≤ S
  pub less : j < 7
  pub goes : Goes m r (Getting e (j + 1)) (Read (slot_at M e + (j + 1))) n
  pub page : held n ≡ put (held m) (512 * j) g

pub record GotAll (j : ℕ) (m : Pager) (g : List ℕ) (r : Asking) (n : Pager) : Type 0 where
  pub long : length g ≡ 512
  pub last : j ≡ 7
  pub goes : Goes m r Idle (Answer Page) n
  pub page : held n ≡ put (held m) (512 * j) g

abbrev pub GettingAt : ℕ → ℕ → ℕ → ℕ → Pager → List ℕ → Asking → Pager → Type 0
GettingAt M S e j m g r n = Reads M S e j m g r n ⊎ GotAll j m g r n ⊎ ((InSlot S e j false) × Answers r)

-- the page has a slot that the committed state does not have for it
pub record Owned (S p : ℕ) (m : Pager) (slot : ℕ) (n : Pager) : Type 0 where
  pub is : slot ≡ ws m p
  pub one : 1 ≤ ws m p
  pub moved : ws m p ≡ bs m p → ⊥
  pub same : Same m n

-- whether a slot is free, and a free slot if there is one
abbrev pub IsFree : ℕ → ℕ → Pager → Bool → Type 0
IsFree N s m true = Free N (bs m) (ws m) (os m) s
IsFree N s m false = Free N (bs m) (ws m) (os m) s → ⊥

abbrev pub FreeSlot : ℕ → ℕ → Pager → Option ℕ → Type 0
FreeSlot N S m None = (s : ℕ) → 1 ≤ s → s ≤ S → Free N (bs m) (ws m) (os m) s → ⊥
FreeSlot N S m (Some s) = (1 ≤ s) × (s ≤ S) × Free N (bs m) (ws m) (os m) s

-- an entry of the present map is another one
pub record Entered (p e : ℕ) (m n : Pager) : Type 0 where
  pub second : n.second ≡ m.second
  pub base : n.base ≡ m.base
  pub present : vec_items n.present ≡ slice_set (vec_items m.present) p e
  pub dirty : vec_items n.dirty ≡ slice_set (vec_items m.dirty) (p / 64) true
  pub behind : n.behind ≡ m.behind

-- the page is given a free slot
pub record Given (N S p : ℕ) (m : Pager) (slot : ℕ) (n : Pager) : Type 0 where
  pub one : 1 ≤ slot
  pub fits : slot ≤ S
  pub free : Free N (bs m) (ws m) (os m) slot
  pub entered : Entered p slot m n
  pub owner : vec_items n.owner ≡ slice_set (vec_items m.owner) slot p

-- there is no free slot
pub record Refused (N S p : ℕ) (m n : Pager) : Type 0 where
  pub own : 1 ≤ ws m p → ws m p ≡ bs m p
  pub none : FreeSlot N S m None
  pub same : Same m n

abbrev pub SlotFor : ℕ → ℕ → ℕ → Pager → Option ℕ → Pager → Type 0
SlotFor N S p m None n = Refused N S p m n
SlotFor N S p m (Some slot) n = Owned S p m slot n ⊎ Given N S p m slot n

-- whether a page has a slot that the committed state does not have for it
abbrev pub Owns : ℕ → Pager → Bool → Type 0
Owns p m true = (1 ≤ ws m p) × (ws m p ≢ bs m p)
Owns p m false = 1 ≤ ws m p → ws m p ≡ bs m p

-- a blank page is put
pub record Clears (N p : ℕ) (m : Pager) (r : Asking) (n : Pager) : Type 0 where
  pub inside : p < N
  pub blank : blank (held m) ≡ true
  pub ask : r ≡ Answer Done
  pub phase : n.phase ≡ Idle
  pub entered : Entered p 0 m n
  pub owner : n.owner ≡ m.owner

-- a page is put into a slot, if there is one
abbrev pub PutEnds : Option ℕ → Asking → Phase → Type 0
PutEnds None r e = (r ≡ Answer NoRoom) × (e ≡ Idle)
PutEnds (Some slot) r e = (r ≡ Again) × (e ≡ Putting slot 0)

pub record PutsIn (N S p : ℕ) (m : Pager) (r : Asking) (n : Pager) : Type 0 where
  pub inside : p < N
  pub full : blank (held m) ≡ false
  pub slot : Option ℕ
  pub took : SlotFor N S p m slot n
  pub page : n.page ≡ m.page
  pub ends : PutEnds slot r n.phase

abbrev pub PutAt : ℕ → ℕ → ℕ → Pager → Asking → Pager → Type 0
PutAt N S p m r n = ((N ≤ p) × Goes m r Idle (Answer Outside) n) ⊎ Clears N p m r n ⊎ PutsIn N S p m r n

-- a slot for a page, and nothing is written
abbrev pub GiveEnds : Option ℕ → Asking → Type 0
GiveEnds None r = r ≡ Answer NoRoom
GiveEnds (Some slot) r = r ≡ Answer Done

pub record Gives (N S p : ℕ) (m : Pager) (r : Asking) (n : Pager) : Type 0 where
  pub inside : p < N
  pub slot : Option ℕ
  pub took : SlotFor N S p m slot n
  pub phase : n.phase ≡ Idle
  pub ends : GiveEnds slot r

abbrev pub GiveAt : ℕ → ℕ → ℕ → Pager → Asking → Pager → Type 0
GiveAt N S p m r n = ((N ≤ p) × Goes m r Idle (Answer Outside) n) ⊎ Gives N S p m r n

-- a sector of the page is written
pub record Lays (M S e j : ℕ) (m : Pager) (r : Asking) (n : Pager) : Type 0 where
  pub one : 1 ≤ e
  pub fits : e ≤ S
  pub less : j < 8
  pub goes : Goes m r (Putting e (j + 1)) (Write (slot_at M e + j)) n
  pub page : n.page ≡ m.page
  pub bytes : n.sector ≡ part (held m) (512 * j) 512

abbrev pub PuttingAt : ℕ → ℕ → ℕ → ℕ → Pager → Asking → Pager → Type 0
PuttingAt M S e j m r n = Lays M S e j m r n ⊎ ((8 ≤ j) × Goes m r Idle (Answer Done) n) ⊎ ((j < 8) × (InSlot S e j false) × Answers r)

pub record FoundAt (N p : ℕ) (m : Pager) (r : Asking) (n : Pager) : Type 0 where
  pub page : ℕ
  pub from : p ≤ page
  pub inside : page < N
  pub none : ws m page ≡ 0
  pub least : (q : ℕ) → p ≤ q → q < page → 1 ≤ ws m q
  pub goes : Goes m r Idle (Answer (Found (Some page))) n

pub record NotFound (N p : ℕ) (m : Pager) (r : Asking) (n : Pager) : Type 0 where
  pub all : (q : ℕ) → p ≤ q → q < N → 1 ≤ ws m q
  pub goes : Goes m r Idle (Answer (Found None)) n

-- undo: what the flagged map sectors had as committed
pub record UndoAt (M : ℕ) (m : Pager) (r : Asking) (n : Pager) : Type 0 where
  pub ask : r ≡ Answer Done
  pub phase : n.phase ≡ Idle
  pub second : n.second ≡ m.second
  pub base : n.base ≡ m.base
  pub present : (p : ℕ) → p < 64 * M → ws n p ≡ cond (ys m (p / 64)) (bs m p) (ws m p)
  pub owner : n.owner ≡ m.owner
  pub behind : n.behind ≡ m.behind

-- whether a map sector was changed or is behind, and the first from i on that was or is, if there is one
abbrev pub lacking : Pager → ℕ → Bool
lacking m k = ys m k || hs m k

abbrev pub NextLacking : ℕ → ℕ → Pager → Option ℕ → Type 0
NextLacking M i m r = MatchOption r ((k : ℕ) → i ≤ k → k < M → lacking m k ≡ false) (λ at. (i ≤ at) × (at < M) × (lacking m at ≡ true) × ((k : ℕ) → i ≤ k → k < at → lacking m k ≡ false))

-- the next map sector that was changed or is behind goes into the other area
pub record Fills (M i : ℕ) (m : Pager) (r : Asking) (n : Pager) : Type 0 where
  pub at : ℕ
  pub inside : at < M
  pub from : i ≤ at
  pub down : (k : ℕ) → i ≤ k → k < at → lacking m k ≡ false
  pub goes : Goes m r (Filling (at + 1)) (Write (area_at M (other m.second) at)) n
  pub raw : (p : ℕ) → p / 64 ≡ at → raw_in n.sector (p % 64) ≡ ws m p

abbrev pub FillAt : ℕ → ℕ → Pager → Asking → Pager → Type 0
FillAt M i m r n = (NextLacking M i m None × Goes m r Settled Sync n) ⊎ Fills M i m r n

-- what was written is the committed state now
pub record SealAt (M : ℕ) (m : Pager) (r : Asking) (n : Pager) : Type 0 where
  pub ask : r ≡ Answer Done
  pub phase : n.phase ≡ Idle
  pub second : n.second ≡ other m.second
  pub base : (p : ℕ) → p < 64 * M → bs n p ≡ cond (ys m (p / 64)) (ws m p) (bs m p)
  pub present : n.present ≡ m.present
  pub owner : n.owner ≡ m.owner
  pub behind : vec_items n.behind ≡ vec_items m.dirty

abbrev pub CallAt : ℕ → ℕ → ℕ → Call → Pager → Asking → Pager → Type 0
CallAt N M S (Get p) m r n = GetAt N M S p m r n
CallAt N M S (Put p) m r n = PutAt N S p m r n
CallAt N M S (Give p) m r n = GiveAt N S p m r n
CallAt N M S (Vacant p) m r n = FoundAt N p m r n ⊎ NotFound N p m r n
CallAt N M S Commit m r n = Goes m r (Filling 0) Again n
CallAt N M S Undo m r n = UndoAt M m r n

abbrev pub PhaseAt : ℕ → ℕ → ℕ → Phase → Pager → List ℕ → Asking → Pager → Type 0
PhaseAt N M S Opening m g r n = (r ≡ Read 0) × (n.phase ≡ Header)
PhaseAt N M S Header m g r n = HeaderAt m g r n
PhaseAt N M S (Fetch i) m g r n = FetchAt N M S i m r n
PhaseAt N M S (Loading i) m g r n = LoadAt M S i m g r n ⊎ ((M ≤ i) × Answers r)
PhaseAt N M S (Check i) m g r n = CheckAt M i m r n
PhaseAt N M S (Comparing i) m g r n = CompareAt M S i m g r n ⊎ ((M ≤ i) × Answers r)
PhaseAt N M S Idle m g r n = Answers r
PhaseAt N M S (Asked c) m g r n = CallAt N M S c m r n
PhaseAt N M S Short m g r n = Goes m r Idle (Answer Outside) n
PhaseAt N M S (Getting e j) m g r n = GettingAt M S e j m g r n
PhaseAt N M S (Putting e j) m g r n = PuttingAt M S e j m r n
PhaseAt N M S (Filling i) m g r n = FillAt M i m r n
PhaseAt N M S Settled m g r n = Goes m r Marked (Write 0) n × (area_in n.sector ≡ other m.second)
PhaseAt N M S Marked m g r n = Goes m r Sealed Sync n
PhaseAt N M S Sealed m g r n = SealAt M m r n

-- what is done in a phase; g is what was read last
pub record Does (p : Phase) (m : Pager) (g : List ℕ) (r : Asking) (n : Pager) : Type 0 where
  pub at : PhaseAt m.pages m.maps m.slots p m g r n
  pub sizes : Sizes m n

pub record Stepped (m : Pager) (g : List ℕ) (r : Asking) (n : Pager) : Type 0 where
  pub does : Does m.phase m g r n
  pub sector : Sector n.sector

-- how a call is taken
abbrev pub Taken : Call → List ℕ → Pager → Type 0
Taken (Get p) b n = n.phase ≡ Asked (Get p)
Taken (Put p) b n = ((length b ≡ 4096) × (n.phase ≡ Asked (Put p)) × (held n ≡ b)) ⊎ ((length b ≢ 4096) × (n.phase ≡ Short))
Taken (Give p) b n = n.phase ≡ Asked (Give p)
Taken (Vacant p) b n = n.phase ≡ Asked (Vacant p)
Taken Commit b n = n.phase ≡ Asked Commit
Taken Undo b n = n.phase ≡ Asked Undo

pub record Called (m : Pager) (c : With Call) (n : Pager) : Type 0 where
  pub taken : Taken c.it c.bytes n
  pub same : Same m n
  pub sizes : Sizes m n
