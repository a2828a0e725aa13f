-- What the frames do, by what is under way.
use Rattle.std.specs.Prelude.{◌≡◌, ℕ, ◌+◌, ◌-◌, ◌%◌, ◌<◌, ◌≤◌, Bool, true, false, ◌⊎◌, Option, Some, None, MatchOption, List, [], length, vec_items, ◌≢◌, slice_index, slice_index_or, slice_set}
use Rattle.octets.specs.Parts.{blank}
use Rattle.device.specs.Device.{With}
use Rattle.device.specs.Layers.{Layer}
use Rattle.device.specs.declared.Never.{Never}
use Rattle.device.specs.declared.Next.{Next}
use Rattle.device.specs.declared.Next.TheVariants as next
use Rattle.pager.specs.declared.state.Call.{Call}
use Rattle.pager.specs.declared.state.Call.TheVariants as call
use Rattle.pager.specs.declared.state.Reply.{Reply}
use Rattle.pager.specs.declared.state.Reply.TheVariants.{Page, Done, NoRoom, Found, Outside}
use Rattle.pages.specs.declared.frames.PageCall.{PageCall}
use Rattle.pages.specs.declared.frames.PageCall.TheVariants.{Get, Put, Vacant, Commit, Undo}
use Rattle.pages.specs.declared.frames.Doing.{Doing}
use Rattle.pages.specs.declared.frames.Doing.TheVariants.{Rising, Resting, Asked, Short, Owning, Evicting, Clearing, Making, Fetching, Searching, Flushing, Committing, Undoing}
use Rattle.pages.specs.declared.frames.Frames.{Frames}

abbrev pub Turn : Type 0
Turn = Next Call Never Reply

-- the frame of a page
abbrev pub frame_of : ℕ → ℕ
frame_of p = p % 128

-- the arrays as functions: the page in a frame, plus one; whether the pager lacks it; its bytes
abbrev pub tg : Frames → ℕ → ℕ
tg m f = slice_index (vec_items m.tags) f

abbrev pub st : Frames → ℕ → Bool
st m f = slice_index_or (vec_items m.stale) f false

abbrev pub fr : Frames → ℕ → List ℕ
fr m f = slice_index_or (vec_items m.rows) f []

abbrev pub given : Frames → List ℕ
given m = vec_items m.page

-- the bytes that go with a call below: a page that is put blank, else a frame
abbrev pub send_of : Doing → Frames → List ℕ
send_of Rising m = fr m m.at
send_of Resting m = fr m m.at
send_of (Asked c) m = fr m m.at
send_of Short m = fr m m.at
send_of (Owning p) m = fr m m.at
send_of (Evicting p) m = fr m m.at
send_of (Clearing p) m = given m
send_of (Making p) m = fr m m.at
send_of (Fetching p) m = fr m m.at
send_of Searching m = fr m m.at
send_of (Flushing i) m = fr m m.at
send_of Committing m = fr m m.at
send_of Undoing m = fr m m.at

-- the frames stay as they are
pub record Same (m n : Frames) : Type 0 where
  pub tags : n.tags ≡ m.tags
  pub stale : n.stale ≡ m.stale
  pub rows : n.rows ≡ m.rows

pub record Goes (m : Frames) (x : Turn) (d : Doing) (w : Turn) (n : Frames) : Type 0 where
  pub turn : x ≡ w
  pub doing : n.doing ≡ d
  pub same : Same m n

-- a frame is another page's, before and after it has the bytes; it is nobody's
pub record Claims (p : ℕ) (flag : Bool) (m n : Frames) : Type 0 where
  pub tags : vec_items n.tags ≡ slice_set (vec_items m.tags) (frame_of p) (p + 1)
  pub stale : vec_items n.stale ≡ slice_set (vec_items m.stale) (frame_of p) flag
  pub rows : n.rows ≡ m.rows

pub record Refills (p tag : ℕ) (flag : Bool) (bytes : List ℕ) (m n : Frames) : Type 0 where
  pub tags : vec_items n.tags ≡ slice_set (vec_items m.tags) (frame_of p) tag
  pub stale : vec_items n.stale ≡ slice_set (vec_items m.stale) (frame_of p) flag
  pub rows : vec_items n.rows ≡ slice_set (vec_items m.rows) (frame_of p) bytes

pub record Vacates (p : ℕ) (m n : Frames) : Type 0 where
  pub tags : vec_items n.tags ≡ slice_set (vec_items m.tags) (frame_of p) 0
  pub stale : vec_items n.stale ≡ slice_set (vec_items m.stale) (frame_of p) false
  pub rows : n.rows ≡ m.rows

-- the page that is put is in its frame
pub record Stores (p : ℕ) (m : Frames) (x : Turn) (n : Frames) : Type 0 where
  pub turn : x ≡ next.Give Done
  pub doing : n.doing ≡ Resting
  pub refills : p < 18446744073709551615 → Refills p (p + 1) true (given m) m n

-- the frame f is written back
pub record WritesBack (f : ℕ) (d : Doing) (m : Frames) (x : Turn) (n : Frames) : Type 0 where
  pub turn : x ≡ next.Call (call.Put (tg m f - 1))
  pub doing : n.doing ≡ d
  pub same : Same m n
  pub at : n.at ≡ f
  pub page : n.page ≡ m.page

-- the page in a frame, if there is one; whether a page is in its frame, and whether its frame is stale
abbrev pub PageIn : ℕ → Frames → Option ℕ → Type 0
PageIn f m None = tg m f ≡ 0
PageIn f m (Some q) = tg m f ≡ q + 1

abbrev pub Hit : ℕ → Frames → Bool → Type 0
Hit p m true = tg m (frame_of p) ≡ p + 1
Hit p m false = tg m (frame_of p) ≡ p + 1 → ⊥

abbrev pub GetBy : Bool → Bool → ℕ → Frames → Turn → Frames → Type 0
GetBy true s p m x n = Goes m x Resting (next.Give Page) n × (n.at ≡ frame_of p)
GetBy false true p m x n = WritesBack (frame_of p) (Making p) m x n
GetBy false false p m x n = Goes m x (Fetching p) (next.Call (call.Get p)) n

pub record GetStarts (p : ℕ) (m : Frames) (x : Turn) (n : Frames) : Type 0 where
  pub hit : Bool
  pub hits : Hit p m hit
  pub by : GetBy hit (st m (frame_of p)) p m x n

abbrev pub PutBy : Bool → Bool → Bool → ℕ → Frames → Turn → Frames → Type 0
PutBy true h s p m x n = Goes m x (Clearing p) (next.Call (call.Put p)) n × (n.page ≡ m.page)
PutBy false true true p m x n = Stores p m x n
PutBy false true false p m x n = Goes m x (Owning p) (next.Call (call.Give p)) n × (n.page ≡ m.page)
PutBy false false s p m x n = Goes m x (Owning p) (next.Call (call.Give p)) n × (n.page ≡ m.page)

pub record PutStarts (p : ℕ) (m : Frames) (x : Turn) (n : Frames) : Type 0 where
  pub hit : Bool
  pub hits : Hit p m hit
  pub by : PutBy (blank (given m)) hit (st m (frame_of p)) p m x n

-- the first stale frame from i on, if there is one
abbrev pub NextStale : ℕ → Frames → Option ℕ → Type 0
NextStale i m r = MatchOption r ((k : ℕ) → i ≤ k → k < 128 → st m k ≡ false) (λ f. (i ≤ f) × (f < 128) × (st m f ≡ true) × ((k : ℕ) → i ≤ k → k < f → st m k ≡ false))

-- the next stale frame from i on is written back, or there is none and the pager commits
pub record Flushes (i : ℕ) (x : Turn) (n : Frames) : Type 0 where
  pub from : i ≤ n.at
  pub clean : (k : ℕ) → i ≤ k → k < n.at → st n k ≡ false
  pub stale : st n n.at ≡ true
  pub turn : x ≡ next.Call (call.Put (tg n n.at - 1))
  pub doing : n.doing ≡ Flushing n.at

pub record Commits (i : ℕ) (x : Turn) (n : Frames) : Type 0 where
  pub clean : (k : ℕ) → i ≤ k → k < 128 → st n k ≡ false
  pub turn : x ≡ next.Call call.Commit
  pub doing : n.doing ≡ Committing

abbrev pub FlushOn : ℕ → Turn → Frames → Type 0
FlushOn i x n = Flushes i x n ⊎ Commits i x n

pub record UndoStarts (m : Frames) (x : Turn) (n : Frames) : Type 0 where
  pub turn : x ≡ next.Call call.Undo
  pub doing : n.doing ≡ Undoing
  pub none : (f : ℕ) → tg n f ≡ 0
  pub clean : (f : ℕ) → st n f ≡ false

abbrev pub CallStarts : PageCall → Frames → Turn → Frames → Type 0
CallStarts (Get p) m x n = GetStarts p m x n
CallStarts (Put p) m x n = PutStarts p m x n
CallStarts (Vacant p) m x n = Goes m x Searching (next.Call (call.Vacant p)) n
CallStarts Commit m x n = Same m n × FlushOn 0 x n
CallStarts Undo m x n = UndoStarts m x n

-- the layer's turn
abbrev pub Starts : Doing → Frames → Turn → Frames → Type 0
Starts (Asked c) m x n = CallStarts c m x n
Starts Short m x n = Goes m x Resting (next.Give Outside) n
Starts Rising m x n = Goes m x Resting (next.Give Done) n
Starts Resting m x n = Goes m x Resting (next.Give Done) n
Starts (Owning p) m x n = Goes m x Resting (next.Give Done) n
Starts (Evicting p) m x n = Goes m x Resting (next.Give Done) n
Starts (Clearing p) m x n = Goes m x Resting (next.Give Done) n
Starts (Making p) m x n = Goes m x Resting (next.Give Done) n
Starts (Fetching p) m x n = Goes m x Resting (next.Give Done) n
Starts Searching m x n = Goes m x Resting (next.Give Done) n
Starts (Flushing i) m x n = Goes m x Resting (next.Give Done) n
Starts Committing m x n = Goes m x Resting (next.Give Done) n
Starts Undoing m x n = Goes m x Resting (next.Give Done) n

abbrev pub OwnBy : Bool → Bool → ℕ → Frames → Turn → Frames → Type 0
OwnBy true s p m x n = Stores p m x n
OwnBy false true p m x n = WritesBack (frame_of p) (Evicting p) m x n
OwnBy false false p m x n = Stores p m x n

-- there is a slot for the page that is put
pub record Owns (p : ℕ) (m : Frames) (x : Turn) (n : Frames) : Type 0 where
  pub hit : Bool
  pub hits : Hit p m hit
  pub by : OwnBy hit (st m (frame_of p)) p m x n

abbrev pub Told : Reply → Frames → Turn → Frames → Type 0
Told r m x n = Goes m x Resting (next.Give r) n

-- a page that was put blank leaves its frame
abbrev pub ClearBy : Bool → ℕ → Frames → Frames → Type 0
ClearBy true p m n = Vacates p m n
ClearBy false p m n = Same m n

pub record Cleared (p : ℕ) (m : Frames) (x : Turn) (n : Frames) : Type 0 where
  pub turn : x ≡ next.Give Done
  pub doing : n.doing ≡ Resting
  pub hit : Bool
  pub hits : Hit p m hit
  pub by : ClearBy hit p m n

pub record Made (p : ℕ) (m : Frames) (x : Turn) (n : Frames) : Type 0 where
  pub turn : x ≡ next.Call (call.Get p)
  pub doing : n.doing ≡ Fetching p
  pub vacates : Vacates p m n

-- a page has come, and is in its frame
pub record Fetched (p : ℕ) (m : Frames) (b : List ℕ) (x : Turn) (n : Frames) : Type 0 where
  pub turn : length b ≡ 4096 → x ≡ next.Give Page
  pub answers : (y : Reply) × (x ≡ next.Give y)
  pub doing : n.doing ≡ Resting
  pub at : length b ≡ 4096 → n.at ≡ frame_of p
  pub refills : length b ≡ 4096 → p < 18446744073709551615 → Refills p (p + 1) false b m n

pub record Flushed (i : ℕ) (m : Frames) (x : Turn) (n : Frames) : Type 0 where
  pub tags : n.tags ≡ m.tags
  pub rows : n.rows ≡ m.rows
  pub stale : i < 128 → vec_items n.stale ≡ slice_set (vec_items m.stale) i false
  pub on : FlushOn (i + 1) x n

-- the pager has answered
abbrev pub Hears : Doing → Reply → List ℕ → Frames → Turn → Frames → Type 0
Hears (Owning p) Done b m x n = Owns p m x n
Hears (Owning p) Page b m x n = Told Page m x n
Hears (Owning p) NoRoom b m x n = Told NoRoom m x n
Hears (Owning p) (Found q) b m x n = Told (Found q) m x n
Hears (Owning p) Outside b m x n = Told Outside m x n
Hears (Evicting p) r b m x n = Stores p m x n
Hears (Clearing p) Done b m x n = Cleared p m x n
Hears (Clearing p) Page b m x n = Told Page m x n
Hears (Clearing p) NoRoom b m x n = Told NoRoom m x n
Hears (Clearing p) (Found q) b m x n = Told (Found q) m x n
Hears (Clearing p) Outside b m x n = Told Outside m x n
Hears (Making p) r b m x n = Made p m x n
Hears (Fetching p) Page b m x n = Fetched p m b x n
Hears (Fetching p) Done b m x n = Told Done m x n
Hears (Fetching p) NoRoom b m x n = Told NoRoom m x n
Hears (Fetching p) (Found q) b m x n = Told (Found q) m x n
Hears (Fetching p) Outside b m x n = Told Outside m x n
Hears (Flushing i) r b m x n = Flushed i m x n
Hears Searching r b m x n = Told r m x n
Hears Committing r b m x n = Told r m x n
Hears Undoing r b m x n = Told r m x n
Hears Rising r b m x n = Told r m x n
Hears Resting r b m x n = Told r m x n
Hears (Asked c) r b m x n = Told r m x n
Hears Short r b m x n = Told r m x n

-- how a call is taken
abbrev pub TakenBy : PageCall → List ℕ → Frames → Type 0
TakenBy (Get p) b n = n.doing ≡ Asked (Get p)
TakenBy (Put p) b n = ((length b ≡ 4096) × (n.doing ≡ Asked (Put p)) × (given n ≡ b)) ⊎ ((length b ≢ 4096) × (n.doing ≡ Short))
TakenBy (Vacant p) b n = n.doing ≡ Asked (Vacant p)
TakenBy Commit b n = n.doing ≡ Asked Commit
TakenBy Undo b n = n.doing ≡ Asked Undo

pub record Takes (m : Frames) (c : With PageCall) (n : Frames) : Type 0 where
  pub taken : TakenBy c.it c.bytes n
  pub same : Same m n

pub record Wakes (m : Frames) : Type 0 where
  pub doing : m.doing ≡ Rising
  pub none : (f : ℕ) → tg m f ≡ 0
  pub clean : (f : ℕ) → st m f ≡ false

abbrev pub frames_layer : Layer Frames Call Reply PageCall Never Reply
frames_layer = record {
  Wakes = λ size m. Wakes m;
  Takes = Takes;
  Starts = λ m x n. Starts m.doing m x n;
  Hears = λ m r x n. Hears m.doing r.it r.bytes m x n;
  Sends = λ m. send_of m.doing m;
  Shows = λ m. fr m m.at;
}
