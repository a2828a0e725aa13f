-- What the pager is to be, and the pager as its contracts have it.
use Rattle.std.specs.Prelude.{◌≡◌, ℕ, ◌+◌, ◌*◌, ◌<◌, ◌≤◌, Bool, true, false, Some, None, List, length, vec_len, ◌≢◌}
use Rattle.device.specs.Device.{With, and, Engine, Judge}
use Rattle.device.specs.Runs.{Whole}
use Rattle.device.specs.declared.Never.{Never}
use Rattle.octets.specs.Parts.{blank}
use Rattle.shadow.specs.Layout.{pages, map_sectors, slots, blank_page, updated, count}
use Rattle.pager.specs.Steps.{Opened, Called, Stepped, held}
use Rattle.pager.specs.declared.state.Call.{Call}
use Rattle.pager.specs.declared.state.Call.TheVariants.{Get, Put, Give, Vacant, Commit, Undo}
use Rattle.pager.specs.declared.state.Reply.{Reply}
use Rattle.pager.specs.declared.state.Reply.TheVariants.{Page, Done, NoRoom, Found, Outside}
use Rattle.pager.specs.declared.state.Pager.{Pager}

-- the pages as committed, and as they are; which have a slot as committed, and which have one now; which have been given one of their own since the last commit or undo
pub record Held : Type 0 where
  pub base : ℕ → List ℕ
  pub now : ℕ → List ℕ
  pub live : ℕ → Bool
  pub has : ℕ → Bool
  pub given : ℕ → Bool

abbrev pub undone : Held → Held
undone s = record { base = s.base; now = s.base; live = s.live; has = s.live; given = λ p. false }

abbrev pub committed : Held → Held
committed s = record { base = s.now; now = s.now; live = s.has; has = s.has; given = λ p. false }

-- a page has a slot of its own, and holds v
abbrev pub changed : ℕ → List ℕ → Held → Held
changed p v s = record { base = s.base; now = updated p v s.now; live = s.live; has = updated p true s.has; given = updated p true s.given }

-- a page is blank, and has no slot
abbrev pub cleared : ℕ → Held → Held
cleared p s = record { base = s.base; now = updated p blank_page s.now; live = s.live; has = updated p false s.has; given = updated p false s.given }

-- there is no slot for one page more
pub record Crowded (N S p : ℕ) (s : Held) : Type 0 where
  pub inside : p < N
  pub wants : s.given p ≡ false
  pub taken : S ≤ count N s.live + count N s.given

-- the answers to calls, for N pages and S slots; y are bytes that mean nothing
pub data Replies (N S : ℕ) : With Call → Held → With Reply → Held → Type 0 where
  gets : (p : ℕ) (b : List ℕ) (s : Held) → p < N → Replies N S (and (Get p) b) s (and Page (s.now p)) s
  gets_none : (p : ℕ) (b y : List ℕ) (s : Held) → N ≤ p → Replies N S (and (Get p) b) s (and Outside y) s
  puts : (p : ℕ) (b y : List ℕ) (s : Held) → p < N → length b ≡ 4096 → blank b ≡ false → Replies N S (and (Put p) b) s (and Done y) (changed p b s)
  clears : (p : ℕ) (b y : List ℕ) (s : Held) → p < N → length b ≡ 4096 → blank b ≡ true → Replies N S (and (Put p) b) s (and Done y) (cleared p s)
  puts_none : (p : ℕ) (b y : List ℕ) (s : Held) → N ≤ p → Replies N S (and (Put p) b) s (and Outside y) s
  puts_short : (p : ℕ) (b y : List ℕ) (s : Held) → (length b ≢ 4096) → Replies N S (and (Put p) b) s (and Outside y) s
  full : (p : ℕ) (b y : List ℕ) (s : Held) → blank b ≡ false → Crowded N S p s → Replies N S (and (Put p) b) s (and NoRoom y) s
  -- what the page then holds is not said
  lends : (p : ℕ) (b v y : List ℕ) (s : Held) → p < N → Replies N S (and (Give p) b) s (and Done y) (changed p v s)
  lends_none : (p : ℕ) (b y : List ℕ) (s : Held) → N ≤ p → Replies N S (and (Give p) b) s (and Outside y) s
  lends_full : (p : ℕ) (b y : List ℕ) (s : Held) → Crowded N S p s → Replies N S (and (Give p) b) s (and NoRoom y) s
  finds : (p q : ℕ) (b y : List ℕ) (s : Held) → p ≤ q → q < N → s.has q ≡ false → ((k : ℕ) → p ≤ k → k < q → s.has k ≡ true) → Replies N S (and (Vacant p) b) s (and (Found (Some q)) y) s
  finds_none : (p : ℕ) (b y : List ℕ) (s : Held) → ((k : ℕ) → p ≤ k → k < N → s.has k ≡ true) → Replies N S (and (Vacant p) b) s (and (Found None) y) s
  commits : (b y : List ℕ) (s : Held) → Replies N S (and Commit b) s (and Done y) (committed s)
  undoes : (b y : List ℕ) (s : Held) → Replies N S (and Undo b) s (and Done y) (undone s)

abbrev pub start_held : Held
start_held = record { base = λ p. blank_page; now = λ p. blank_page; live = λ p. false; has = λ p. false; given = λ p. false }

abbrev pub pager_judge : ℕ → Judge Call Never Reply
pager_judge size = record { State = Held; start = start_held; Answers = λ c s vs r t. Replies (pages size) (slots size) c s r t; down = undone }

abbrev pub pager_engine : Engine Pager Call Never Reply
pager_engine = record { Opens = Opened; Begins = Called; Steps = Stepped; Buffer = λ m. m.sector; Shows = held }

-- on a device of any size, every answer, over all calls and cuts, is the model's; and on every content of it only its sectors are asked for, and every call ends
abbrev pub PagerWhole : Type 0
PagerWhole = Whole pager_judge pager_engine

-- all that a pager takes of the heap, in bytes: two maps and the owners of the slots by eight bytes an entry, two flags a map sector, one page. At most 25 bytes a page and 8 KiB.
pub record Memory (size : ℕ) (m : Pager) : Type 0 where
  pub sum : 8 * vec_len m.base + 8 * vec_len m.present + 8 * vec_len m.owner + vec_len m.dirty + vec_len m.behind + vec_len m.page ≡ 1024 * map_sectors size + 8 * (slots size + 1) + 2 * map_sectors size + 4096
  pub most : 1024 * map_sectors size + 8 * (slots size + 1) + 2 * map_sectors size + 4096 ≤ 25 * pages size + 8192
