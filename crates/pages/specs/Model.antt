-- What numbered pages are to be.
use Rattle.std.specs.Prelude.{◌≡◌, ℕ, ◌+◌, ◌*◌, ◌<◌, ◌≤◌, Bool, true, false, not, ◌&&◌, Some, None, List, length, vec_len, ◌≢◌}
use Rattle.device.specs.Device.{With, and, Engine, Judge, Sized}
use Rattle.device.specs.Layers.{over}
use Rattle.device.specs.Runs.{Whole}
use Rattle.device.specs.declared.Never.{Never}
use Rattle.device.specs.declared.Over.{Over}
use Rattle.octets.specs.Parts.{blank}
use Rattle.shadow.specs.Layout.{pages, slots, blank_page, updated, count}
use Rattle.pager.specs.Model.{pager_engine}
use Rattle.pager.specs.Model as below
use Rattle.pager.specs.declared.state.Pager.{Pager}
use Rattle.pager.specs.declared.state.Reply.{Reply}
use Rattle.pager.specs.declared.state.Reply.TheVariants.{Page, Done, NoRoom, Found, Outside}
use Rattle.pages.specs.Layer.{frames_layer}
use Rattle.pages.specs.declared.frames.PageCall.{PageCall}
use Rattle.pages.specs.declared.frames.PageCall.TheVariants.{Get, Put, Vacant, Commit, Undo}
use Rattle.pages.specs.declared.frames.Frames.{Frames}

-- the pages as committed, and as they are; which were put since the last commit or undo
pub record Pages : Type 0 where
  pub base : ℕ → List ℕ
  pub now : ℕ → List ℕ
  pub fresh : ℕ → Bool

-- every page is blank
abbrev pub blank_pages : Pages
blank_pages = record { base = λ n. blank_page; now = λ n. blank_page; fresh = λ n. false }

-- a page is put; all that was put stays, or is as it was: after an undo, and after a power cut
abbrev pub put_page : ℕ → List ℕ → Pages → Pages
put_page n b p = record { base = p.base; now = updated n b p.now; fresh = updated n true p.fresh }

abbrev pub keep : Pages → Pages
keep p = record { base = p.now; now = p.now; fresh = λ n. false }

abbrev pub drop : Pages → Pages
drop p = record { base = p.base; now = p.base; fresh = λ n. false }

-- how many pages have to be kept: those that are not blank as committed, and those that were put since and are not blank
abbrev pub kept : ℕ → Pages → ℕ
kept size p = count (pages size) (λ n. not (blank (p.base n))) + count (pages size) (λ n. p.fresh n && not (blank (p.now n)))

-- the answers to calls on a device of so many sectors; y are bytes that mean nothing
pub data Replies (size : ℕ) : With PageCall → Pages → With Reply → Pages → Type 0 where
  gets : (n : ℕ) (b : List ℕ) (p : Pages) → n < pages size → Replies size (and (Get n) b) p (and Page (p.now n)) p
  gets_none : (n : ℕ) (b y : List ℕ) (p : Pages) → pages size ≤ n → Replies size (and (Get n) b) p (and Outside y) p
  puts : (n : ℕ) (b y : List ℕ) (p : Pages) → n < pages size → length b ≡ 4096 → Replies size (and (Put n) b) p (and Done y) (put_page n b p)
  full : (n : ℕ) (b y : List ℕ) (p : Pages) → n < pages size → length b ≡ 4096 → slots size < kept size (put_page n b p) → Replies size (and (Put n) b) p (and NoRoom y) p
  puts_none : (n : ℕ) (b y : List ℕ) (p : Pages) → pages size ≤ n → Replies size (and (Put n) b) p (and Outside y) p
  puts_short : (n : ℕ) (b y : List ℕ) (p : Pages) → (length b ≢ 4096) → Replies size (and (Put n) b) p (and Outside y) p
  finds : (n m : ℕ) (b y : List ℕ) (p : Pages) → n ≤ m → m < pages size → blank (p.now m) ≡ true → ((k : ℕ) → n ≤ k → k < m → blank (p.now k) ≡ false) → Replies size (and (Vacant n) b) p (and (Found (Some m)) y) p
  finds_none : (n : ℕ) (b y : List ℕ) (p : Pages) → ((k : ℕ) → n ≤ k → k < pages size → blank (p.now k) ≡ false) → Replies size (and (Vacant n) b) p (and (Found None) y) p
  commits : (b y : List ℕ) (p : Pages) → Replies size (and Commit b) p (and Done y) (keep p)
  undoes : (b y : List ℕ) (p : Pages) → Replies size (and Undo b) p (and Done y) (drop p)

abbrev pub pages_judge : ℕ → Judge PageCall Never Reply
pages_judge size = record { State = Pages; start = blank_pages; Answers = λ c p vs r q. Replies size c p r q; down = drop }

-- the frames on the pager
abbrev pub pages_engine : Engine (Over Pager Frames) PageCall Never Reply
pages_engine = over pager_engine frames_layer

-- on a device of any size, every answer, over all calls and cuts, is the model's; and on every content of it only its sectors are asked for, and every call ends
abbrev pub PagesWhole : Type 0
PagesWhole = Whole pages_judge pages_engine

-- more than the slots have room for is more than the device has, less 1 MiB, by nine of eight
abbrev pub RoomStands : Type 0
RoomStands = (size k : ℕ) → Sized size → slots size < k → 512 * size * 8 < 8 * 1048576 + 9 * 4096 * k

-- all that the frames take of the heap, in bytes
pub record Memory (m : Frames) : Type 0 where
  pub sum : 8 * vec_len m.tags + vec_len m.stale + 4096 * vec_len m.rows + vec_len m.page ≡ 529536

-- all that pages on a device of so many sectors take: what the pager takes, at most 25 bytes a page and 8 KiB, and what the frames take
pub record Takings (size : ℕ) (m : Over Pager Frames) : Type 0 where
  pub below : below.Memory size m.below
  pub layer : Memory m.layer
