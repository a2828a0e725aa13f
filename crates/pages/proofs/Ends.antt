-- Every call of the frames ends, whatever the pager answers; and the frames on the pager as a whole.
use Rattle.std.proofs.Common.{◌≡◌, ℕ, ◌+◌, ◌-◌, ◌<◌, ◌≤◌, Bool, true, false, List, sym, subst, inl, inr, arith}
use Rattle.octets.specs.Parts.{blank}
use Rattle.device.specs.Layers.{Whose, its, belows, none, after, EndsAbove, BothOpen, both_open}
use Rattle.device.specs.declared.Over.{Over}
use Rattle.device.specs.declared.Never.{Never}
use Rattle.device.specs.declared.Next.TheVariants as next
use Rattle.device.proofs.Ending.{settles-by}
use Rattle.device.proofs.StandingAbove.{keeps-above}
use Rattle.device.proofs.Whole.{layers-compose}
use Rattle.pager.specs.Model.{pager_judge, pager_engine}
use Rattle.pager.specs.Model as below
use Rattle.pager.specs.Steps.{Opened}
use Rattle.pager.specs.declared.state.Pager.{Pager}
use Rattle.pager.specs.declared.state.Call.{Call}
use Rattle.pager.specs.declared.state.Call.TheVariants as call
use Rattle.pager.specs.declared.state.Reply.{Reply}
use Rattle.pager.specs.declared.state.Reply.TheVariants.{Page, Done, NoRoom, Found, Outside}
use Rattle.pager.proofs.Stands.{pager_whole}
use Rattle.pages.specs.Layer.{Turn, frame_of, tg, st, given, GetBy, PutBy, FlushOn, CallStarts, Starts, OwnBy, Hears, frames_layer}
use Rattle.pages.specs.Model.{pages_judge, PagesWhole, RoomStands, Memory, Takings}
use Rattle.pages.specs.declared.frames.PageCall.{PageCall}
use Rattle.pages.specs.declared.frames.PageCall.TheVariants.{Get, Put, Vacant, Commit, Undo}
use Rattle.pages.specs.declared.frames.Doing.{Doing}
use Rattle.pages.specs.declared.frames.Doing.TheVariants.{Rising, Resting, Asked, Short, Owning, Evicting, Clearing, Making, Fetching, Searching, Flushing, Committing, Undoing}
use Rattle.pages.specs.declared.frames.Frames.{Frames}
use Rattle.pages.proofs.Keeps.{stands}

-- how many answers of the pager are to come at most
abbrev soon : Doing → ℕ
soon Rising = 1
soon Resting = 1
soon (Asked c) = 1
soon Short = 1
soon (Owning p) = 3
soon (Evicting p) = 1
soon (Clearing p) = 1
soon (Making p) = 3
soon (Fetching p) = 1
soon Searching = 1
soon (Flushing i) = 2 + (128 - i)
soon Committing = 1
soon Undoing = 1

abbrev left : Whose → Frames → ℕ
left its a = 200
left belows a = soon a.doing
left none a = 0

module _ (a b : Frames) (x : Turn) (n : ℕ) where
  calls : (k : Call) (d : Doing) → x ≡ next.Call k → b.doing ≡ d → soon d < n → left (after x) b < n
  calls k d e f h = rw e (subst (λ z. soon z < n) (sym f) h)

  gives : (y : Reply) → x ≡ next.Give y → 0 < n → left (after x) b < n
  gives y e h = rw e h

  flushes : (i : ℕ) → FlushOn i x b → 2 ≤ n → (i < 128 → 2 + (128 - i) < n) → left (after x) b < n
  flushes i (inl y) h k = let z = b.low in let w = y.from in calls (call.Put (tg b b.at - 1)) (Flushing b.at) y.turn y.doing (let v = k (omega arith) in omega arith)
  flushes i (inr y) h k = calls call.Commit Committing y.turn y.doing (omega arith)

  start-get : (h z : Bool) (p : ℕ) → 4 ≤ n → GetBy h z p a x b → left (after x) b < n
  start-get true z p m y = gives Page y.0.turn (omega arith)
  start-get false true p m y = calls (call.Put (tg a (frame_of p) - 1)) (Making p) y.turn y.doing (omega arith)
  start-get false false p m y = calls (call.Get p) (Fetching p) y.turn y.doing (omega arith)

  start-put : (o h z : Bool) (p : ℕ) → 4 ≤ n → PutBy o h z p a x b → left (after x) b < n
  start-put true h z p m y = calls (call.Put p) (Clearing p) y.0.turn y.0.doing (omega arith)
  start-put false true true p m y = gives Done y.turn (omega arith)
  start-put false true false p m y = calls (call.Give p) (Owning p) y.0.turn y.0.doing (omega arith)
  start-put false false z p m y = calls (call.Give p) (Owning p) y.0.turn y.0.doing (omega arith)

  start-call : (c : PageCall) → 140 ≤ n → CallStarts c a x b → left (after x) b < n
  start-call (Get p) m y = start-get y.hit (st a (frame_of p)) p (omega arith) y.by
  start-call (Put p) m y = start-put (blank (given a)) y.hit (st a (frame_of p)) p (omega arith) y.by
  start-call (Vacant p) m y = calls (call.Vacant p) Searching y.turn y.doing (omega arith)
  start-call Commit m y = flushes 0 y.1 (omega arith) (λ l. omega arith)
  start-call Undo m y = calls call.Undo Undoing y.turn y.doing (omega arith)

  start-at : (d : Doing) → 140 ≤ n → Starts d a x b → left (after x) b < n
  start-at (Asked c) m y = start-call c m y
  start-at Short m y = gives Outside y.turn (omega arith)
  start-at Rising m y = gives Done y.turn (omega arith)
  start-at Resting m y = gives Done y.turn (omega arith)
  start-at (Owning p) m y = gives Done y.turn (omega arith)
  start-at (Evicting p) m y = gives Done y.turn (omega arith)
  start-at (Clearing p) m y = gives Done y.turn (omega arith)
  start-at (Making p) m y = gives Done y.turn (omega arith)
  start-at (Fetching p) m y = gives Done y.turn (omega arith)
  start-at Searching m y = gives Done y.turn (omega arith)
  start-at (Flushing i) m y = gives Done y.turn (omega arith)
  start-at Committing m y = gives Done y.turn (omega arith)
  start-at Undoing m y = gives Done y.turn (omega arith)

  own-by : (h z : Bool) (p : ℕ) → 3 ≤ n → OwnBy h z p a x b → left (after x) b < n
  own-by true z p m y = gives Done y.turn (omega arith)
  own-by false true p m y = calls (call.Put (tg a (frame_of p) - 1)) (Evicting p) y.turn y.doing (omega arith)
  own-by false false p m y = gives Done y.turn (omega arith)

hear-at : (a b : Frames) (x : Turn) (d : Doing) (r : Reply) (v : List ℕ) → Hears d r v a x b → left (after x) b < soon d
hear-at a b x (Owning p) Done v y = own-by a b x 3 y.hit (st a (frame_of p)) p (omega arith) y.by
hear-at a b x (Owning p) Page v y = gives a b x 3 Page y.turn (omega arith)
hear-at a b x (Owning p) NoRoom v y = gives a b x 3 NoRoom y.turn (omega arith)
hear-at a b x (Owning p) (Found q) v y = gives a b x 3 (Found q) y.turn (omega arith)
hear-at a b x (Owning p) Outside v y = gives a b x 3 Outside y.turn (omega arith)
hear-at a b x (Evicting p) r v y = gives a b x 1 Done y.turn (omega arith)
hear-at a b x (Clearing p) Done v y = gives a b x 1 Done y.turn (omega arith)
hear-at a b x (Clearing p) Page v y = gives a b x 1 Page y.turn (omega arith)
hear-at a b x (Clearing p) NoRoom v y = gives a b x 1 NoRoom y.turn (omega arith)
hear-at a b x (Clearing p) (Found q) v y = gives a b x 1 (Found q) y.turn (omega arith)
hear-at a b x (Clearing p) Outside v y = gives a b x 1 Outside y.turn (omega arith)
hear-at a b x (Making p) r v y = calls a b x 3 (call.Get p) (Fetching p) y.turn y.doing (omega arith)
hear-at a b x (Fetching p) Page v y = gives a b x 1 y.answers.0 y.answers.1 (omega arith)
hear-at a b x (Fetching p) Done v y = gives a b x 1 Done y.turn (omega arith)
hear-at a b x (Fetching p) NoRoom v y = gives a b x 1 NoRoom y.turn (omega arith)
hear-at a b x (Fetching p) (Found q) v y = gives a b x 1 (Found q) y.turn (omega arith)
hear-at a b x (Fetching p) Outside v y = gives a b x 1 Outside y.turn (omega arith)
hear-at a b x (Flushing i) r v y = flushes a b x (2 + (128 - i)) (i + 1) y.on (omega arith) (λ l. omega arith)
hear-at a b x Searching r v y = gives a b x 1 r y.turn (omega arith)
hear-at a b x Committing r v y = gives a b x 1 r y.turn (omega arith)
hear-at a b x Undoing r v y = gives a b x 1 r y.turn (omega arith)
hear-at a b x Rising r v y = gives a b x 1 r y.turn (omega arith)
hear-at a b x Resting r v y = gives a b x 1 r y.turn (omega arith)
hear-at a b x (Asked c) r v y = gives a b x 1 r y.turn (omega arith)
hear-at a b x Short r v y = gives a b x 1 r y.turn (omega arith)

frames-end : (size : ℕ) → EndsAbove frames_layer size
frames-end size w a g =
    settles-by frames_layer (λ w a. Unit {0}) left (λ a x b i h. (tt, start-at a b x 200 a.doing (omega arith) h)) (λ a r x b i h. (tt, hear-at a b x a.doing r.it r.bytes h)) w a tt

pub pages_whole : PagesWhole
pages_whole =
    layers-compose Pager Call Never Reply Frames PageCall Never Reply pager_judge pages_judge pager_engine frames_layer pager_whole
    (record { keeps = λ size z. keeps-above (pager_judge size) (pages_judge size) frames_layer size (stands size z); ends = λ size z. frames-end size })

pub room_stands : RoomStands
room_stands size k z h = omega (arith, z.least, z.most)

-- what is taken follows from the sizes
pager-memory : (size : ℕ) (m : Pager) → Opened size m → below.Memory size m
pager-memory size m h = record { sum = omega (arith, m.blen, m.plen, m.olen, m.dlen, m.hlen, m.glen, h.maps, h.slots); most = omega arith }

frames-memory : (m : Frames) → Memory m
frames-memory m = record { sum = omega (arith, m.tlen, m.slen, m.rlen, m.glen) }

pub takings : (size : ℕ) (m : Over Pager Frames) → BothOpen pager_engine frames_layer size m → Takings size m
takings _ _ (both_open {size} {b} {a} p q) = record { below = pager-memory size b p; layer = frames-memory a }
