-- The session is right above the specification of pages, and so the engine is whole.
use Rattle.std.proofs.Common.{◌≡◌, ℕ, ◌<◌, List, [], Ok, Err, Result, refl, ◌∙◌, subst, inl, lit<}
use Rattle.device.specs.Device.{With, and, nothing}
use Rattle.device.specs.Layers.{Place, down, below, raised, lifting, rests, begun, midst, up, Whose, its, belows, none, after, EndsAbove, over}
use Rattle.device.specs.declared.Next.{Next}
use Rattle.device.specs.declared.Next.TheVariants.{Give}
use Rattle.device.specs.declared.Never.{Never}
use Rattle.device.proofs.StandingAbove.{Led, StandingAbove, keeps-above}
use Rattle.device.proofs.Ending.{settles-by}
use Rattle.device.proofs.Whole.{layers-compose}
use Rattle.device.proofs.Inside.{whole-inside}
use Rattle.meaning.specs.Session.{Connection, Running, Idle, idle, next, reads_not, too_long, nexts, reads, Answers, Next as WantsRow, No as Refuses}
use Rattle.pages.specs.Model.{Pages, pages_judge, pages_engine}
use Rattle.pages.proofs.Ends.{pages_whole}
use Rattle.pages.specs.declared.frames.PageCall.{PageCall}
use Rattle.pager.specs.declared.state.Reply as pager
use Rattle.pages.specs.declared.frames.Frames.{Frames}
use Rattle.pager.specs.declared.state.Pager.{Pager}
use Rattle.device.specs.declared.Over.{Over}
use Rattle.session.specs.Layer.{HeardAs, SaidAs, TakenAs, Is, StartsAt, HearsAt, session_layer}
use Rattle.session.specs.Promise.{refuses, Answered, tables, built, EngineWhole}
use Rattle.text.specs.declared.parts.Refusal as text
use Rattle.text.specs.declared.parts.Refusal.TheVariants.{TooLong, Unread}
use Rattle.session.specs.declared.statement.Doing.{Doing}
use Rattle.session.specs.declared.statement.Doing.TheVariants.{Rising, Loading, Resting, Said, Asked}
use Rattle.session.specs.declared.statement.Session.{Session}
use Rattle.session.specs.declared.Call.{Call}
use Rattle.session.specs.declared.Call.TheVariants.{Say, Next as NextRow}
use Rattle.session.specs.declared.Value.{Value}
use Rattle.session.specs.declared.Reply.{Reply}
use Rattle.session.specs.declared.Reply.TheVariants.{No}

-- IT ENDS
rank : Doing → ℕ
rank Rising = 2
rank Loading = 1
rank Resting = 1
rank (Said h) = 1
rank Asked = 1

left : Whose → Doing → ℕ
left its d = rank d
left belows d = 1
left none d = 0

fell : (x y : Next PageCall Value Reply) (b d : Doing) (k : ℕ) → Is x b y d → left (after y) d < k → left (after x) b < k
fell x y b d k h l = rw (h.0, h.1) l

start_falls : (a : Doing) (x : Next PageCall Value Reply) (b : Doing) → StartsAt a x b → left (after x) b < rank a
unfolding rank left
start_falls Rising x b h = fell x _ b _ _ h (lit< tt)
start_falls (Said (Err e)) x b h = fell x _ b _ _ h (lit< tt)
start_falls (Said (Ok u)) x b h = fell x _ b _ _ h (lit< tt)
start_falls Asked x b h = fell x _ b _ _ h (lit< tt)
start_falls Loading x b h = fell x _ b _ _ h (lit< tt)
start_falls Resting x b h = fell x _ b _ _ h (lit< tt)

hear-falls : (x : Next PageCall Value Reply) (b : Doing) → HearsAt x b → left (after x) b < 1
unfolding rank left
hear-falls x b h = fell x _ b _ _ h (lit< tt)

session-ends : (size : ℕ) → EndsAbove session_layer size
unfolding left
session-ends size w a g =
    settles-by session_layer (λ w a. Unit {0}) (λ w a. left w a.doing) (λ a x b i h. (tt, start_falls a.doing x b.doing h)) (λ a r x b i h. (tt, hear-falls x b.doing h)) w a tt

-- IT KEEPS TO THE MEANING
-- no query runs
abbrev Still : Connection → Type 0
Still t = t.running ≡ Idle

module _ (size : ℕ) where
  abbrev Inv : Place Session PageCall Call Value Pages → Connection → Type 0
  Inv (down s) t = Still t
  Inv (below a s) t = (a.doing ≡ Rising) × Still t
  Inv (raised a s) t = (a.doing ≡ Rising) × Still t
  Inv (lifting a c s) t = Still t
  Inv (rests a s) t = Still t
  Inv (begun c us a s) t = (us ≡ []) × TakenAs c.it c.bytes a.doing × Still t
  Inv (midst c us a d s) t = ⊥

  abbrev Leads : With Call → List (With Value) → Next PageCall Value Reply → Session → Pages → Connection → Type 0
  Leads c us x b s t = Led (pages_judge size) (tables built size) session_layer Inv c us x b s t

  abbrev Answer : With Call → Connection → ℕ → Connection → Type 0
  Answer c t k u = Answered built size c t [] (and (No k) []) u

  raised_at : (a b : Session) (x : Next PageCall Value Reply) (s : Pages) (t : Connection) → a.doing ≡ Rising → Still t → StartsAt a.doing x b.doing → Inv (up session_layer x b s) t
  raised_at a b x s t e h q = let z : StartsAt Rising x b.doing = subst (λ d. StartsAt d x b.doing) e q in rw z.0 h

  heard-at : (b : Session) (x : Next PageCall Value Reply) (s : Pages) (t : Connection) → Still t → HearsAt x b.doing → Inv (up session_layer x b s) t
  heard-at b x s t h q = rw q.0 h

  -- a refusal that leads to a state in which no query runs
  refused : (c : With Call) (us : List (With Value)) (x : Next PageCall Value Reply) (b : Session) (s : Pages) (t u : Connection) (k : ℕ) → us ≡ [] → x ≡ Give (No k) → Still u → Answer c t k u → Leads c us x b s t
  refused c us x b s t u k e q h w = rw (q, e) (u, w, h)

  -- with no query running, a row asked for is refused by 13
  next-still : (c : With Call) (r : Running) (t : Connection) → r ≡ Idle → c.it ≡ NextRow → t.running ≡ r → Answer c t 13 (idle t)
  unfolding next
  next-still c r t e q h =
      record {
        reply = Refuses 13;
        says = refuses 13;
        allowed = rw q (subst (λ v. Answers built size WantsRow t (next v t).reply (next v t).conn) (h ∙ e) (nexts t));
      }

  -- a text is refused by what it was read as
  said_at : (c : With Call) (us : List (With Value)) (x : Next PageCall Value Reply) (b : Session) (s : Pages) (t : Connection) (h : Result (Unit {0}) text.Refusal) → c.it ≡ Say → us ≡ [] → HeardAs c.bytes h → StartsAt (Said h) x b.doing → Leads c us x b s t
  said_at c us x b s t (Err TooLong) e n h q = refused c us x b s t (idle t) 10 n q.0 refl (record { reply = Refuses 10; says = refuses 10; allowed = rw e (too_long c.bytes t h) })
  said_at c us x b s t (Err Unread) e n h q =
      refused c us x b s t (idle t) 1 n q.0 refl (record { reply = Refuses 1; says = refuses 1; allowed = rw e (reads_not c.bytes t h.0 (λ st r. absurd (h.1 st r))) })
  said_at c us x b s t (Ok u) e n h q =
      refused c us x b s t (idle t) 12 n q.0 refl (record { reply = Refuses 12; says = refuses 12; allowed = rw e (reads c.bytes h.1.0 t h.0 h.1.1) })

  said-by : (c : With Call) (us : List (With Value)) (x : Next PageCall Value Reply) (b : Session) (s : Pages) (t : Connection) (d : Doing) → c.it ≡ Say → us ≡ [] → SaidAs c.bytes d → StartsAt d x b.doing → Leads c us x b s t
  said-by c us x b s t (Said h) e n k q = said_at c us x b s t h e n k q
  said-by c us x b s t Rising e n k q = absurd k
  said-by c us x b s t Loading e n k q = absurd k
  said-by c us x b s t Resting e n k q = absurd k
  said-by c us x b s t Asked e n k q = absurd k

  begins-at : (c : With Call) (k : Call) (us : List (With Value)) (x : Next PageCall Value Reply) (a b : Session) (s : Pages) (t : Connection) → c.it ≡ k → us ≡ [] → Still t → TakenAs k c.bytes a.doing → StartsAt a.doing x b.doing → Leads c us x b s t
  begins-at c Say us x a b s t e n h k q = said-by c us x b s t a.doing e n k q
  begins-at c NextRow us x a b s t e n h k q =
      let z : StartsAt Asked x b.doing = subst (λ d. StartsAt d x b.doing) k q in
      refused c us x b s t (idle t) 13 n z.0 refl (next-still c Idle t refl e h)

  stands : StandingAbove (pages_judge size) (tables built size) session_layer size
  stands = record {
    Inv = Inv;
    start = refl;
    wakes = λ a s t h q. (q, h);
    rose = λ a s t h. h;
    raises = λ a x b s t h q. raised_at a b x s t h.0 h.1 q;
    lifts_on = λ a c vs r x b s u t h y q. heard-at b x u t h q;
    takes = λ a c b s t h q. (refl, q, h);
    begins = λ c us a x b s t h q. begins-at c c.it us x a b s t refl h.0 h.2 h.1 q;
    goes = λ c us a d vs r x b s u t h y q. absurd h;
    below_cut = λ a s t h. refl;
    raised_cut = λ a s t h. refl;
    lifting_lost = λ a c s t h. refl;
    lifting_done = λ a c vs r s u t h y. refl;
    rest_cut = λ a s t h. refl;
    begun_cut = λ c us a s t h. inl (rw h.0 nothing, refl);
    midst_lost = λ c us a d s t h. absurd h;
    midst_done = λ c us a d vs r s u t h y. absurd h;
  }

pub engine_whole : EngineWhole
engine_whole =
    whole-inside (λ m. m.tower) (over pages_engine session_layer) (tables built)
    (layers-compose (Over Pager Frames) PageCall Never pager.Reply Session Call Value Reply pages_judge (tables built) pages_engine session_layer pages_whole
    (record { keeps = λ size h. keeps-above (pages_judge size) (tables built size) session_layer size (stands size); ends = λ size h. session-ends size }))
