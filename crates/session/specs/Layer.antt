-- What the session does, by what is under way.
use Rattle.std.specs.Prelude.{◌≡◌, ℕ, ◌<◌, ◌≤◌, List, [], length, Ok, Err, Result}
use Rattle.device.specs.Layers.{Layer}
use Rattle.device.specs.declared.Next.{Next}
use Rattle.device.specs.declared.Next.TheVariants.{Call as Calls, Give}
use Rattle.pages.specs.declared.frames.PageCall.{PageCall}
use Rattle.pages.specs.declared.frames.PageCall.TheVariants.{Get}
use Rattle.pager.specs.declared.state.Reply as pager
use Rattle.meaning.specs.Tree as tree
use Rattle.meaning.specs.Grammar.{Reads}
use Rattle.text.specs.declared.parts.Refusal as text
use Rattle.text.specs.declared.parts.Refusal.TheVariants.{TooLong, Unread}
use Rattle.session.specs.declared.refusal.Refusal.TheVariants.{NotBuilt, NoQuery}
use Rattle.session.specs.Refusal.{number_of, told}
use Rattle.session.specs.declared.statement.Doing.{Doing}
use Rattle.session.specs.declared.statement.Doing.TheVariants.{Rising, Loading, Resting, Said, Asked}
use Rattle.session.specs.declared.statement.Session.{Session}
use Rattle.session.specs.declared.Call.{Call}
use Rattle.session.specs.declared.Call.TheVariants.{Say, Next as NextRow}
use Rattle.session.specs.declared.Value.{Value}
use Rattle.session.specs.declared.Reply.{Reply}
use Rattle.session.specs.declared.Reply.TheVariants.{No, Done}

-- a text was read as this: it is too long, no statement, or one
abbrev pub HeardAs : List ℕ → Result (Unit {0}) text.Refusal → Type 0
HeardAs t (Err TooLong) = 4096 < length t
HeardAs t (Err Unread) = (length t ≤ 4096) × ((s : tree.Statement) → Reads t s → ⊥)
HeardAs t (Ok u) = (length t ≤ 4096) × ((s : tree.Statement) × Reads t s)

-- what a call begins: a text was said, or a row was asked for
abbrev pub SaidAs : List ℕ → Doing → Type 0
SaidAs t (Said h) = HeardAs t h
SaidAs t Rising = ⊥
SaidAs t Loading = ⊥
SaidAs t Resting = ⊥
SaidAs t Asked = ⊥

abbrev pub TakenAs : Call → List ℕ → Doing → Type 0
TakenAs Say t d = SaidAs t d
TakenAs NextRow t d = d ≡ Asked

-- the header is page 0
abbrev pub header : PageCall
header = Get 0

-- what it does next, and where it is then
abbrev pub Is : Next PageCall Value Reply → Doing → Next PageCall Value Reply → Doing → Type 0
Is x b y d = (x ≡ y) × (b ≡ d)

abbrev pub StartsAt : Doing → Next PageCall Value Reply → Doing → Type 0
StartsAt Rising x b = Is x b (Calls header) Loading
StartsAt (Said (Err e)) x b = Is x b (Give (No (number_of (told e)))) Resting
StartsAt (Said (Ok u)) x b = Is x b (Give (No (number_of NotBuilt))) Resting
StartsAt Asked x b = Is x b (Give (No (number_of NoQuery))) Resting
-- these do not come about
StartsAt Loading x b = Is x b (Give (No (number_of NoQuery))) Resting
StartsAt Resting x b = Is x b (Give (No (number_of NoQuery))) Resting

-- the header was read
abbrev pub HearsAt : Next PageCall Value Reply → Doing → Type 0
HearsAt x b = Is x b (Give (Done 0)) Resting

abbrev pub session_layer : Layer Session PageCall pager.Reply Call Value Reply
session_layer = record {
  Wakes = λ size a. a.doing ≡ Rising;
  Takes = λ a c b. TakenAs c.it c.bytes b.doing;
  Starts = λ a x b. StartsAt a.doing x b.doing;
  Hears = λ a r x b. HearsAt x b.doing;
  Sends = λ a. [];
  Shows = λ a. [];
}
