-- THE PROMISE OF THE WHOLE. Whatever is said, whatever is asked, wherever power fails, on any device: everything that is ever seen is as the meaning says.
use Rattle.std.specs.Prelude.{ℕ, Bool, false, List, [], map, reverse, Ok, Err, Result}
use Rattle.device.specs.Device.{With, Engine as Store, Judge, Sized}
use Rattle.device.specs.Runs.{Whole}
use Rattle.device.specs.Layers.{over}
use Rattle.device.specs.Inside.{inside}
use Rattle.meaning.specs.Value.{Value as Worth, Null as NullWorth, Num, Text as TextWorth}
use Rattle.meaning.specs.Tree.{Statement}
use Rattle.meaning.specs.Meaning.{blank}
use Rattle.meaning.specs.Session.{Call as Spoken, Say as SaysText, Next as WantsRow, Reply as Told, No as Refuses, Done as HasDone, Begun as Begins, Gives, End as Ends, Full as IsFull, Connection, fresh, Answers}
use Rattle.pages.specs.Model.{pages_engine}
use Rattle.session.specs.Layer.{session_layer}
use Rattle.session.specs.declared.Call.{Call}
use Rattle.session.specs.declared.Call.TheVariants.{Say, Next}
use Rattle.session.specs.declared.Value.{Value}
use Rattle.session.specs.declared.Value.TheVariants.{Null, Number, Text}
use Rattle.session.specs.declared.Reply.{Reply}
use Rattle.session.specs.declared.Reply.TheVariants.{No, Done, Begun, Row, End, Full}
use Rattle.session.specs.declared.Engine.{Engine}
use Rattle.session.specs.declared.Unopened.{Unopened}
use Rattle.session.specs.declared.Unopened.TheVariants.{Size, Memory}

-- what a call says
abbrev pub call_of : Call → List ℕ → Spoken
call_of Say text = SaysText text
call_of Next text = WantsRow

-- what a value that is handed over is, with the bytes beside it
abbrev pub value_of : Value → List ℕ → Worth
value_of Null text = NullWorth
value_of (Number n) text = Num n
value_of Text text = TextWorth text

abbrev pub row_of : List (With Value) → List Worth
row_of vs = reverse (map (λ (v : With Value). value_of v.it v.bytes) vs)

-- what a reply says; only a row has values, the latest first
pub data Says : List (With Value) → Reply → Told → Type 0 where
  refuses : (k : ℕ) → Says [] (No k) (Refuses k)
  has_done : (n : ℕ) → Says [] (Done n) (HasDone n)
  begins : Says [] Begun Begins
  gives : (vs : List (With Value)) → Says vs Row (Gives (row_of vs))
  ends : Says [] End Ends
  is_full : Says [] Full IsFull

-- a call may be answered so, in a state of the tables, and lead to another
pub record Answered (can : Statement → Bool) (size : ℕ) (c : With Call) (s : Connection) (vs : List (With Value)) (r : With Reply) (t : Connection) : Type 0 where
  pub reply : Told
  pub says : Says vs r.it reply
  pub allowed : Answers can size (call_of c.it c.bytes) s reply t

-- the tables: blank at first; when the power fails, what was committed stands and nothing else
abbrev pub tables : (Statement → Bool) → ℕ → Judge Call Value Reply
tables can size = record { State = Connection; start = fresh blank; Answers = Answered can size; down = λ c. fresh c.base }

-- the statements that are built: none yet
abbrev pub built : Statement → Bool
built s = false

-- the engine, as the contracts of its functions have it
abbrev pub engine_of : Store Engine Call Value Reply
engine_of = inside (λ m. m.tower) (over pages_engine session_layer)

-- what making it answers: an engine for a device of so many sectors; refused for its size only where no device has it
abbrev pub OpenedBy : ℕ → Result Engine Unopened → Type 0
OpenedBy size (Ok e) = engine_of.Opens size e
OpenedBy size (Err Size) = Sized size → ⊥
OpenedBy size (Err Memory) = Sized size

-- WHOLE, for the statements that are built
abbrev pub EngineWhole : Type 0
EngineWhole = Whole (tables built) engine_of
