-- A connection to the tables: transactions, savepoints, the query that runs, and what a call may answer.
use Rattle.std.specs.Prelude.{◌≡◌, ℕ, ◌+◌, ◌*◌, ◌<◌, ◌≤◌, Bool, true, false, cond, not, ◌||◌, T, List, [], ◌∷◌, length, nat_le, nat_lt}
use Rattle.meaning.specs.Value.{Value}
use Rattle.meaning.specs.Tree.{Name, Statement, create_table, drop_table, create_index, drop_index, insert, insert_from, update, delete, select, begin, commit, rollback, savepoint, rollback_to, release}
use Rattle.meaning.specs.Meaning.{Db, same_name}
use Rattle.meaning.specs.Doing.{Outcome, Refused, Changed, Rows, does, db_weight}
use Rattle.meaning.specs.Grammar.{Reads}

pub data Call : Type 0 where
  Say : List ℕ → Call
  Next : Call

pub data Reply : Type 0 where
  No : (reason : ℕ) → Reply
  Done : (rows : ℕ) → Reply
  Begun : Reply
  Gives : List Value → Reply
  End : Reply
  Full : Reply

pub record Mark : Type 0 where
  pub name : Name
  pub db : Db

pub data Running : Type 0 where
  Idle : Running
  Giving : List (List Value) → Running

-- base: the tables as committed; now: with what the open transaction has done; marks: savepoints, the latest first
pub record Connection : Type 0 where
  pub base : Db
  pub now : Db
  pub inside : Bool
  pub marks : List Mark
  pub running : Running

abbrev pub fresh : Db → Connection
fresh db = record { base = db; now = db; inside = false; marks = []; running = Idle }

pub record Answered : Type 0 where
  pub reply : Reply
  pub conn : Connection

abbrev pub idle : Connection → Connection
idle c = record { base = c.base; now = c.now; inside = c.inside; marks = c.marks; running = Idle }

abbrev pub no : ℕ → Connection → Answered
no k c = record { reply = No k; conn = idle c }

abbrev pub changed : ℕ → Db → Connection → Answered
changed n db c = record { reply = Done n; conn = record { base = cond c.inside c.base db; now = db; inside = c.inside; marks = c.marks; running = Idle } }

unfoldable pub after : Outcome → Connection → Answered
after (Refused k) c = no k c
after (Changed n db) c = changed n db c
after (Rows rs) c = record { reply = Begun; conn = record { base = c.base; now = c.now; inside = c.inside; marks = c.marks; running = Giving rs } }

unfoldable pub has_mark : Name → List Mark → Bool
has_mark n [] = false
has_mark n (m ∷ ms) = same_name n m.name || has_mark n ms

-- the savepoints from the latest of that name on; those older than the first
unfoldable pub from : Name → List Mark → List Mark
from n [] = []
from n (m ∷ ms) = cond (same_name n m.name) (m ∷ ms) (from n ms)

unfoldable pub older : List Mark → List Mark
older [] = []
older (m ∷ ms) = ms

unfoldable pub db_at : Db → List Mark → Db
db_at db [] = db
db_at db (m ∷ ms) = m.db

unfoldable pub act : Statement → Connection → Answered
act begin c = cond c.inside (no 9 c) (record { reply = Done 0; conn = record { base = c.base; now = c.now; inside = true; marks = []; running = Idle } })
act commit c = cond c.inside (record { reply = Done 0; conn = fresh c.now }) (no 9 c)
act rollback c = cond c.inside (record { reply = Done 0; conn = fresh c.base }) (no 9 c)
act (savepoint n) c = cond c.inside (cond (nat_lt (length c.marks) 8) (record { reply = Done 0; conn = record { base = c.base; now = c.now; inside = true; marks = record { name = n; db = c.now } ∷ c.marks; running = Idle } }) (no 10 c)) (no 9 c)
act (rollback_to n) c = cond c.inside (cond (has_mark n c.marks) (record { reply = Done 0; conn = record { base = c.base; now = db_at c.now (from n c.marks); inside = true; marks = from n c.marks; running = Idle } }) (no 2 c)) (no 9 c)
act (release n) c = cond c.inside (cond (has_mark n c.marks) (record { reply = Done 0; conn = record { base = c.base; now = c.now; inside = true; marks = older (from n c.marks); running = Idle } }) (no 2 c)) (no 9 c)
act (create_table n cs) c = after (does (create_table n cs) c.now) c
act (drop_table n) c = after (does (drop_table n) c.now) c
act (create_index u n t cs) c = after (does (create_index u n t cs) c.now) c
act (drop_index n) c = after (does (drop_index n) c.now) c
act (insert n rs) c = after (does (insert n rs) c.now) c
act (insert_from n q) c = after (does (insert_from n q) c.now) c
act (update n ss w) c = after (does (update n ss w) c.now) c
act (delete n w) c = after (does (delete n w) c.now) c
act (select q) c = after (does (select q) c.now) c

-- can: the statements that are built; others are refused by 12
abbrev pub say : (Statement → Bool) → Statement → Connection → Answered
say can s c = cond (can s) (act s c) (no 12 c)

unfoldable pub next : Running → Connection → Answered
next Idle c = no 13 c
next (Giving []) c = record { reply = End; conn = idle c }
next (Giving (r ∷ rs)) c = record { reply = Gives r; conn = record { base = c.base; now = c.now; inside = c.inside; marks = c.marks; running = Giving rs } }

unfoldable pub marks_weight : List Mark → ℕ
marks_weight [] = 0
marks_weight (m ∷ ms) = db_weight m.db + marks_weight ms

abbrev pub larger : ℕ → ℕ → ℕ
larger a b = cond (nat_le a b) b a

-- What is to be kept, in bytes: the tables as committed, as they are, as they would be and at each savepoint. Those as committed count at least what those as they would be weigh:
-- a commit makes them so, and a delete after it can't be full but needs pages too.
abbrev pub needed : Db → Connection → ℕ
needed db c = 1048576 + 4 * (larger (db_weight c.base) (db_weight db) + (db_weight c.now + (db_weight db + marks_weight c.marks)))

-- deleting and dropping are never full
unfoldable pub may_fill : Statement → Bool
may_fill (create_table n cs) = true
may_fill (drop_table n) = false
may_fill (create_index u n t cs) = true
may_fill (drop_index n) = false
may_fill (insert n es) = true
may_fill (insert_from n q) = true
may_fill (update n ss e) = true
may_fill (delete n e) = false
may_fill (select q) = false
may_fill begin = false
may_fill commit = false
may_fill rollback = false
may_fill (savepoint n) = true
may_fill (rollback_to n) = false
may_fill (release n) = false

-- What a call may answer, and the state after it, on a device of so many sectors of 512 bytes. Refused by 1 is what reads as no statement that is built. Full is only for a statement
-- that makes, inserts or changes, or a savepoint, and only where what is then to be kept is more than the device has bytes.
pub data Answers (can : Statement → Bool) (size : ℕ) : Call → Connection → Reply → Connection → Type 0 where
  reads : (t : List ℕ) (s : Statement) (c : Connection) → length t ≤ 4096 → Reads t s → Answers can size (Say t) c (say can s c).reply (say can s c).conn
  reads_not : (t : List ℕ) (c : Connection) → length t ≤ 4096 → ((s : Statement) → Reads t s → T (not (can s))) → Answers can size (Say t) c (No 1) (idle c)
  too_long : (t : List ℕ) (c : Connection) → 4096 < length t → Answers can size (Say t) c (No 10) (idle c)
  nexts : (c : Connection) → Answers can size Next c (next c.running c).reply (next c.running c).conn
  too_full : (t : List ℕ) (s : Statement) (c : Connection) (n : ℕ) (db : Db) → length t ≤ 4096 → Reads t s → T (can s) → T (may_fill s) → act s c ≡ changed n db c → 512 * size < needed db c → Answers can size (Say t) c Full (idle c)
  -- a savepoint keeps the tables once more
  mark_full : (t : List ℕ) (n : Name) (c : Connection) → length t ≤ 4096 → Reads t (savepoint n) → T (can (savepoint n)) → T c.inside → T (nat_lt (length c.marks) 8) → 512 * size < needed c.now c + 4 * db_weight c.now → Answers can size (Say t) c Full (idle c)
