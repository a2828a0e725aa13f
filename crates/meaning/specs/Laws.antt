-- What holds of the definitions: the order of values is one, and tables stay sound whatever is done.
use Rattle.std.specs.Prelude.{◌≡◌, ℕ, suc, Bool, true, not, ◌&&◌, T, ltb, List, [], ◌∷◌, map, length, ◌==◌, nat_le, nat_lt}
use Rattle.std.specs.List.{AllByRecursion}
use Rattle.meaning.specs.Value.{Value, less, same}
use Rattle.meaning.specs.Tree.{Col, Statement, every}
use Rattle.meaning.specs.Meaning.{Row, Table, Index, Db, blank, find_table, has_table}
use Rattle.meaning.specs.Doing.{apart, row_wrong, unique_ok, keys_short, long_name, Changed, does}
use Rattle.meaning.specs.Session.{Call, Reply, Mark, Connection, Answers}

-- no two values are each below the other, below goes on, and values of which neither is below are one
abbrev pub Ordered : Type 0
Ordered = ((a b : Value) → T (less a b) → T (less b a) → ⊥) × ((a b c : Value) → T (less a b) → T (less b c) → T (less a c)) × ((a b : Value) → T (same a b) → a ≡ b)

-- the rows' numbers rise, the first from n on
unfoldable pub rising : ℕ → List Row → Bool
rising n [] = true
rising n (r ∷ rs) = nat_le n r.num && rising (suc r.num) rs

-- a row that fits its table: a number that was given out, and values as the columns want them
abbrev pub row_ok : Table → Row → Bool
row_ok t r = nat_lt r.num t.next && row_wrong t.cols r.values == 0

-- a table within its limits: columns with names apart, rows in order that fit it
abbrev pub table_ok : Table → Bool
table_ok t =
    apart (map (λ (c : Col). c.name) t.cols) && nat_le (length t.cols) 32 && not (long_name t.name) && every (λ (c : Col). not (long_name c.name)) t.cols &&
    nat_le t.next 9223372036854775807 && rising 0 t.rows && every (row_ok t) t.rows

-- an index of a table that is there, on columns that it has
abbrev pub index_fits : Db → Index → Bool
index_fits db i = has_table i.table db && not (long_name i.name) && every (λ (p : ℕ). ltb p (length (find_table i.table db.tables).cols)) i.on

-- tables and indexes within their limits, each name once, no key twice in a unique index
pub record Sound (db : Db) : Type 0 where
  pub tables-apart : T (apart (map (λ (t : Table). t.name) db.tables))
  pub tables-ok : T (every table_ok db.tables)
  pub tables-few : T (nat_le (length db.tables) 64)
  pub indexes-apart : T (apart (map (λ (i : Index). i.name) db.indexes))
  pub indexes-fit : T (every (index_fits db) db.indexes)
  pub indexes-few : T (nat_le (length db.indexes) 64)
  pub unique : T (unique_ok db)
  pub keys-short : T (keys_short db)

-- whatever statement changes sound tables leaves them sound
abbrev pub StaysSound : Type 0
StaysSound = (s : Statement) (db to : Db) (n : ℕ) → Sound db → does s db ≡ Changed n to → Sound to

-- no tables at all are sound
abbrev pub BlankSound : Type 0
BlankSound = Sound blank

-- a connection to sound tables: as committed, as they are, and at each savepoint
pub record SoundConnection (c : Connection) : Type 0 where
  pub base : Sound c.base
  pub now : Sound c.now
  pub marks : AllByRecursion (λ (m : Mark). Sound m.db) c.marks

-- whatever a call may answer leaves them sound
abbrev pub ConnectionStaysSound : Type 0
ConnectionStaysSound = (can : Statement → Bool) (size : ℕ) (k : Call) (c d : Connection) (r : Reply) → SoundConnection c → Answers can size k c r d → SoundConnection d
