-- Worked cases: what is said to a connection, and what it answers.
use Rattle.std.specs.Prelude.{◌≡◌, ℕ, true, false, List, [], ◌∷◌, map, pos, codes}
use Prim.Native.String.{String}
use Rattle.std.specs.List.{AllByRecursion}
use Rattle.meaning.specs.Value.{Value, Null, Num, Text}
use Rattle.meaning.specs.Meaning.{Row, blank, find_table}
use Rattle.meaning.specs.Session.{Say, Next, Reply, No, Done, Begun, Gives, End, Connection, fresh, Answers}

-- a text is said, the next row is asked for, the power is cut; the rows of a table have these numbers; the connection is this one
pub data Step : Type 0 where
  Says : String → Reply → Step
  Asks : Reply → Step
  Cuts : Step
  Numbers : String → List ℕ → Step
  Stands : Connection → Step

-- each step is answered so, on a device of 4096 sectors where every statement is built; after a cut there is what was committed
pub data Plays : List Step → Connection → Type 0 where
  ends : {c : Connection} → Plays [] c
  says : {t : String} {r : Reply} {c d : Connection} {ss : List Step} → Answers (λ s. true) 4096 (Say (codes t)) c r d → Plays ss d → Plays (Says t r ∷ ss) c
  asks : {r : Reply} {c d : Connection} {ss : List Step} → Answers (λ s. true) 4096 Next c r d → Plays ss d → Plays (Asks r ∷ ss) c
  cuts : {c : Connection} {ss : List Step} → Plays ss (fresh c.base) → Plays (Cuts ∷ ss) c
  numbers : {t : String} {ns : List ℕ} {c : Connection} {ss : List Step} → map (λ (r : Row). r.num) (find_table (codes t) c.now.tables).rows ≡ ns → Plays ss c → Plays (Numbers t ns ∷ ss) c
  stands : {c : Connection} {ss : List Step} → Plays ss c → Plays (Stands c ∷ ss) c

-- the values of a number and of a text
abbrev pub num : ℕ → Value
num n = Num (pos n)

abbrev pub txt : String → Value
txt s = Text (codes s)

-- table t with the rows 1, x and 2, y, and nothing else
abbrev pub two : Connection
two = fresh (record {
  tables = record {
    name = codes "t";
    cols = record { name = codes "a"; text = false; must = false } ∷ record { name = codes "b"; text = true; must = true } ∷ [];
    next = 2;
    rows = record { num = 0; values = num 1 ∷ txt "x" ∷ [] } ∷ record { num = 1; values = num 2 ∷ txt "y" ∷ [] } ∷ [];
  } ∷ [];
  indexes = [];
})

-- where a case starts, and its steps
pub record Case : Type 0 where
  pub start : Connection
  pub steps : List Step

-- the cases; all but the first start where the first ends
abbrev pub cases : List Case
cases =
    -- a table is made; of rows that are wrong none is inserted; a query gives its rows and ends
    record {
      start = fresh blank;
      steps =
          Says "create table t (a int, b text not null)" (Done 0) ∷ Says "insert into t values (1, 'x'), (2, null)" (No 7) ∷ Numbers "t" [] ∷
          Says "insert into t values (1, 'x'), (2, 'y')" (Done 2) ∷ Says "select a + 1, b from t where a < 2" Begun ∷ Asks (Gives (num 2 ∷ txt "x" ∷ [])) ∷ Asks End ∷ Stands two ∷ [];
    } ∷
    -- a sum that 64 bits don't hold is null
    record { start = two; steps = Says "select 9223372036854775807 + 1 from t" Begun ∷ Asks (Gives (Null ∷ [])) ∷ Asks (Gives (Null ∷ [])) ∷ Asks End ∷ [] } ∷
    -- not null is null, which lets nothing through
    record { start = two; steps = Says "select 1 from t where not (null)" Begun ∷ Asks End ∷ [] } ∷
    -- numbers are below texts, texts go by bytes, null is not even like null
    record { start = two; steps = Says "select 10 < 'a', 'ab' < 'b', null = null from t where a = 1" Begun ∷ Asks (Gives (num 1 ∷ num 1 ∷ Null ∷ [])) ∷ Asks End ∷ [] } ∷
    -- a cut takes back what was not committed
    record { start = two; steps = Says "begin" (Done 0) ∷ Says "delete from t" (Done 2) ∷ Cuts ∷ Says "select a from t" Begun ∷ Asks (Gives (num 1 ∷ [])) ∷ Asks (Gives (num 2 ∷ [])) ∷ Asks End ∷ [] } ∷
    -- and leaves what was
    record { start = two; steps = Says "begin" (Done 0) ∷ Says "delete from t" (Done 2) ∷ Says "commit" (Done 0) ∷ Cuts ∷ Says "select a from t" Begun ∷ Asks End ∷ [] } ∷
    -- a quote stands twice in a text; a name that is not there; a number can't go on as a word
    record {
      start = two;
      steps =
          Says "insert into t values (3, 'it''s')" (Done 1) ∷ Says "select b from t where a = 3" Begun ∷ Asks (Gives (Text (105 ∷ 116 ∷ 39 ∷ 115 ∷ []) ∷ [])) ∷ Asks End ∷
          Says "select a1b from t" (No 3) ∷ Says "select 1b from t" (No 1) ∷ [];
    } ∷
    -- an update may pass through values that are there, where each is allowed once too
    record { start = two; steps = Says "update t set a = a + 1" (Done 2) ∷ [] } ∷
    record { start = two; steps = Says "create unique index i on t (a)" (Done 0) ∷ Says "update t set a = a + 1" (Done 2) ∷ [] } ∷
    -- without group by there is one group of no rows, with it none
    record { start = two; steps = Says "select count(*), sum(a) from t where a > 99" Begun ∷ Asks (Gives (num 0 ∷ Null ∷ [])) ∷ Asks End ∷ [] } ∷
    record { start = two; steps = Says "select count(*), sum(a) from t where a > 99 group by b" Begun ∷ Asks End ∷ [] } ∷
    -- a row's number comes after all that were ever there
    record { start = two; steps = Says "delete from t" (Done 2) ∷ Says "insert into t values (5, 'z')" (Done 1) ∷ Numbers "t" (2 ∷ []) ∷ [] } ∷ []

-- every case is answered as it says
abbrev pub CasesStand : Type 0
CasesStand = AllByRecursion (λ (k : Case). Plays k.steps k.start) cases
