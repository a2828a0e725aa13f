-- What a statement does to tables, or by which number it is refused.
use Rattle.std.specs.Prelude.{ℕ, suc, ◌+◌, ◌*◌, Bool, true, false, cond, not, ◌&&◌, ◌||◌, leb, List, [], ◌∷◌, ◌++◌, map, length, ◌==◌, nat_le, nat_lt}
use Rattle.meaning.specs.Value.{Value, Null, Num, Text, is_null, truth, holds}
use Rattle.meaning.specs.Tree.{Name, Source, Expr, lit, col, plus, minus, times, concat, negated, equal, below, at_most, and, or, not', isnull, row_count, aggregate, exists, scalar, Exprs, none, more, Keys, unsorted, key, Query, query, Col, Set, Statement, create_table, drop_table, create_index, drop_index, insert, insert_from, update, delete, select, begin, commit, rollback, savepoint, rollback_to, release, every}
use Rattle.meaning.specs.Meaning.{Row, Table, Index, Db, Scope, keep, some, same_name, same_all, nth, find_table, has_table, place_of, has_col, bound_to, lookup, nulls, value, values, answer}

-- names that are there, once, and aggregates where they may be; env as in Meaning, with rows of nulls

unfoldable pub apart : List Name → Bool
apart [] = true
apart (n ∷ ns) = not (some (same_name n) ns) && apart ns

-- at most 8 sources, each a table that is there, no alias twice
abbrev pub sources_ok : Db → List Source → Bool
sources_ok db from = nat_le (length from) 8 && every (λ (s : Source). has_table s.table db) from && apart (map (λ (s : Source). s.alias) from)

unfoldable mutual
  pub known : Expr → Db → List Scope → (may : Bool) → Bool
  known (lit v) db env may = true
  known (col q n) db env may = length (lookup q n env) == 1
  known (plus a b) db env may = known a db env may && known b db env may
  known (minus a b) db env may = known a db env may && known b db env may
  known (times a b) db env may = known a db env may && known b db env may
  known (concat a b) db env may = known a db env may && known b db env may
  known (negated a) db env may = known a db env may
  known (equal a b) db env may = known a db env may && known b db env may
  known (below a b) db env may = known a db env may && known b db env may
  known (at_most a b) db env may = known a db env may && known b db env may
  known (and a b) db env may = known a db env may && known b db env may
  known (or a b) db env may = known a db env may && known b db env may
  known (not' a) db env may = known a db env may
  known (isnull a) db env may = known a db env may
  known row_count db env may = may
  known (aggregate k a) db env may = may && known a db env false
  known (exists q) db env may = known_query q db env
  known (scalar q) db env may = known_query q db env

  pub known_all : Exprs → Db → List Scope → (may : Bool) → Bool
  known_all none db env may = true
  known_all (more e es) db env may = known e db env may && known_all es db env may

  pub known_keys : Keys → Db → List Scope → (may : Bool) → Bool
  known_keys unsorted db env may = true
  known_keys (key e d ks) db env may = known e db env may && known_keys ks db env may

  pub known_query : Query → Db → List Scope → Bool
  known_query (query d out from w grouped grp having ks l) db env =
      sources_ok db from && known w db (nulls db from ∷ env) false && known_all grp db (nulls db from ∷ env) false && known having db (nulls db from ∷ env) grouped &&
      known_all out db (nulls db from ∷ env) grouped && known_keys ks db (nulls db from ∷ env) grouped

pub data Outcome : Type 0 where
  Refused : ℕ → Outcome
  Changed : (rows : ℕ) → Db → Outcome
  Rows : List (List Value) → Outcome

-- how many bytes a value takes, and a row
unfoldable pub weight : Value → ℕ
weight Null = 1
weight (Num n) = 9
weight (Text t) = 3 + length t

unfoldable pub weight_all : List Value → ℕ
weight_all [] = 0
weight_all (v ∷ vs) = weight v + weight_all vs

-- 0, or the refusal of the first column that is wrong
unfoldable pub col_wrong : Col → Value → ℕ
col_wrong c Null = cond c.must 7 0
col_wrong c (Num n) = cond c.text 6 0
col_wrong c (Text t) = cond c.text 0 6

unfoldable pub cols_wrong : List Col → List Value → ℕ
cols_wrong [] vs = 0
cols_wrong (c ∷ cs) [] = 0
cols_wrong (c ∷ cs) (v ∷ vs) = cond (col_wrong c v == 0) (cols_wrong cs vs) (col_wrong c v)

abbrev pub row_wrong : List Col → List Value → ℕ
row_wrong cs vs = cond (length cs == length vs) (cond (cols_wrong cs vs == 0) (cond (nat_lt 4000 (weight_all vs)) 10 0) (cols_wrong cs vs)) 5

unfoldable pub rows_wrong : List Col → List (List Value) → ℕ
rows_wrong cs [] = 0
rows_wrong cs (r ∷ rs) = cond (row_wrong cs r == 0) (rows_wrong cs rs) (row_wrong cs r)

-- a unique index lets each combination without null be there once

abbrev pub key_of : List ℕ → List Value → List Value
key_of on vs = map (λ (p : ℕ). nth p vs) on

unfoldable pub apart_all : List (List Value) → Bool
apart_all [] = true
apart_all (k ∷ ks) = (some is_null k || not (some (same_all k) ks)) && apart_all ks

abbrev pub index_ok : Db → Index → Bool
index_ok db i = not i.unique || apart_all (map (λ (r : Row). key_of i.on r.values) (find_table i.table db.tables).rows)

abbrev pub unique_ok : Db → Bool
unique_ok db = every (index_ok db) db.indexes

-- changing one table

unfoldable pub set_table : Table → List Table → List Table
set_table t [] = []
set_table t (u ∷ us) = cond (same_name t.name u.name) (t ∷ us) (u ∷ set_table t us)

unfoldable pub numbered : ℕ → List (List Value) → List Row
numbered n [] = []
numbered n (r ∷ rs) = record { num = n; values = r } ∷ numbered (suc n) rs

abbrev pub added : List (List Value) → Table → Table
added rs t = record { name = t.name; cols = t.cols; next = t.next + length rs; rows = t.rows ++ numbered t.next rs }

abbrev pub with_rows : List Row → Table → Table
with_rows rs t = record { name = t.name; cols = t.cols; next = t.next; rows = rs }

abbrev pub with_table : Table → Db → Db
with_table t db = record { tables = set_table t db.tables; indexes = db.indexes }

-- a key of an index, as bytes, is no longer than this
abbrev pub key_weight : List Value → ℕ
key_weight vs = 2 * weight_all vs + length vs

abbrev pub keys_short : Db → Bool
keys_short db = every (λ (i : Index). every (λ (r : Row). leb (key_weight (key_of i.on r.values)) 980) (find_table i.table db.tables).rows) db.indexes

-- the first test that fails decides; each is a number of a refusal and whether it is met
unfoldable pub unless : ℕ → Bool → Outcome → Outcome
unless k false o = o
unless k true o = Refused k

abbrev pub checked : ℕ → Db → Outcome
checked n db = unless 10 (not (keys_short db)) (unless 8 (not (unique_ok db)) (Changed n db))

abbrev pub long_name : Name → Bool
long_name n = nat_lt 64 (length n)

abbrev pub inserted : Name → List (List Value) → Db → Outcome
inserted n rs db =
    unless 10 (nat_lt 9223372036854775807 ((find_table n db.tables).next + length rs)) (cond (rows_wrong (find_table n db.tables).cols rs == 0) (checked (length rs) (with_table (added rs (find_table n db.tables)) db)) (Refused (rows_wrong (find_table n db.tables).cols rs)))

abbrev pub matches : Expr → Db → Source → Table → Row → Bool
matches w db s t r = holds (truth (value w db ((bound_to s t r.values ∷ []) ∷ []) []))

unfoldable pub new_value : Name → List Set → Value → Db → Scope → Value
new_value n [] v db r = v
new_value n (s ∷ ss) v db r = cond (same_name n s.col) (value s.to db (r ∷ []) []) (new_value n ss v db r)

unfoldable pub new_values : List Col → List Value → List Set → Db → Scope → List Value
new_values [] vs ss db r = []
new_values (c ∷ cs) [] ss db r = []
new_values (c ∷ cs) (v ∷ vs) ss db r = new_value c.name ss v db r ∷ new_values cs vs ss db r

abbrev pub source_of : Name → Source
source_of n = record { table = n; alias = n }

abbrev pub updated : Table → List Set → Expr → Db → List Row
updated t ss w db = map (λ (r : Row). cond (matches w db (source_of t.name) t r) (record { num = r.num; values = new_values t.cols r.values ss db (bound_to (source_of t.name) t r.values ∷ []) }) r) t.rows

abbrev pub matching : Table → Expr → Db → List Row
matching t w db = keep (matches w db (source_of t.name) t) t.rows

abbrev pub new_rows : Table → List Set → Expr → Db → List (List Value)
new_rows t ss w db = map (λ (r : Row). new_values t.cols r.values ss db (bound_to (source_of t.name) t r.values ∷ [])) (matching t w db)

unfoldable pub does : Statement → Db → Outcome
does (create_table n cs) db = unless 4 (has_table n db || not (apart (map (λ (c : Col). c.name) cs))) (unless 10 (nat_lt 32 (length cs) || nat_le 64 (length db.tables) || long_name n || some (λ (c : Col). long_name c.name) cs)
    (Changed 0 (record { tables = db.tables ++ (record { name = n; cols = cs; next = 0; rows = [] } ∷ []); indexes = db.indexes })))
does (drop_table n) db = unless 2 (not (has_table n db)) (Changed 0 (record { tables = keep (λ (t : Table). not (same_name n t.name)) db.tables; indexes = keep (λ (i : Index). not (same_name n i.table)) db.indexes }))
does (create_index u n t cs) db = unless 2 (not (has_table t db)) (unless 3 (not (every (λ (c : Name). has_col c (find_table t db.tables).cols) cs && apart cs)) (unless 4 (some (λ (i : Index). same_name n i.name) db.indexes)
    (unless 10 (nat_le 64 (length db.indexes) || long_name n) (checked 0 (record { tables = db.tables; indexes = db.indexes ++ (record { name = n; table = t; on = map (λ (c : Name). place_of c (find_table t db.tables).cols) cs; unique = u } ∷ []) })))))
does (drop_index n) db = unless 2 (not (some (λ (i : Index). same_name n i.name) db.indexes)) (Changed 0 (record { tables = db.tables; indexes = keep (λ (i : Index). not (same_name n i.name)) db.indexes }))
does (insert n rows) db = unless 2 (not (has_table n db)) (unless 3 (not (every (λ (es : Exprs). known_all es db [] false) rows)) (inserted n (map (λ (es : Exprs). values es db [] []) rows) db))
does (insert_from n q) db = unless 2 (not (has_table n db)) (unless 3 (not (known_query q db [])) (inserted n (answer q db []) db))
does (update n ss w) db = unless 2 (not (has_table n db))
    (unless 3 (not (every (λ (s : Set). has_col s.col (find_table n db.tables).cols && known s.to db (nulls db (source_of n ∷ []) ∷ []) false) ss && apart (map (λ (s : Set). s.col) ss) && known w db (nulls db (source_of n ∷ []) ∷ []) false))
    (cond (rows_wrong (find_table n db.tables).cols (new_rows (find_table n db.tables) ss w db) == 0)
    (checked (length (matching (find_table n db.tables) w db)) (with_table (with_rows (updated (find_table n db.tables) ss w db) (find_table n db.tables)) db))
    (Refused (rows_wrong (find_table n db.tables).cols (new_rows (find_table n db.tables) ss w db)))))
does (delete n w) db = unless 2 (not (has_table n db)) (unless 3 (not (known w db (nulls db (source_of n ∷ []) ∷ []) false))
    (Changed (length (matching (find_table n db.tables) w db)) (with_table (with_rows (keep (λ (r : Row). not (matches w db (source_of n) (find_table n db.tables) r)) (find_table n db.tables).rows) (find_table n db.tables)) db)))
does (select q) db = unless 3 (not (known_query q db [])) (Rows (answer q db []))
does begin db = Refused 9
does commit db = Refused 9
does rollback db = Refused 9
does (savepoint n) db = Refused 9
does (rollback_to n) db = Refused 9
does (release n) db = Refused 9

-- what tables and indexes weigh in all
unfoldable pub rows_weight : List Row → ℕ
rows_weight [] = 0
rows_weight (r ∷ rs) = 32 + weight_all r.values + rows_weight rs

unfoldable pub tables_weight : List Table → ℕ
tables_weight [] = 0
tables_weight (t ∷ ts) = 4096 + rows_weight t.rows + tables_weight ts

unfoldable pub entries_weight : List ℕ → List Row → ℕ
entries_weight on [] = 0
entries_weight on (r ∷ rs) = 64 + key_weight (key_of on r.values) + entries_weight on rs

unfoldable pub indexes_weight : Db → List Index → ℕ
indexes_weight db [] = 0
indexes_weight db (i ∷ is) = 4096 + entries_weight i.on (find_table i.table db.tables).rows + indexes_weight db is

abbrev pub db_weight : Db → ℕ
db_weight db = tables_weight db.tables + indexes_weight db db.indexes
