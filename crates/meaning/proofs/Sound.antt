-- Tables stay sound whatever statement is done. Assumes nothing.
use Rattle.std.proofs.Common.{◌≡◌, ℕ, suc, ◌+◌, ◌≤◌, Bool, true, false, cond, not, ◌&&◌, ◌||◌, eqb, ltb, leb, List, [], ◌∷◌, ◌++◌, map, length, sym, refl, ap, ◌∙◌, subst, ⊎_elim, arith}
use Rattle.std.proofs.lemmas.Bool.{and_parts, and_from, cond_both, le-leb, ltb-true, ltb-false, lt-ltb, eqb-true, or_parts, not-true, not-false, not_from_false}
use Rattle.meaning.specs.Value.{Value}
use Rattle.meaning.specs.Tree.{Name, Col, Statement, create_table, drop_table, create_index, drop_index, insert, insert_from, update, delete, select, begin, commit, rollback, savepoint, rollback_to, release, every}
use Rattle.meaning.specs.Meaning.{Row, Table, Index, Db, keep, some, same_name, find_table, has_table, place_of, has_col, bound_to, answer}
use Rattle.meaning.specs.Doing.{Outcome, Refused, Changed, Rows, apart, row_wrong, rows_wrong, key_of, key_weight, apart_all, index_ok, unique_ok, keys_short, set_table, numbered, added, with_rows, with_table, unless, checked, long_name, inserted, matches, matching, source_of, new_values, new_rows, updated, does}
use Rattle.meaning.specs.Laws.{rising, row_ok, table_ok, index_fits, Sound, StaysSound, BlankSound}
use Rattle.meaning.proofs.Order.{clash, holds-true, true-holds}
use Rattle.meaning.proofs.Lists.{every-weaker, every-both, every-push, every_append, every_map, every-keep, keep-passes, some-map, none-every, apart-keep, apart-add, few-push, few-keep}
use Rattle.meaning.proofs.Tables.{named, find-name, find-every, find-push, find-keep, set-names, set-every, set-length, find-set, place_in, rising-keep, rising-numbered, rising-append, rising-map, rows_right, apart-all-keep}

-- what a test of outcomes says of a change

pub unless-parts : (k : ℕ) (b : Bool) (o : Outcome) (n : ℕ) (to : Db) → unless k b o ≡ Changed n to → (b ≡ false) × (o ≡ Changed n to)
unfolding unless
unless-parts k true o n to h = let z : ◌≡◌ {A = ℕ} 0 1 = cc in absurd (omega arith)
unless-parts k false o n to h = (refl, h)

cond-parts : (b : Bool) (o : Outcome) (k n : ℕ) (to : Db) → cond b o (Refused k) ≡ Changed n to → (b ≡ true) × (o ≡ Changed n to)
cond-parts true o k n to h = (refl, h)
cond-parts false o k n to h = let z : ◌≡◌ {A = ℕ} 0 1 = cc in absurd (omega arith)

changed-to : {m n : ℕ} {a b : Db} → Changed m a ≡ Changed n b → a ≡ b
changed-to {m} {n} {a} {b} h = cc

-- the parts of a sound table

record TableParts (t : Table) : Type 0 where
  cols-apart : apart (map (λ (c : Col). c.name) t.cols) ≡ true
  cols-few : leb (length t.cols) 32 ≡ true
  name-short : not (long_name t.name) ≡ true
  cols-short : every (λ (c : Col). not (long_name c.name)) t.cols ≡ true
  next-in : leb t.next 9223372036854775807 ≡ true
  in_order : rising 0 t.rows ≡ true
  rows_ok : every (row_ok t) t.rows ≡ true

seven : (a b c d e f g : Bool) → (a && b && c && d && e && f && g) ≡ true → (a ≡ true) × (b ≡ true) × (c ≡ true) × (d ≡ true) × (e ≡ true) × (f ≡ true) × (g ≡ true)
seven true true true true true true true h = (refl, refl, refl, refl, refl, refl, refl)
seven true true true true true true false h = clash h
seven true true true true true false g h = clash h
seven true true true true false f g h = clash h
seven true true true false e f g h = clash h
seven true true false d e f g h = clash h
seven true false c d e f g h = clash h
seven false b c d e f g h = clash h

table-parts : (t : Table) → table_ok t ≡ true → TableParts t
table-parts t h =
    let p = seven (apart (map (λ (c : Col). c.name) t.cols)) (leb (length t.cols) 32) (not (long_name t.name)) (every (λ (c : Col). not (long_name c.name)) t.cols) (leb t.next 9223372036854775807) (rising 0 t.rows) (every (row_ok t) t.rows) h in
    record { cols-apart = p.0; cols-few = p.1; name-short = p.2; cols-short = p.3; next-in = p.4; in_order = p.5; rows_ok = p.6 }

all-seven : (a b c d e f g : Bool) → a ≡ true → b ≡ true → c ≡ true → d ≡ true → e ≡ true → f ≡ true → g ≡ true → (a && b && c && d && e && f && g) ≡ true
all-seven a b c d e f g p q r s t u v = λ i. p i && q i && r i && s i && t i && u i && v i

table-from : (t : Table) → TableParts t → table_ok t ≡ true
table-from t p =
    all-seven (apart (map (λ (c : Col). c.name) t.cols)) (leb (length t.cols) 32) (not (long_name t.name)) (every (λ (c : Col). not (long_name c.name)) t.cols) (leb t.next 9223372036854775807) (rising 0 t.rows) (every (row_ok t) t.rows)
    p.cols-apart p.cols-few p.name-short p.cols-short p.next-in p.in_order p.rows_ok

-- the parts of sound tables, as equations

record Parts (db : Db) : Type 0 where
  tables-apart : apart (map (λ (t : Table). t.name) db.tables) ≡ true
  tables-ok : every table_ok db.tables ≡ true
  tables-few : leb (length db.tables) 64 ≡ true
  indexes-apart : apart (map (λ (i : Index). i.name) db.indexes) ≡ true
  indexes-fit : every (index_fits db) db.indexes ≡ true
  indexes-few : leb (length db.indexes) 64 ≡ true
  unique : unique_ok db ≡ true
  keys-short : keys_short db ≡ true

parts : (db : Db) → Sound db → Parts db
parts db s = record {
  tables-apart = holds-true (apart (map (λ (t : Table). t.name) db.tables)) s.tables-apart;
  tables-ok = holds-true (every table_ok db.tables) s.tables-ok;
  tables-few = holds-true (leb (length db.tables) 64) s.tables-few;
  indexes-apart = holds-true (apart (map (λ (i : Index). i.name) db.indexes)) s.indexes-apart;
  indexes-fit = holds-true (every (index_fits db) db.indexes) s.indexes-fit;
  indexes-few = holds-true (leb (length db.indexes) 64) s.indexes-few;
  unique = holds-true (unique_ok db) s.unique;
  keys-short = holds-true (keys_short db) s.keys-short;
}

whole : (db : Db) → Parts db → Sound db
whole db s = record {
  tables-apart = true-holds (apart (map (λ (t : Table). t.name) db.tables)) s.tables-apart;
  tables-ok = true-holds (every table_ok db.tables) s.tables-ok;
  tables-few = true-holds (leb (length db.tables) 64) s.tables-few;
  indexes-apart = true-holds (apart (map (λ (i : Index). i.name) db.indexes)) s.indexes-apart;
  indexes-fit = true-holds (every (index_fits db) db.indexes) s.indexes-fit;
  indexes-few = true-holds (leb (length db.indexes) 64) s.indexes-few;
  unique = true-holds (unique_ok db) s.unique;
  keys-short = true-holds (keys_short db) s.keys-short;
}

-- an index where its table stays, or changes its rows alone

abbrev short_in : Db → Index → Bool
short_in db i = every (λ (r : Row). leb (key_weight (key_of i.on r.values)) 980) (find_table i.table db.tables).rows

three : (a b c : Bool) → (a && b && c) ≡ true → (a ≡ true) × (b ≡ true) × (c ≡ true)
three true true true h = (refl, refl, refl)
three true true false h = clash h
three true false c h = clash h
three false b c h = clash h

fits-named : (db : Db) (i : Index) → index_fits db i ≡ true → named i.table db.tables ≡ true
fits-named db i h = (three (named i.table db.tables) (not (long_name i.name)) (every (λ (p : ℕ). ltb p (length (find_table i.table db.tables).cols)) i.on) h).0

fits_moves : (db to : Db) (i : Index) → named i.table to.tables ≡ true → (find_table i.table to.tables).cols ≡ (find_table i.table db.tables).cols → index_fits db i ≡ true → index_fits to i ≡ true
fits_moves db to i n e h =
    let p = three (named i.table db.tables) (not (long_name i.name)) (every (λ (p : ℕ). ltb p (length (find_table i.table db.tables).cols)) i.on) h in
    λ j. n j && p.1 j && (subst (λ (cs : List Col). every (λ (p : ℕ). ltb p (length cs)) i.on ≡ true) (sym e) p.2) j

ok-moves : (db to : Db) (i : Index) → (find_table i.table to.tables).rows ≡ (find_table i.table db.tables).rows → index_ok db i ≡ true → index_ok to i ≡ true
ok-moves db to i e h = subst (λ (rs : List Row). (not i.unique || apart_all (map (λ (r : Row). key_of i.on r.values) rs)) ≡ true) (sym e) h

short-moves : (db to : Db) (i : Index) → (find_table i.table to.tables).rows ≡ (find_table i.table db.tables).rows → short_in db i ≡ true → short_in to i ≡ true
short-moves db to i e h = subst (λ (rs : List Row). every (λ (r : Row). leb (key_weight (key_of i.on r.values)) 980) rs ≡ true) (sym e) h

-- making and dropping

new-table : (n : Name) (cs : List Col) (db : Db) → Parts db → has_table n db ≡ false → table_ok (record { name = n; cols = cs; next = 0; rows = [] }) ≡ true → leb 64 (length db.tables) ≡ false →
    Parts (record { tables = db.tables ++ (record { name = n; cols = cs; next = 0; rows = [] } ∷ []); indexes = db.indexes })
new-table n cs db s h ok few = record {
  tables-apart = apart-add (λ (t : Table). t.name) db.tables new s.tables-apart h;
  tables-ok = every-push table_ok db.tables new s.tables-ok ok;
  tables-few = few-push db.tables new few;
  indexes-apart = s.indexes-apart;
  indexes-fit = every-weaker (index_fits db) (index_fits to) (λ i f. let p = find-push i.table db.tables new (fits-named db i f) in fits_moves db to i p.0 (ap (λ (t : Table). t.cols) p.1) f) db.indexes s.indexes-fit;
  indexes-few = s.indexes-few;
  unique = every-both (index_fits db) (index_ok db) (index_ok to) (λ i f g. let p = find-push i.table db.tables new (fits-named db i f) in ok-moves db to i (ap (λ (t : Table). t.rows) p.1) g) db.indexes s.indexes-fit s.unique;
  keys-short = every-both (index_fits db) (short_in db) (short_in to) (λ i f g. let p = find-push i.table db.tables new (fits-named db i f) in short-moves db to i (ap (λ (t : Table). t.rows) p.1) g) db.indexes s.indexes-fit s.keys-short;
}
  where
    new : Table
    new = record { name = n; cols = cs; next = 0; rows = [] }

    to : Db
    to = record { tables = db.tables ++ (new ∷ []); indexes = db.indexes }

drop-table : (n : Name) (db : Db) → Parts db → Parts (record { tables = keep (λ (t : Table). not (same_name n t.name)) db.tables; indexes = keep (λ (i : Index). not (same_name n i.table)) db.indexes })
drop-table n db s = record {
  tables-apart = apart-keep (λ (t : Table). t.name) (λ (t : Table). not (same_name n t.name)) db.tables s.tables-apart;
  tables-ok = every-keep table_ok (λ (t : Table). not (same_name n t.name)) db.tables s.tables-ok;
  tables-few = few-keep (λ (t : Table). not (same_name n t.name)) db.tables s.tables-few;
  indexes-apart = apart-keep (λ (i : Index). i.name) other db.indexes s.indexes-apart;
  indexes-fit = every-both other (index_fits db) (index_fits to) (λ i o f. let p = find-keep n i.table db.tables (not-true (same_name n i.table) o) in fits_moves db to i (p.0 ∙ fits-named db i f) (ap (λ (t : Table). t.cols) p.1) f) (keep other db.indexes) passes (every-keep (index_fits db) other db.indexes s.indexes-fit);
  indexes-few = few-keep other db.indexes s.indexes-few;
  unique = every-both other (index_ok db) (index_ok to) (λ i o g. ok-moves db to i (ap (λ (t : Table). t.rows) (find-keep n i.table db.tables (not-true (same_name n i.table) o)).1) g) (keep other db.indexes) passes (every-keep (index_ok db) other db.indexes s.unique);
  keys-short = every-both other (short_in db) (short_in to) (λ i o g. short-moves db to i (ap (λ (t : Table). t.rows) (find-keep n i.table db.tables (not-true (same_name n i.table) o)).1) g) (keep other db.indexes) passes (every-keep (short_in db) other db.indexes s.keys-short);
}
  where
    other : Index → Bool
    other i = not (same_name n i.table)

    to : Db
    to = record { tables = keep (λ (t : Table). not (same_name n t.name)) db.tables; indexes = keep other db.indexes }

    passes : every other (keep other db.indexes) ≡ true
    passes = keep-passes other db.indexes

places-in : (cols : List Col) (cs : List Name) → every (λ (c : Name). has_col c cols) cs ≡ true → every (λ (p : ℕ). ltb p (length cols)) (map (λ (c : Name). place_of c cols) cs) ≡ true
places-in cols cs h = every_map (λ (p : ℕ). ltb p (length cols)) (λ (c : Name). place_of c cols) cs (every-weaker (λ (c : Name). has_col c cols) (λ (c : Name). ltb (place_of c cols) (length cols)) (λ c k. lt-ltb (place_of c cols) (length cols) (place_in c cols k)) cs h)

new-index : (i : Index) (db : Db) → Parts db → some (λ (j : Index). same_name i.name j.name) db.indexes ≡ false → index_fits db i ≡ true → leb 64 (length db.indexes) ≡ false →
    unique_ok (record { tables = db.tables; indexes = db.indexes ++ (i ∷ []) }) ≡ true → keys_short (record { tables = db.tables; indexes = db.indexes ++ (i ∷ []) }) ≡ true → Parts (record { tables = db.tables; indexes = db.indexes ++ (i ∷ []) })
new-index i db s h f few u k = record {
  tables-apart = s.tables-apart;
  tables-ok = s.tables-ok;
  tables-few = s.tables-few;
  indexes-apart = apart-add (λ (i : Index). i.name) db.indexes i s.indexes-apart h;
  indexes-fit = every-push (index_fits db) db.indexes i s.indexes-fit f;
  indexes-few = few-push db.indexes i few;
  unique = u;
  keys-short = k;
}

drop-index : (p : Index → Bool) (db : Db) → Parts db → Parts (record { tables = db.tables; indexes = keep p db.indexes })
drop-index p db s = record {
  tables-apart = s.tables-apart;
  tables-ok = s.tables-ok;
  tables-few = s.tables-few;
  indexes-apart = apart-keep (λ (i : Index). i.name) p db.indexes s.indexes-apart;
  indexes-fit = every-keep (index_fits db) p db.indexes s.indexes-fit;
  indexes-few = few-keep p db.indexes s.indexes-few;
  unique = every-keep (index_ok db) p db.indexes s.unique;
  keys-short = every-keep (short_in db) p db.indexes s.keys-short;
}

-- a table whose rows change

set-cols : (m : Name) (t : Table) (ts : List Table) → t.cols ≡ (find_table t.name ts).cols → (find_table m (set_table t ts)).cols ≡ (find_table m ts).cols
set-cols m t ts e =
    ⊎_elim (λ (p : (find_table m (set_table t ts) ≡ t) × (find_table m ts ≡ find_table t.name ts)). ap (λ (t : Table). t.cols) p.0 ∙ e ∙ sym (ap (λ (t : Table). t.cols) p.1)) (λ p. ap (λ (t : Table). t.cols) p) (find-set m t ts)

set-named : (m : Name) (t : Table) (ts : List Table) → named m (set_table t ts) ≡ named m ts
set-named m t ts = sym (some-map (same_name m) (λ (t : Table). t.name) (set_table t ts)) ∙ ap (some (same_name m)) (set-names t ts) ∙ some-map (same_name m) (λ (t : Table). t.name) ts

set-table : (t : Table) (db : Db) → Parts db → table_ok t ≡ true → t.cols ≡ (find_table t.name db.tables).cols → unique_ok (with_table t db) ≡ true → keys_short (with_table t db) ≡ true → Parts (with_table t db)
set-table t db s ok e u k = record {
  tables-apart = ap apart (set-names t db.tables) ∙ s.tables-apart;
  tables-ok = set-every table_ok t db.tables ok s.tables-ok;
  tables-few = ap (λ n. leb n 64) (set-length t db.tables) ∙ s.tables-few;
  indexes-apart = s.indexes-apart;
  indexes-fit = every-weaker (index_fits db) (index_fits (with_table t db)) (λ i f. fits_moves db (with_table t db) i (set-named i.table t db.tables ∙ fits-named db i f) (set-cols i.table t db.tables e) f) db.indexes s.indexes-fit;
  indexes-few = s.indexes-few;
  unique = u;
  keys-short = k;
}

found : (n : Name) (db : Db) → has_table n db ≡ true → find_table n db.tables ≡ find_table (find_table n db.tables).name db.tables
found n db h = sym (ap (λ (m : Name). find_table m db.tables) (find-name n db.tables h))

numbered-ok : (cs : List Col) (n m : ℕ) (vs : List (List Value)) → n + length vs ≤ m → every (λ (v : List Value). eqb (row_wrong cs v) 0) vs ≡ true → every (λ (r : Row). ltb r.num m && eqb (row_wrong cs r.values) 0) (numbered n vs) ≡ true
unfolding numbered every
numbered-ok cs n m [] h k = refl
numbered-ok cs n m (v ∷ vs) h k =
    let p = and_parts (eqb (row_wrong cs v) 0) (every (λ (v : List Value). eqb (row_wrong cs v) 0) vs) k in
    and_from (ltb n m && eqb (row_wrong cs v) 0) (every (λ (r : Row). ltb r.num m && eqb (row_wrong cs r.values) 0) (numbered (suc n) vs))
    (and_from (ltb n m) (eqb (row_wrong cs v) 0) (lt-ltb n m (omega arith)) p.0) (numbered-ok cs (suc n) m vs (omega arith) p.1)

added-ok : (vs : List (List Value)) (t : Table) → table_ok t ≡ true → t.next + length vs ≤ 9223372036854775807 → rows_wrong t.cols vs ≡ 0 → table_ok (added vs t) ≡ true
added-ok vs t ok l w =
    let p = table-parts t ok in
    table-from (added vs t) (record {
      cols-apart = p.cols-apart;
      cols-few = p.cols-few;
      name-short = p.name-short;
      cols-short = p.cols-short;
      next-in = le-leb (t.next + length vs) 9223372036854775807 l;
      in_order = rising-append 0 t.next t.rows (numbered t.next vs) (omega arith) p.in_order (every-weaker (row_ok t) (λ (r : Row). ltb r.num t.next) (λ r k. (and_parts (ltb r.num t.next) (eqb (row_wrong t.cols r.values) 0) k).0) t.rows p.rows_ok) (rising-numbered t.next vs);
      rows_ok = every_append (row_ok (added vs t)) t.rows (numbered t.next vs) (every-weaker (row_ok t) (row_ok (added vs t)) later t.rows p.rows_ok) (numbered-ok t.cols t.next (t.next + length vs) vs (omega arith) (rows_right t.cols vs w));
    })
  where
    later : (r : Row) → row_ok t r ≡ true → row_ok (added vs t) r ≡ true
    later r k =
        let q = and_parts (ltb r.num t.next) (eqb (row_wrong t.cols r.values) 0) k in
        let m = ltb-true r.num t.next q.0 in
        and_from (ltb r.num (t.next + length vs)) (eqb (row_wrong t.cols r.values) 0) (lt-ltb r.num (t.next + length vs) (omega arith)) q.1

-- rows of which some get other values
revised : (Row → Bool) → (Row → List Value) → Row → Row
revised p g r = cond (p r) (record { num = r.num; values = g r }) r

revised-num : (p : Row → Bool) (g : Row → List Value) (r : Row) → (revised p g r).num ≡ r.num
unfolding revised
revised-num p g r = cond_both (p r) (record { num = r.num; values = g r }) r (λ (s : Row). s.num ≡ r.num) (λ _. refl) (λ _. refl)

revised-rows : (t : Table) (p : Row → Bool) (g : Row → List Value) (rs : List Row) → every (row_ok t) rs ≡ true → every (λ (v : List Value). eqb (row_wrong t.cols v) 0) (map g (keep p rs)) ≡ true → every (row_ok t) (map (revised p g) rs) ≡ true
unfolding every keep revised
revised-rows t p g [] h k = refl
revised-rows t p g (r ∷ rs) h k = go (p r) k (revised-rows t p g rs q.1)
  where
    q : (row_ok t r ≡ true) × (every (row_ok t) rs ≡ true)
    q = and_parts (row_ok t r) (every (row_ok t) rs) h

    right : List Value → Bool
    right v = eqb (row_wrong t.cols v) 0

    go : (b : Bool) → every right (map g (cond b (r ∷ keep p rs) (keep p rs))) ≡ true → (every right (map g (keep p rs)) ≡ true → every (row_ok t) (map (revised p g) rs) ≡ true) →
        (row_ok t (cond b (record { num = r.num; values = g r }) r) && every (row_ok t) (map (revised p g) rs)) ≡ true
    go true e ih =
        let a = and_parts (right (g r)) (every right (map g (keep p rs))) e in
        and_from (ltb r.num t.next && right (g r)) (every (row_ok t) (map (revised p g) rs)) (and_from (ltb r.num t.next) (right (g r)) (and_parts (ltb r.num t.next) (right r.values) q.0).0 a.0) (ih a.1)
    go false e ih = and_from (row_ok t r) (every (row_ok t) (map (revised p g) rs)) q.0 (ih e)

revised-ok : (t : Table) (p : Row → Bool) (g : Row → List Value) → table_ok t ≡ true → rows_wrong t.cols (map g (keep p t.rows)) ≡ 0 → table_ok (with_rows (map (revised p g) t.rows) t) ≡ true
revised-ok t p g ok w =
    let q = table-parts t ok in
    table-from (with_rows (map (revised p g) t.rows) t) (record {
      cols-apart = q.cols-apart;
      cols-few = q.cols-few;
      name-short = q.name-short;
      cols-short = q.cols-short;
      next-in = q.next-in;
      in_order = rising-map (revised p g) (revised-num p g) 0 t.rows q.in_order;
      rows_ok = revised-rows t p g t.rows q.rows_ok (rows_right t.cols (map g (keep p t.rows)) w);
    })

-- rows of which some go

fewer-ok : (t : Table) (p : Row → Bool) → table_ok t ≡ true → table_ok (with_rows (keep p t.rows) t) ≡ true
fewer-ok t p ok =
    let q = table-parts t ok in
    table-from (with_rows (keep p t.rows) t) (record {
      cols-apart = q.cols-apart;
      cols-few = q.cols-few;
      name-short = q.name-short;
      cols-short = q.cols-short;
      next-in = q.next-in;
      in_order = rising-keep p 0 t.rows q.in_order;
      rows_ok = every-keep (row_ok t) p t.rows q.rows_ok;
    })

-- what holds of rows, and of those kept, holds of each index's rows after some went
fewer-rows : (P : List Row → Type 0) (n m : Name) (db : Db) (p : Row → Bool) → has_table n db ≡ true → ((rs : List Row) → P rs → P (keep p rs)) → P (find_table m db.tables).rows →
    P (find_table m (set_table (with_rows (keep p (find_table n db.tables).rows) (find_table n db.tables)) db.tables)).rows
fewer-rows P n m db p h w k =
    ⊎_elim (λ (q : (find_table m (set_table new db.tables) ≡ new) × (find_table m db.tables ≡ find_table new.name db.tables)).
    subst (λ (t : Table). P t.rows) (sym q.0) (subst (λ (t : Table). P (keep p t.rows)) (q.1 ∙ sym (found n db h)) (w (find_table m db.tables).rows k)))
    (λ q. subst (λ (t : Table). P t.rows) (sym q) k) (find-set m new db.tables)
  where
    new : Table
    new = with_rows (keep p (find_table n db.tables).rows) (find_table n db.tables)

or-moves : (a b c : Bool) → (b ≡ true → c ≡ true) → (a || b) ≡ true → (a || c) ≡ true
or-moves true b c f h = refl
or-moves false b c f h = f h

fewer : (n : Name) (db : Db) (p : Row → Bool) → Parts db → has_table n db ≡ true → Parts (with_table (with_rows (keep p (find_table n db.tables).rows) (find_table n db.tables)) db)
fewer n db p s h =
    set-table new db s (fewer-ok (find_table n db.tables) p (find-every table_ok n db.tables h s.tables-ok)) (ap (λ (t : Table). t.cols) (found n db h))
    (every-weaker (index_ok db) (index_ok (with_table new db)) (λ i k. fewer-rows (λ rs. (not i.unique || apart_all (map (λ (r : Row). key_of i.on r.values) rs)) ≡ true) n i.table db p h
    (λ rs e. or-moves (not i.unique) (apart_all (map (λ (r : Row). key_of i.on r.values) rs)) (apart_all (map (λ (r : Row). key_of i.on r.values) (keep p rs))) (apart-all-keep (λ (r : Row). key_of i.on r.values) p rs) e) k) db.indexes s.unique)
    (every-weaker (short_in db) (short_in (with_table new db)) (λ i k. fewer-rows (λ rs. every (λ (r : Row). leb (key_weight (key_of i.on r.values)) 980) rs ≡ true) n i.table db p h
    (λ rs e. every-keep (λ (r : Row). leb (key_weight (key_of i.on r.values)) 980) p rs e) k) db.indexes s.keys-short)
  where
    new : Table
    new = with_rows (keep p (find_table n db.tables).rows) (find_table n db.tables)

-- statements

checked-parts : (k n : ℕ) (db to : Db) → checked k db ≡ Changed n to → (keys_short db ≡ true) × (unique_ok db ≡ true) × (db ≡ to)
checked-parts k n db to h =
    let a = unless-parts 10 (not (keys_short db)) (unless 8 (not (unique_ok db)) (Changed k db)) n to h in
    let b = unless-parts 8 (not (unique_ok db)) (Changed k db) n to a.1 in
    (not-false (keys_short db) a.0, not-false (unique_ok db) b.0, changed-to b.1)

insert-sound : (m : Name) (vs : List (List Value)) (db to : Db) (n : ℕ) → Parts db → has_table m db ≡ true → inserted m vs db ≡ Changed n to → Parts to
insert-sound m vs db to n s h e =
    let t : Table = find_table m db.tables in
    let new : Table = added vs t in
    let a = unless-parts 10 (ltb 9223372036854775807 (t.next + length vs)) (cond (eqb (rows_wrong t.cols vs) 0) (checked (length vs) (with_table new db)) (Refused (rows_wrong t.cols vs))) n to e in
    let b = cond-parts (eqb (rows_wrong t.cols vs) 0) (checked (length vs) (with_table new db)) (rows_wrong t.cols vs) n to a.1 in
    let c = checked-parts (length vs) n (with_table new db) to b.1 in
    subst Parts c.2 (set-table new db s (added-ok vs t (find-every table_ok m db.tables h s.tables-ok) (ltb-false 9223372036854775807 (t.next + length vs) a.0) (eqb-true (rows_wrong t.cols vs) 0 b.0)) (ap (λ (t : Table). t.cols) (found m db h)) c.1 c.0)

no_rows : {P : Type 0} {rs : List (List Value)} {n : ℕ} {to : Db} → Rows rs ≡ Changed n to → P
no_rows h = let z : ◌≡◌ {A = ℕ} 0 1 = cc in absurd (omega arith)

no-refusal : {P : Type 0} {k n : ℕ} {to : Db} → Refused k ≡ Changed n to → P
no-refusal h = let z : ◌≡◌ {A = ℕ} 0 1 = cc in absurd (omega arith)

fresh_ok : (m : Name) (cs : List Col) → apart (map (λ (c : Col). c.name) cs) ≡ true → ltb 32 (length cs) ≡ false → long_name m ≡ false → some (λ (c : Col). long_name c.name) cs ≡ false → table_ok (record { name = m; cols = cs; next = 0; rows = [] }) ≡ true
unfolding rising every
fresh_ok m cs a f l ls =
    table-from (record { name = m; cols = cs; next = 0; rows = [] }) (record {
      cols-apart = a;
      cols-few = le-leb (length cs) 32 (ltb-false 32 (length cs) f);
      name-short = not_from_false (long_name m) l;
      cols-short = none-every (λ (c : Col). long_name c.name) cs ls;
      next-in = refl;
      in_order = refl;
      rows_ok = refl;
    })

stays : (s : Statement) (db to : Db) (n : ℕ) → Parts db → does s db ≡ Changed n to → Parts to
unfolding does revised
stays (create_table m cs) db to n s h =
    let a = unless-parts _ _ _ n to h in
    let b = unless-parts _ _ _ n to a.1 in
    let c = or_parts (has_table m db) _ a.0 in
    let d = or_parts (ltb 32 (length cs) || leb 64 (length db.tables) || long_name m) _ b.0 in
    let e = or_parts (ltb 32 (length cs) || leb 64 (length db.tables)) (long_name m) d.0 in
    let f = or_parts (ltb 32 (length cs)) (leb 64 (length db.tables)) e.0 in
    subst Parts (changed-to b.1) (new-table m cs db s c.0 (fresh_ok m cs (not-false (apart (map (λ (c : Col). c.name) cs)) c.1) f.0 e.1 d.1) f.1)
stays (drop_table m) db to n s h = let a = unless-parts _ _ _ n to h in subst Parts (changed-to a.1) (drop-table m db s)
stays (create_index u m t cs) db to n s h =
    let new : Index = record { name = m; table = t; on = map (λ (c : Name). place_of c (find_table t db.tables).cols) cs; unique = u } in
    let a = unless-parts _ _ _ n to h in
    let b = unless-parts _ _ _ n to a.1 in
    let c = unless-parts _ _ _ n to b.1 in
    let d = unless-parts _ _ _ n to c.1 in
    let k = checked-parts 0 n (record { tables = db.tables; indexes = db.indexes ++ (new ∷ []) }) to d.1 in
    let l = or_parts (leb 64 (length db.indexes)) (long_name m) d.0 in
    let cols = and_parts (every (λ (c : Name). has_col c (find_table t db.tables).cols) cs) (apart cs) (not-false _ b.0) in
    let fits : index_fits db new ≡ true = λ i. not-false (has_table t db) a.0 i && not_from_false (long_name m) l.1 i && places-in (find_table t db.tables).cols cs cols.0 i in
    subst Parts k.2 (new-index new db s c.0 fits l.0 k.1 k.0)
stays (drop_index m) db to n s h = let a = unless-parts _ _ _ n to h in subst Parts (changed-to a.1) (drop-index (λ (i : Index). not (same_name m i.name)) db s)
stays (insert m rows) db to n s h =
    let a = unless-parts _ _ _ n to h in
    let b = unless-parts _ _ _ n to a.1 in
    insert-sound m _ db to n s (not-false (has_table m db) a.0) b.1
stays (insert_from m q) db to n s h =
    let a = unless-parts _ _ _ n to h in
    let b = unless-parts _ _ _ n to a.1 in
    insert-sound m (answer q db []) db to n s (not-false (has_table m db) a.0) b.1
stays (update m ss w) db to n s h =
    let t : Table = find_table m db.tables in
    let a = unless-parts _ _ _ n to h in
    let b = unless-parts _ _ _ n to a.1 in
    let there = not-false (has_table m db) a.0 in
    let c = cond-parts (eqb (rows_wrong t.cols (new_rows t ss w db)) 0) (checked (length (matching t w db)) (with_table (with_rows (updated t ss w db) t) db)) (rows_wrong t.cols (new_rows t ss w db)) n to b.1 in
    let k = checked-parts (length (matching t w db)) n (with_table (with_rows (updated t ss w db) t) db) to c.1 in
    let right : rows_wrong t.cols (new_rows t ss w db) ≡ 0 = eqb-true (rows_wrong t.cols (new_rows t ss w db)) 0 c.0 in
    let ok : table_ok (with_rows (updated t ss w db) t) ≡ true =
    revised-ok t (matches w db (source_of t.name) t) (λ (r : Row). new_values t.cols r.values ss db (bound_to (source_of t.name) t r.values ∷ [])) (find-every table_ok m db.tables there s.tables-ok) right
    in
    subst Parts k.2 (set-table (with_rows (updated t ss w db) t) db s ok (ap (λ (t : Table). t.cols) (found m db there)) k.1 k.0)
stays (delete m w) db to n s h =
    let a = unless-parts _ _ _ n to h in
    let b = unless-parts _ _ _ n to a.1 in
    subst Parts (changed-to b.1) (fewer m db _ s (not-false (has_table m db) a.0))
stays (select q) db to n s h = no_rows (unless-parts _ _ _ n to h).1
stays begin db to n s h = no-refusal h
stays commit db to n s h = no-refusal h
stays rollback db to n s h = no-refusal h
stays (savepoint m) db to n s h = no-refusal h
stays (rollback_to m) db to n s h = no-refusal h
stays (release m) db to n s h = no-refusal h

pub stays-sound : StaysSound
stays-sound s db to n h e = whole to (stays s db to n (parts db h) e)

pub blank-sound : BlankSound
unfolding every apart
blank-sound = record { tables-apart = tt; tables-ok = tt; tables-few = tt; indexes-apart = tt; indexes-fit = tt; indexes-few = tt; unique = tt; keys-short = tt }
