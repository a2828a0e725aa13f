-- No statement has a wrong token. Assumes nothing.
use Rattle.std.proofs.Common.{◌≡◌, ℕ, Bool, true, false, List, [], ◌∷◌, ◌++◌, refl}
use Rattle.meaning.specs.Value.{Aggregate}
use Rattle.meaning.specs.Tree.{Name, Source, Limit, Expr, Exprs, Keys, Query, Col, Set, Statement}
use Rattle.meaning.specs.Text.{Token, Word, Number, Quoted, Sign, Wrong, at_most_sign, differs_sign, joined_sign, at_least_sign, k_or, k_and, k_is, k_not, k_null, k_asc, k_desc, k_from, k_group, k_by}
use Rattle.meaning.specs.Grammar.{w, s, Sources, one_named, one_called, more_named, more_called, Limits, no_limit, most, most_from, Distinct, any, once, Aggregates, counts, sums, mins, maxes, X, deeper, ors, ands, nots, equals, differs, belows, aboves, at_mosts, at_leasts, null_test, no_null_test, adds, subs, concats, muls, negs, number, text, null, column, its_column, bracketed, count_rows, aggregated, any_row, one_value, Xs, Wheres, always, where', Havings, all_groups, having', KeyList, last_up, last_asc, last_down, more_up, more_asc, more_down, Orders, as_they_come, ordered, Q, simple, grouped, OneCol, int, int_must, txt, txt_must, Cols, Names, RowList, SetList, S, make_table, unmake_table, make_index, make_unique, unmake_index, inserts, inserts_from, updates, deletes, asks, begins, commits, rolls_back, marks, goes_back, lets}

-- whether no token is wrong
unfoldable pub clean : List Token → Bool
clean [] = true
clean (Word n ∷ ts) = clean ts
clean (Number n ∷ ts) = clean ts
clean (Quoted t ∷ ts) = clean ts
clean (Sign b ∷ ts) = clean ts
clean (Wrong ∷ ts) = false

join : (ts us : List Token) → clean ts ≡ true → clean us ≡ true → clean (ts ++ us) ≡ true
unfolding clean
join [] us h k = k
join (Word n ∷ ts) us h k = join ts us h k
join (Number n ∷ ts) us h k = join ts us h k
join (Quoted t ∷ ts) us h k = join ts us h k
join (Sign b ∷ ts) us h k = join ts us h k
join (Wrong ∷ ts) us h k = h

sources-clean : {ts : List Token} {ss : List Source} → Sources ts ss → clean ts ≡ true
unfolding clean
sources-clean (one_named n p) = refl
sources-clean (one_called n a p q) = refl
sources-clean (more_named n p r) = sources-clean r
sources-clean (more_called n a p q r) = sources-clean r

limits-clean : {ts : List Token} {l : Limit} → Limits ts l → clean ts ≡ true
unfolding clean
limits-clean no_limit = refl
limits-clean (most n p) = refl
limits-clean (most_from n m p q) = refl

distinct-clean : {ts : List Token} {d : Bool} → Distinct ts d → clean ts ≡ true
unfolding clean
distinct-clean any = refl
distinct-clean once = refl

aggregates-clean : {ts : List Token} {g : Aggregate} → Aggregates ts g → clean ts ≡ true
unfolding clean
aggregates-clean counts = refl
aggregates-clean sums = refl
aggregates-clean mins = refl
aggregates-clean maxes = refl

mutual
  unfolding clean

  x-clean : {n : ℕ} {ts : List Token} {e : Expr} → X n ts e → clean ts ≡ true
  x-clean (deeper p x) = x-clean x
  x-clean (ors {ts} {us} x y) = join ts (w k_or us) (x-clean x) (x-clean y)
  x-clean (ands {ts} {us} x y) = join ts (w k_and us) (x-clean x) (x-clean y)
  x-clean (nots x) = x-clean x
  x-clean (equals {ts} {us} x y) = join ts (s 61 us) (x-clean x) (x-clean y)
  x-clean (differs {ts} {us} x y) = join ts (s differs_sign us) (x-clean x) (x-clean y)
  x-clean (belows {ts} {us} x y) = join ts (s 60 us) (x-clean x) (x-clean y)
  x-clean (aboves {ts} {us} x y) = join ts (s 62 us) (x-clean x) (x-clean y)
  x-clean (at_mosts {ts} {us} x y) = join ts (s at_most_sign us) (x-clean x) (x-clean y)
  x-clean (at_leasts {ts} {us} x y) = join ts (s at_least_sign us) (x-clean x) (x-clean y)
  x-clean (null_test {ts} x) = join ts (w k_is (w k_null [])) (x-clean x) refl
  x-clean (no_null_test {ts} x) = join ts (w k_is (w k_not (w k_null []))) (x-clean x) refl
  x-clean (adds {ts} {us} x y) = join ts (s 43 us) (x-clean x) (x-clean y)
  x-clean (subs {ts} {us} x y) = join ts (s 45 us) (x-clean x) (x-clean y)
  x-clean (concats {ts} {us} x y) = join ts (s joined_sign us) (x-clean x) (x-clean y)
  x-clean (muls {ts} {us} x y) = join ts (s 42 us) (x-clean x) (x-clean y)
  x-clean (negs x) = x-clean x
  x-clean (number n p) = refl
  x-clean (text t) = refl
  x-clean null = refl
  x-clean (column n p) = refl
  x-clean (its_column q n p r) = refl
  x-clean (bracketed {ts} x) = join ts (s 41 []) (x-clean x) refl
  x-clean count_rows = refl
  x-clean (aggregated {gs} {ts} g x) = join gs (s 40 (ts ++ s 41 [])) (aggregates-clean g) (join ts (s 41 []) (x-clean x) refl)
  x-clean (any_row {ts} q) = join ts (s 41 []) (q-clean q) refl
  x-clean (one_value {ts} q) = join ts (s 41 []) (q-clean q) refl

  xs-clean : {ts : List Token} {es : Exprs} → Xs ts es → clean ts ≡ true
  xs-clean (Xs.one x) = x-clean x
  xs-clean (Xs.next {ts} {us} x xs) = join ts (s 44 us) (x-clean x) (xs-clean xs)

  wheres-clean : {ts : List Token} {e : Expr} → Wheres ts e → clean ts ≡ true
  wheres-clean always = refl
  wheres-clean (where' x) = x-clean x

  havings-clean : {ts : List Token} {e : Expr} → Havings ts e → clean ts ≡ true
  havings-clean all_groups = refl
  havings-clean (having' x) = x-clean x

  keys-clean : {ts : List Token} {ks : Keys} → KeyList ts ks → clean ts ≡ true
  keys-clean (last_up x) = x-clean x
  keys-clean (last_asc {ts} x) = join ts (w k_asc []) (x-clean x) refl
  keys-clean (last_down {ts} x) = join ts (w k_desc []) (x-clean x) refl
  keys-clean (more_up {ts} {us} x k) = join ts (s 44 us) (x-clean x) (keys-clean k)
  keys-clean (more_asc {ts} {us} x k) = join ts (w k_asc (s 44 us)) (x-clean x) (keys-clean k)
  keys-clean (more_down {ts} {us} x k) = join ts (w k_desc (s 44 us)) (x-clean x) (keys-clean k)

  orders-clean : {ts : List Token} {ks : Keys} → Orders ts ks → clean ts ≡ true
  orders-clean as_they_come = refl
  orders-clean (ordered k) = keys-clean k

  q-clean : {ts : List Token} {q : Query} → Q ts q → clean ts ≡ true
  q-clean (simple {ds} {xs} {fs} {ws} {os} {ls} d x f c o l) =
      join (ds ++ xs) (w k_from (fs ++ ws ++ os ++ ls)) (join ds xs (distinct-clean d) (xs-clean x)) (join (fs ++ ws ++ os) ls (join (fs ++ ws) os (join fs ws (sources-clean f) (wheres-clean c)) (orders-clean o)) (limits-clean l))
  q-clean (grouped {ds} {xs} {fs} {ws} {gs} {hs} {os} {ls} d x f c g h o l) =
      join (ds ++ xs) (w k_from (fs ++ ws ++ w k_group (w k_by (gs ++ hs ++ os ++ ls)))) (join ds xs (distinct-clean d) (xs-clean x))
      (join (fs ++ ws) (w k_group (w k_by (gs ++ hs ++ os ++ ls))) (join fs ws (sources-clean f) (wheres-clean c)) (join (gs ++ hs ++ os) ls (join (gs ++ hs) os (join gs hs (xs-clean g) (havings-clean h)) (orders-clean o)) (limits-clean l)))

col-clean : {ts : List Token} {c : Col} → OneCol ts c → clean ts ≡ true
unfolding clean
col-clean (int n p) = refl
col-clean (int_must n p) = refl
col-clean (txt n p) = refl
col-clean (txt_must n p) = refl

cols-clean : {ts : List Token} {cs : List Col} → Cols ts cs → clean ts ≡ true
unfolding clean
cols-clean (Cols.one c) = col-clean c
cols-clean (Cols.next {ts} {us} c cs) = join ts (s 44 us) (col-clean c) (cols-clean cs)

names-clean : {ts : List Token} {ns : List Name} → Names ts ns → clean ts ≡ true
unfolding clean
names-clean (Names.one n p) = refl
names-clean (Names.next n p ns) = names-clean ns

rows-clean : {ts : List Token} {rs : List Exprs} → RowList ts rs → clean ts ≡ true
unfolding clean
rows-clean (RowList.one {ts} x) = join ts (s 41 []) (xs-clean x) refl
rows-clean (RowList.next {ts} {us} x r) = join ts (s 41 (s 44 us)) (xs-clean x) (rows-clean r)

sets-clean : {ts : List Token} {ss : List Set} → SetList ts ss → clean ts ≡ true
unfolding clean
sets-clean (SetList.one n p x) = x-clean x
sets-clean (SetList.next {ts} {us} n p x r) = join ts (s 44 us) (x-clean x) (sets-clean r)

pub statement-clean : {ts : List Token} {st : Statement} → S ts st → clean ts ≡ true
unfolding clean
statement-clean (make_table {ts} n p cs) = join ts (s 41 []) (cols-clean cs) refl
statement-clean (unmake_table n p) = refl
statement-clean (make_index {ts} n t p q ns) = join ts (s 41 []) (names-clean ns) refl
statement-clean (make_unique {ts} n t p q ns) = join ts (s 41 []) (names-clean ns) refl
statement-clean (unmake_index n p) = refl
statement-clean (inserts n p r) = rows-clean r
statement-clean (inserts_from n p q) = q-clean q
statement-clean (updates {ts} {ws} n p r c) = join ts ws (sets-clean r) (wheres-clean c)
statement-clean (deletes n p c) = wheres-clean c
statement-clean (asks q) = q-clean q
statement-clean begins = refl
statement-clean commits = refl
statement-clean rolls_back = refl
statement-clean (marks n p) = refl
statement-clean (goes_back n p) = refl
statement-clean (lets n p) = refl
