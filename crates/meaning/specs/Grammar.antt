-- Which tokens are which statement. Levels of expressions, from the loosest: 0 or, 1 and, 2 not, 3 comparisons, 4 sums, 5 products, 6 minus before, 7 the smallest.
use Rattle.std.specs.Prelude.{ℕ, suc, ◌<◌, Bool, true, false, ◌||◌, T, List, [], ◌∷◌, ◌++◌, pos}
use Rattle.meaning.specs.Value.{Null, Num, Text, Aggregate, Count, Sum, Min, Max}
use Rattle.meaning.specs.Tree.{Name, Source, Limit, all, up_to, Expr, lit, col, plus, minus, times, concat, negated, equal, below, at_most, and, or, not', isnull, row_count, aggregate, exists, scalar, Exprs, none, more, Keys, unsorted, key, Query, query, Col, Set, Statement, create_table, drop_table, create_index, drop_index, insert, insert_from, update, delete, select, begin, commit, rollback, savepoint, rollback_to, release, aggregates_any, aggregates_key}
use Rattle.meaning.specs.Text.{Token, Word, Number, Quoted, Sign, Between, tokens, plain_name, at_most_sign, differs_sign, joined_sign, at_least_sign, k_select, k_distinct, k_from, k_where, k_group, k_by, k_having, k_order, k_asc, k_desc, k_limit, k_offset, k_and, k_or, k_not, k_is, k_null, k_exists, k_count, k_sum, k_min, k_max, k_create, k_table, k_unique, k_index, k_on, k_drop, k_insert, k_into, k_values, k_update, k_set, k_delete, k_begin, k_commit, k_rollback, k_to, k_savepoint, k_release, k_int, k_text}

abbrev pub w : Name → List Token → List Token
w n ts = Word n ∷ ts

abbrev pub s : ℕ → List Token → List Token
s b ts = Sign b ∷ ts

-- the sources of a query: tables, with or without an alias
pub data Sources : List Token → List Source → Type 0 where
  one_named : (n : Name) → T (plain_name n) → Sources (w n []) (record { table = n; alias = n } ∷ [])
  one_called : (n a : Name) → T (plain_name n) → T (plain_name a) → Sources (w n (w a [])) (record { table = n; alias = a } ∷ [])
  more_named : {ts : List Token} {ss : List Source} (n : Name) → T (plain_name n) → Sources ts ss → Sources (w n (s 44 ts)) (record { table = n; alias = n } ∷ ss)
  more_called : {ts : List Token} {ss : List Source} (n a : Name) → T (plain_name n) → T (plain_name a) → Sources ts ss → Sources (w n (w a (s 44 ts))) (record { table = n; alias = a } ∷ ss)

pub data Limits : List Token → Limit → Type 0 where
  no_limit : Limits [] all
  most : (n : ℕ) → n < 9223372036854775808 → Limits (w k_limit (Number n ∷ [])) (up_to n 0)
  most_from : (n m : ℕ) → n < 9223372036854775808 → m < 9223372036854775808 → Limits (w k_limit (Number n ∷ w k_offset (Number m ∷ []))) (up_to n m)

pub data Distinct : List Token → Bool → Type 0 where
  any : Distinct [] false
  once : Distinct (w k_distinct []) true

pub data Aggregates : List Token → Aggregate → Type 0 where
  counts : Aggregates (w k_count []) Count
  sums : Aggregates (w k_sum []) Sum
  mins : Aggregates (w k_min []) Min
  maxes : Aggregates (w k_max []) Max

mutual
  pub data X : ℕ → List Token → Expr → Type 0 where
    deeper : {n : ℕ} {ts : List Token} {e : Expr} → n < 7 → X (suc n) ts e → X n ts e
    ors : {ts us : List Token} {a b : Expr} → X 0 ts a → X 1 us b → X 0 (ts ++ w k_or us) (or a b)
    ands : {ts us : List Token} {a b : Expr} → X 1 ts a → X 2 us b → X 1 (ts ++ w k_and us) (and a b)
    nots : {ts : List Token} {a : Expr} → X 2 ts a → X 2 (w k_not ts) (not' a)
    equals : {ts us : List Token} {a b : Expr} → X 4 ts a → X 4 us b → X 3 (ts ++ s 61 us) (equal a b)
    differs : {ts us : List Token} {a b : Expr} → X 4 ts a → X 4 us b → X 3 (ts ++ s differs_sign us) (not' (equal a b))
    belows : {ts us : List Token} {a b : Expr} → X 4 ts a → X 4 us b → X 3 (ts ++ s 60 us) (below a b)
    aboves : {ts us : List Token} {a b : Expr} → X 4 ts a → X 4 us b → X 3 (ts ++ s 62 us) (below b a)
    at_mosts : {ts us : List Token} {a b : Expr} → X 4 ts a → X 4 us b → X 3 (ts ++ s at_most_sign us) (at_most a b)
    at_leasts : {ts us : List Token} {a b : Expr} → X 4 ts a → X 4 us b → X 3 (ts ++ s at_least_sign us) (at_most b a)
    null_test : {ts : List Token} {a : Expr} → X 4 ts a → X 3 (ts ++ w k_is (w k_null [])) (isnull a)
    no_null_test : {ts : List Token} {a : Expr} → X 4 ts a → X 3 (ts ++ w k_is (w k_not (w k_null []))) (not' (isnull a))
    adds : {ts us : List Token} {a b : Expr} → X 4 ts a → X 5 us b → X 4 (ts ++ s 43 us) (plus a b)
    subs : {ts us : List Token} {a b : Expr} → X 4 ts a → X 5 us b → X 4 (ts ++ s 45 us) (minus a b)
    concats : {ts us : List Token} {a b : Expr} → X 4 ts a → X 5 us b → X 4 (ts ++ s joined_sign us) (concat a b)
    muls : {ts us : List Token} {a b : Expr} → X 5 ts a → X 6 us b → X 5 (ts ++ s 42 us) (times a b)
    negs : {ts : List Token} {a : Expr} → X 6 ts a → X 6 (s 45 ts) (negated a)
    number : (n : ℕ) → n < 9223372036854775808 → X 7 (Number n ∷ []) (lit (Num (pos n)))
    text : (t : List ℕ) → X 7 (Quoted t ∷ []) (lit (Text t))
    null : X 7 (w k_null []) (lit Null)
    column : (n : Name) → T (plain_name n) → X 7 (w n []) (col [] n)
    its_column : (q n : Name) → T (plain_name q) → T (plain_name n) → X 7 (w q (s 46 (w n []))) (col q n)
    bracketed : {ts : List Token} {e : Expr} → X 0 ts e → X 7 (s 40 (ts ++ s 41 [])) e
    count_rows : X 7 (w k_count (s 40 (s 42 (s 41 [])))) row_count
    aggregated : {gs ts : List Token} {g : Aggregate} {e : Expr} → Aggregates gs g → X 0 ts e → X 7 (gs ++ s 40 (ts ++ s 41 [])) (aggregate g e)
    any_row : {ts : List Token} {q : Query} → Q ts q → X 7 (w k_exists (s 40 (ts ++ s 41 []))) (exists q)
    one_value : {ts : List Token} {d g : Bool} {e a c : Expr} {from : List Source} {es : Exprs} {ks : Keys} {l : Limit} → Q ts (query d (more e none) from a g es c ks l) →
        X 7 (s 40 (ts ++ s 41 [])) (scalar (query d (more e none) from a g es c ks l))

  pub data Xs : List Token → Exprs → Type 0 where
    one : {ts : List Token} {e : Expr} → X 0 ts e → Xs ts (more e none)
    next : {ts us : List Token} {e : Expr} {es : Exprs} → X 0 ts e → Xs us es → Xs (ts ++ s 44 us) (more e es)

  pub data Wheres : List Token → Expr → Type 0 where
    always : Wheres [] (lit (Num (pos 1)))
    where' : {ts : List Token} {e : Expr} → X 0 ts e → Wheres (w k_where ts) e

  pub data Havings : List Token → Expr → Type 0 where
    all_groups : Havings [] (lit (Num (pos 1)))
    having' : {ts : List Token} {e : Expr} → X 0 ts e → Havings (w k_having ts) e

  pub data KeyList : List Token → Keys → Type 0 where
    last_up : {ts : List Token} {e : Expr} → X 0 ts e → KeyList ts (key e false unsorted)
    last_asc : {ts : List Token} {e : Expr} → X 0 ts e → KeyList (ts ++ w k_asc []) (key e false unsorted)
    last_down : {ts : List Token} {e : Expr} → X 0 ts e → KeyList (ts ++ w k_desc []) (key e true unsorted)
    more_up : {ts us : List Token} {e : Expr} {ks : Keys} → X 0 ts e → KeyList us ks → KeyList (ts ++ s 44 us) (key e false ks)
    more_asc : {ts us : List Token} {e : Expr} {ks : Keys} → X 0 ts e → KeyList us ks → KeyList (ts ++ w k_asc (s 44 us)) (key e false ks)
    more_down : {ts us : List Token} {e : Expr} {ks : Keys} → X 0 ts e → KeyList us ks → KeyList (ts ++ w k_desc (s 44 us)) (key e true ks)

  pub data Orders : List Token → Keys → Type 0 where
    as_they_come : Orders [] unsorted
    ordered : {ts : List Token} {ks : Keys} → KeyList ts ks → Orders (w k_order (w k_by ts)) ks

  -- without group by, a query that aggregates has one group
  pub data Q : List Token → Query → Type 0 where
    simple : {ds xs fs ws os ls : List Token} {d : Bool} {es : Exprs} {from : List Source} {c : Expr} {ks : Keys} {l : Limit} →
        Distinct ds d → Xs xs es → Sources fs from → Wheres ws c → Orders os ks → Limits ls l →
        Q (w k_select (ds ++ xs ++ w k_from (fs ++ ws ++ os ++ ls))) (query d es from c (aggregates_any es || aggregates_key ks) none (lit (Num (pos 1))) ks l)
    grouped : {ds xs fs ws gs hs os ls : List Token} {d : Bool} {es grp : Exprs} {from : List Source} {c h : Expr} {ks : Keys} {l : Limit} →
        Distinct ds d → Xs xs es → Sources fs from → Wheres ws c → Xs gs grp → Havings hs h → Orders os ks → Limits ls l →
        Q (w k_select (ds ++ xs ++ w k_from (fs ++ ws ++ w k_group (w k_by (gs ++ hs ++ os ++ ls))))) (query d es from c true grp h ks l)

pub data OneCol : List Token → Col → Type 0 where
  int : (n : Name) → T (plain_name n) → OneCol (w n (w k_int [])) (record { name = n; text = false; must = false })
  int_must : (n : Name) → T (plain_name n) → OneCol (w n (w k_int (w k_not (w k_null [])))) (record { name = n; text = false; must = true })
  txt : (n : Name) → T (plain_name n) → OneCol (w n (w k_text [])) (record { name = n; text = true; must = false })
  txt_must : (n : Name) → T (plain_name n) → OneCol (w n (w k_text (w k_not (w k_null [])))) (record { name = n; text = true; must = true })

pub data Cols : List Token → List Col → Type 0 where
  one : {ts : List Token} {c : Col} → OneCol ts c → Cols ts (c ∷ [])
  next : {ts us : List Token} {c : Col} {cs : List Col} → OneCol ts c → Cols us cs → Cols (ts ++ s 44 us) (c ∷ cs)

pub data Names : List Token → List Name → Type 0 where
  one : (n : Name) → T (plain_name n) → Names (w n []) (n ∷ [])
  next : {ts : List Token} {ns : List Name} (n : Name) → T (plain_name n) → Names ts ns → Names (w n (s 44 ts)) (n ∷ ns)

pub data RowList : List Token → List Exprs → Type 0 where
  one : {ts : List Token} {es : Exprs} → Xs ts es → RowList (s 40 (ts ++ s 41 [])) (es ∷ [])
  next : {ts us : List Token} {es : Exprs} {rs : List Exprs} → Xs ts es → RowList us rs → RowList (s 40 (ts ++ s 41 (s 44 us))) (es ∷ rs)

pub data SetList : List Token → List Set → Type 0 where
  one : {ts : List Token} {e : Expr} (n : Name) → T (plain_name n) → X 0 ts e → SetList (w n (s 61 ts)) (record { col = n; to = e } ∷ [])
  next : {ts us : List Token} {e : Expr} {ss : List Set} (n : Name) → T (plain_name n) → X 0 ts e → SetList us ss → SetList (w n (s 61 (ts ++ s 44 us))) (record { col = n; to = e } ∷ ss)

pub data S : List Token → Statement → Type 0 where
  make_table : {ts : List Token} {cs : List Col} (n : Name) → T (plain_name n) → Cols ts cs → S (w k_create (w k_table (w n (s 40 (ts ++ s 41 []))))) (create_table n cs)
  unmake_table : (n : Name) → T (plain_name n) → S (w k_drop (w k_table (w n []))) (drop_table n)
  make_index : {ts : List Token} {ns : List Name} (n t : Name) → T (plain_name n) → T (plain_name t) → Names ts ns → S (w k_create (w k_index (w n (w k_on (w t (s 40 (ts ++ s 41 []))))))) (create_index false n t ns)
  make_unique : {ts : List Token} {ns : List Name} (n t : Name) → T (plain_name n) → T (plain_name t) → Names ts ns → S (w k_create (w k_unique (w k_index (w n (w k_on (w t (s 40 (ts ++ s 41 [])))))))) (create_index true n t ns)
  unmake_index : (n : Name) → T (plain_name n) → S (w k_drop (w k_index (w n []))) (drop_index n)
  inserts : {ts : List Token} {rs : List Exprs} (n : Name) → T (plain_name n) → RowList ts rs → S (w k_insert (w k_into (w n (w k_values ts)))) (insert n rs)
  inserts_from : {ts : List Token} {q : Query} (n : Name) → T (plain_name n) → Q ts q → S (w k_insert (w k_into (w n ts))) (insert_from n q)
  updates : {ts ws : List Token} {ss : List Set} {e : Expr} (n : Name) → T (plain_name n) → SetList ts ss → Wheres ws e → S (w k_update (w n (w k_set (ts ++ ws)))) (update n ss e)
  deletes : {ws : List Token} {e : Expr} (n : Name) → T (plain_name n) → Wheres ws e → S (w k_delete (w k_from (w n ws))) (delete n e)
  asks : {ts : List Token} {q : Query} → Q ts q → S ts (select q)
  begins : S (w k_begin []) begin
  commits : S (w k_commit []) commit
  rolls_back : S (w k_rollback []) rollback
  marks : (n : Name) → T (plain_name n) → S (w k_savepoint (w n [])) (savepoint n)
  goes_back : (n : Name) → T (plain_name n) → S (w k_rollback (w k_to (w n []))) (rollback_to n)
  lets : (n : Name) → T (plain_name n) → S (w k_release (w n [])) (release n)

-- these bytes are this statement
abbrev pub Reads : List ℕ → Statement → Type 0
Reads bytes st = S (tokens Between bytes) st
