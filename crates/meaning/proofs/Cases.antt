-- The worked cases, step by step: each text with its derivation. Assumes nothing.
use Rattle.std.proofs.Common.{◌≡◌, ℕ, true, false, ◌||◌, T, ltb, leb, List, [], ◌∷◌, ◌++◌, length, pos, codes, sym, refl, ◌∙◌, subst, lit<, leb→le}
use Rattle.std.specs.List.{AllByRecursion as All}
use Rattle.meaning.specs.Value.{Num, fits, less_z, less_bytes, less, truth, from_truth, and3, not3, holds, is_null, arithmetic, joined, counted, numbers, total, summed, best, aggregated}
use Rattle.meaning.specs.Tree.{Expr, lit, col, plus, Exprs, none, more, unsorted, all, query, Statement, select, aggregates, aggregates_any, aggregates_key, every}
use Rattle.meaning.specs.Meaning.{keep, some, each_of, without, first, same_name, empty, same_all, nth, find_table, place_of, hits_in, hits, lookup, product, nulls, head_or, inner, add_to, grouping, dirs, earlier, into, sorted, once, cut, first_value, value_of, is_none, value, values, sort_keys, answer}
use Rattle.meaning.specs.Doing.{apart, known, known_all, known_keys, known_query, weight, weight_all, col_wrong, cols_wrong, rows_wrong, apart_all, set_table, numbered, unless, new_value, new_values, does}
use Rattle.meaning.specs.Text.{Token, Number, Between, tokens, emits, after, enters, gives, small, is_in, less_by, ends, k_select, k_from}
use Rattle.meaning.specs.Session.{Say, Next, Reply, Connection, Answered, idle, No, act, after as afterwards, next, Answers, reads, reads_not, nexts}
use Rattle.meaning.specs.Grammar.{w, s, X, deeper, adds, belows, aboves, equals, nots, number, text, null, column, bracketed, count_rows, Xs, Wheres, always, where', Cols, RowList, SetList, Names, S, make_table, make_unique, inserts, updates, deletes, begins, commits, asks, simple, grouped, any, one_named, as_they_come, no_limit, all_groups, sums, int, txt_must}
use Rattle.meaning.specs.Grammar as Grammar
use Rattle.meaning.specs.Cases as Said
use Rattle.meaning.specs.Cases.{Step, Asks, Case, cases, Plays, CasesStand, says, cuts, stands}
use Rattle.meaning.proofs.Order.{clash}
use Rattle.meaning.proofs.Reading.{clean, statement-clean}

-- all that computes where a text is read and a statement is done
opened : Unit {0}
unfolding tokens emits after enters gives small is_in less_by ends fits less_z less_bytes less truth from_truth and3 not3 holds is_null arithmetic joined counted numbers total summed best aggregated aggregates aggregates_any aggregates_key every keep some each_of without first same_name empty same_all nth find_table place_of hits_in hits lookup product nulls head_or inner add_to grouping dirs earlier into sorted once cut first_value value_of is_none value values sort_keys answer apart known known_all known_keys known_query weight weight_all col_wrong cols_wrong rows_wrong apart_all set_table numbered unless new_value new_values does afterwards act next clean
opened = tt

said : {bs : List ℕ} {st : Statement} {c d : Connection} {r : Reply} → S (tokens Between bs) st → T (leb (length bs) 4096) → act st c ≡ record { reply = r; conn = d } → Answers (λ s. true) 4096 (Say bs) c r d
said {bs} {st} {c} p l e = subst (λ (a : Answered). Answers (λ s. true) 4096 (Say bs) c a.reply a.conn) e (reads bs st c (leb→le (length bs) 4096 l) p)

given : {c d : Connection} {r : Reply} → next c.running c ≡ record { reply = r; conn = d } → Answers (λ s. true) 4096 Next c r d
given {c} e = subst (λ (a : Answered). Answers (λ s. true) 4096 Next c a.reply a.conn) e (nexts c)

unread : {bs : List ℕ} {c : Connection} → clean (tokens Between bs) ≡ false → T (leb (length bs) 4096) → Answers (λ s. true) 4096 (Say bs) c (No 1) (idle c)
unread {bs} {c} e l = reads_not bs c (leb→le (length bs) 4096 l) (λ s p. clash (sym e ∙ statement-clean p))

-- an expression of the lowest level at those above, and others at the top
at5 : {ts : List Token} {e : Expr} → X 7 ts e → X 5 ts e
at5 x = deeper (lit< tt) (deeper (lit< tt) x)

at4 : {ts : List Token} {e : Expr} → X 7 ts e → X 4 ts e
at4 x = deeper (lit< tt) (at5 x)

at2 : {ts : List Token} {e : Expr} → X 7 ts e → X 2 ts e
at2 x = deeper (lit< tt) (deeper (lit< tt) (at4 x))

from2 : {ts : List Token} {e : Expr} → X 2 ts e → X 0 ts e
from2 x = deeper (lit< tt) (deeper (lit< tt) x)

from3 : {ts : List Token} {e : Expr} → X 3 ts e → X 0 ts e
from3 x = from2 (deeper (lit< tt) x)

from4 : {ts : List Token} {e : Expr} → X 4 ts e → X 0 ts e
from4 x = from3 (deeper (lit< tt) x)

top : {ts : List Token} {e : Expr} → X 7 ts e → X 0 ts e
top x = from4 (at4 x)

-- what the cases' texts have in common: columns, numbers, two values, a question of table t
a : X 7 (w (codes "a") []) (col [] (codes "a"))
unfolding opened
a = column (codes "a") tt

b : X 7 (w (codes "b") []) (col [] (codes "b"))
unfolding opened
b = column (codes "b") tt

num : (n : ℕ) → T (ltb n 9223372036854775808) → X 7 (Number n ∷ []) (lit (Num (pos n)))
num n h = number n (lit< h)

both : {ts us : List Token} {d e : Expr} → X 7 ts d → X 7 us e → Xs (ts ++ s 44 us) (more d (more e none))
both x y = Xs.next (top x) (Xs.one (top y))

raised : X 0 (w (codes "a") [] ++ s 43 (Number 1 ∷ [])) (plus (col [] (codes "a")) (lit (Num (pos 1))))
raised = from4 (adds (at4 a) (at5 (num 1 tt)))

from-t : {xs ws : List Token} {es : Exprs} {c : Expr} → Xs xs es → Wheres ws c →
    S (w k_select ([] ++ xs ++ w k_from (w (codes "t") [] ++ ws ++ [] ++ []))) (select (query false es (record { table = codes "t"; alias = codes "t" } ∷ []) c (aggregates_any es || aggregates_key unsorted) none (lit (Num (pos 1))) unsorted all))
unfolding opened
from-t x c = asks (simple any x (one_named (codes "t") tt) c as_they_come no_limit)

-- one thing after another
infixr 5 ◌·◌
◌·◌ : {A B : Type 0} → (A → B) → A → B
f · x = f x

infixr 4 ◌also◌
data Each : List Case → Type 0 where
  no_more : Each []
  ◌also◌ : {k : Case} {ks : List Case} → Plays k.steps k.start → Each ks → Each (k ∷ ks)

each_all : (ks : List Case) → Each ks → All (λ (k : Case). Plays k.steps k.start) ks
each_all [] no_more = tt
each_all (k ∷ ks) (p also ps) = (p, each_all ks ps)

row : {r : Reply} {c d : Connection} {ss : List Step} → next c.running c ≡ record { reply = r; conn = d } → Plays ss d → Plays (Asks r ∷ ss) c
row e = Said.asks (given e)

told : Each cases
unfolding opened
told =
    (says (said (make_table (codes "t") tt (Cols.next (int (codes "a") tt) (Cols.one (txt_must (codes "b") tt)))) tt refl)
    · says (said (inserts (codes "t") tt (RowList.next (both (num 1 tt) (text (codes "x"))) (RowList.one (both (num 2 tt) null)))) tt refl)
    · Said.numbers refl
    · says (said (inserts (codes "t") tt (RowList.next (both (num 1 tt) (text (codes "x"))) (RowList.one (both (num 2 tt) (text (codes "y")))))) tt refl)
    · says (said (from-t (Xs.next raised (Xs.one (top b))) (where' (from3 (belows (at4 a) (at4 (num 2 tt)))))) tt refl)
    · row refl · row refl · stands Said.ends)
    also (says (said (from-t (Xs.one (from4 (adds (at4 (num 9223372036854775807 tt)) (at5 (num 1 tt))))) always) tt refl) · row refl · row refl · row refl · Said.ends)
    also (says (said (from-t (Xs.one (top (num 1 tt))) (where' (from2 (nots (at2 (bracketed (top null))))))) tt refl) · row refl · Said.ends)
    also (says (said (from-t (Xs.next (from3 (belows (at4 (num 10 tt)) (at4 (text (codes "a"))))) (Xs.next (from3 (belows (at4 (text (codes "ab"))) (at4 (text (codes "b"))))) (Xs.one (from3 (equals (at4 null) (at4 null)))))) (where' (from3 (equals (at4 a) (at4 (num 1 tt)))))) tt refl)
    · row refl · row refl · Said.ends)
    also (says (said begins tt refl) · says (said (deletes (codes "t") tt always) tt refl) · cuts · says (said (from-t (Xs.one (top a)) always) tt refl) · row refl · row refl · row refl · Said.ends)
    also (says (said begins tt refl) · says (said (deletes (codes "t") tt always) tt refl) · says (said commits tt refl) · cuts · says (said (from-t (Xs.one (top a)) always) tt refl) · row refl · Said.ends)
    also (says (said (inserts (codes "t") tt (RowList.one (both (num 3 tt) (text (codes "it's"))))) tt refl)
    · says (said (from-t (Xs.one (top b)) (where' (from3 (equals (at4 a) (at4 (num 3 tt)))))) tt refl) · row refl · row refl
    · says (said (from-t (Xs.one (top (column (codes "a1b") tt))) always) tt refl) · says (unread refl tt) · Said.ends)
    also (says (said (updates (codes "t") tt (SetList.one (codes "a") tt raised) always) tt refl) · Said.ends)
    also (says (said (make_unique (codes "i") (codes "t") tt tt (Names.one (codes "a") tt)) tt refl) · says (said (updates (codes "t") tt (SetList.one (codes "a") tt raised) always) tt refl) · Said.ends)
    also (says (said (from-t (both count_rows (Grammar.aggregated sums (top a))) (where' (from3 (aboves (at4 a) (at4 (num 99 tt)))))) tt refl) · row refl · row refl · Said.ends)
    also (says (said (asks (grouped any (both count_rows (Grammar.aggregated sums (top a))) (one_named (codes "t") tt) (where' (from3 (aboves (at4 a) (at4 (num 99 tt))))) (Xs.one (top b)) all_groups as_they_come no_limit)) tt refl) · row refl · Said.ends)
    also (says (said (deletes (codes "t") tt always) tt refl) · says (said (inserts (codes "t") tt (RowList.one (both (num 5 tt) (text (codes "z"))))) tt refl) · Said.numbers refl · Said.ends)
    also no_more

pub cases-stand : CasesStand
cases-stand = each_all cases told
