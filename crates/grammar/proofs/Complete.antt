-- What the grammar derives, the reader finds. Assumes nothing.
use Rattle.std.proofs.Common.{◌≡◌, ℕ, zero, suc, ◌+◌, ◌<◌, Bool, true, false, ◌||◌, T, eqb, ◌⊎◌, List, [], ◌∷◌, ◌++◌, length, pos, sym, refl, ap, ◌∙◌, subst, inl, inr, append_assoc, arith, length-append}
use Rattle.meaning.specs.Value as Value
use Rattle.meaning.specs.Value.{Num}
use Rattle.meaning.specs.Tree as tree
use Rattle.meaning.specs.Tree.{Name, Source, Limit, Expr, Exprs, Keys, Query, query, aggregates_any, aggregates_key}
use Rattle.meaning.specs.Meaning.{same_name}
use Rattle.meaning.specs.Text.{Token, Word, Number, Quoted, Sign, plain_name, differs_sign, at_most_sign, at_least_sign, joined_sign, k_select, k_distinct, k_from, k_where, k_group, k_by, k_having, k_order, k_asc, k_desc, k_limit, k_offset, k_and, k_or, k_not, k_null, k_exists, k_count}
use Rattle.meaning.specs.Grammar as g
use Rattle.meaning.specs.Grammar.{X, Xs, Q, Sources, Limits, Distinct, Wheres, Havings, KeyList, Orders, Aggregates}
use Rattle.grammar.specs.Reader.{refuses, gets, Reader, and_then, choose, head_is, past, is_sign, is_word, a_name, a_number, list_of, to_exprs, Key, to_keys, joins, joint_in, joint, one, condition, called, a_source, sources, Groups, groups, a_key, orders, limits, asked, filtered, question, expr, exprs, keys, asks}
use Rattle.grammar.proofs.Tools.{then_is, choose_no, listed-one, listed_next, name-fine, number-fine}
use Rattle.grammar.proofs.Climb.{Fine, fine-deeper, fine-join, fine-test, is-null, is-no-null}
use Rattle.grammar.proofs.Marks.{After, after_more, mark-way, mark-name, mark-where, mark-group, mark-having, mark-order, mark-limit, Quiet, quiet-after, after-comma, quiet-comma, quiet-asc, quiet-desc, whole, from_mark, where_mark, group_mark, having_mark, order_mark, limit_mark}
use Rattle.grammar.proofs.Operands.{fine-opens, opens_not, opens-minus, opens-number, opens-column, opens-its, Starts, starts-on, starts, starts-head, opens-bracket, opens-aggregate, opens-count, opens-null, opens-text, FineQ, opens-exists, selects, opens-scalar}

-- lists of expressions
abbrev pub FineXs : List Token → Exprs → Type 0
FineXs ts es = (l : List Expr) × (to_exprs l ≡ es) × ((v r : List Token) → v ≡ ts ++ r → (n : ℕ) → After n r → (f : ℕ) → length v + 1 < f → exprs f v ≡ gets l r)

xs-one : (ts : List Token) (e : Expr) → Fine 0 ts e → FineXs ts (tree.more e tree.none)
unfolding to_exprs expr
xs-one ts e fe = (e ∷ [], refl, go)
  where
    go : (v r : List Token) → v ≡ ts ++ r → (n : ℕ) → After n r → (f : ℕ) → length v + 1 < f → exprs f v ≡ gets (e ∷ []) r
    go v r same n a zero l = absurd (omega arith)
    go v r same n a (suc f) l = listed-one (expr f 0) (exprs f) v r e (whole ts e fe v r same (quiet-after n r a) f (omega arith)) (after-comma n r a)

xs-next : (ts us : List Token) (e : Expr) (es : Exprs) → Fine 0 ts e → FineXs us es → FineXs (ts ++ Sign 44 ∷ us) (tree.more e es)
unfolding to_exprs expr
xs-next ts us e es fe it = (e ∷ it.0, ap (tree.more e) it.1, go)
  where
    go : (v r : List Token) → v ≡ (ts ++ Sign 44 ∷ us) ++ r → (n : ℕ) → After n r → (f : ℕ) → length v + 1 < f → exprs f v ≡ gets (e ∷ it.0) r
    go v r same n a zero l = absurd (omega arith)
    go v r same n a (suc f) l =
        let as' = same ∙ append_assoc ts (Sign 44 ∷ us) r in
        let long = ap length as' in
        let parts = length-append ts (Sign 44 ∷ (us ++ r)) in
        listed_next (expr f 0) (exprs f) v (us ++ r) r e it.0 (whole ts e fe v (Sign 44 ∷ (us ++ r)) as' (quiet-comma (us ++ r)) f (omega arith)) (it.2 (us ++ r) r refl n a f (omega arith))

-- lists of keys
abbrev FineKs : List Token → Keys → Type 0
FineKs ts ks = (l : List Key) × (to_keys l ≡ ks) × ((v r : List Token) → v ≡ ts ++ r → (n : ℕ) → After n r → (f : ℕ) → length v + 1 < f → keys f v ≡ gets l r)

-- an expression with its direction, before r
abbrev FineK : List Token → Expr → Bool → Type 0
FineK ts e d = (v r : List Token) → v ≡ ts ++ r → ((n : ℕ) × After n r) ⊎ ((us : List Token) × (r ≡ Sign 44 ∷ us)) → (f : ℕ) → length v < f → a_key (expr f 0) v ≡ gets (record { by = e; down = d }) r

no_way : (r : List Token) → ((n : ℕ) × After n r) ⊎ ((us : List Token) × (r ≡ Sign 44 ∷ us)) → Quiet r × (head_is (is_word k_asc) r ≡ false) × (head_is (is_word k_desc) r ≡ false)
unfolding is_word
no_way [] h = (tt, refl, refl)
no_way (t ∷ r) (inl h) = (quiet-after h.0 (t ∷ r) h.1, (mark-way h.1.2).0, (mark-way h.1.2).1)
no_way (t ∷ r) (inr h) = subst (λ v. Quiet v × (head_is (is_word k_asc) v ≡ false) × (head_is (is_word k_desc) v ≡ false)) (sym h.1) (quiet-comma h.0, refl, refl)

key-up : (ts : List Token) (e : Expr) → Fine 0 ts e → FineK ts e false
key-up ts e fe v r same h f l = let o = no_way r h in
    then_is _ (whole ts e fe v r same o.0 f l) (then_is (λ d vs. gets (record { by = e; down = d }) vs) (choose_no (is_word k_asc) _ _ r o.1 ∙ choose_no (is_word k_desc) _ _ r o.2) refl)

key-asc : (ts : List Token) (e : Expr) → Fine 0 ts e → FineK (ts ++ Word k_asc ∷ []) e false
unfolding choose is_word same_name
key-asc ts e fe v r same h f l = then_is _ (whole ts e fe v (Word k_asc ∷ r) (same ∙ append_assoc ts (Word k_asc ∷ []) r) (quiet-asc r) f l) refl

key-desc : (ts : List Token) (e : Expr) → Fine 0 ts e → FineK (ts ++ Word k_desc ∷ []) e true
unfolding choose is_word same_name
key-desc ts e fe v r same h f l = then_is _ (whole ts e fe v (Word k_desc ∷ r) (same ∙ append_assoc ts (Word k_desc ∷ []) r) (quiet-desc r) f l) refl

ks-one : (ts : List Token) (e : Expr) (d : Bool) → FineK ts e d → FineKs ts (tree.key e d tree.unsorted)
unfolding to_keys expr
ks-one ts e d fk = (record { by = e; down = d } ∷ [], refl, go)
  where
    go : (v r : List Token) → v ≡ ts ++ r → (n : ℕ) → After n r → (f : ℕ) → length v + 1 < f → keys f v ≡ gets (record { by = e; down = d } ∷ []) r
    go v r same n a zero l = absurd (omega arith)
    go v r same n a (suc f) l = listed-one (a_key (expr f 0)) (keys f) v r _ (fk v r same (inl (n, a)) f (omega arith)) (after-comma n r a)

ks-next : (ts us : List Token) (e : Expr) (d : Bool) (ks : Keys) → FineK ts e d → FineKs us ks → FineKs (ts ++ Sign 44 ∷ us) (tree.key e d ks)
unfolding to_keys expr
ks-next ts us e d ks fk it = (record { by = e; down = d } ∷ it.0, ap (tree.key e d) it.1, go)
  where
    go : (v r : List Token) → v ≡ (ts ++ Sign 44 ∷ us) ++ r → (n : ℕ) → After n r → (f : ℕ) → length v + 1 < f → keys f v ≡ gets (record { by = e; down = d } ∷ it.0) r
    go v r same n a zero l = absurd (omega arith)
    go v r same n a (suc f) l =
        let as' = same ∙ append_assoc ts (Sign 44 ∷ us) r in
        let long = ap length as' in
        let parts = length-append ts (Sign 44 ∷ (us ++ r)) in
        listed_next (a_key (expr f 0)) (keys f) v (us ++ r) r _ it.0 (fk v (Sign 44 ∷ (us ++ r)) as' (inr (us ++ r, refl)) f (omega arith)) (it.2 (us ++ r) r refl n a f (omega arith))

-- the clauses of a query, each before what comes after it
no-limit : (r : List Token) → After 6 r → limits r ≡ gets tree.all r
no-limit r a = choose_no (is_word k_limit) _ _ r (no r a)
  where
    no : (r : List Token) → After 6 r → head_is (is_word k_limit) r ≡ false
    no [] a = refl
    no (t ∷ r) a = (mark-limit a.1 a.2).0

no-offset : (n : ℕ) (r : List Token) → After 6 r → choose (is_word k_offset) (λ ws. and_then (a_number ws) (λ m zs. gets (tree.up_to n m) zs)) (gets (tree.up_to n 0)) r ≡ gets (tree.up_to n 0) r
no-offset n r a = choose_no (is_word k_offset) _ _ r (no r a)
  where
    no : (r : List Token) → After 6 r → head_is (is_word k_offset) r ≡ false
    no [] a = refl
    no (t ∷ r) a = (mark-limit a.1 a.2).1

limits-fine : {ts : List Token} {l : Limit} → Limits ts l → (r : List Token) → After 6 r → (limits (ts ++ r) ≡ gets l r) × After 5 (ts ++ r)
unfolding choose is_word same_name
limits-fine g.no_limit r a = (no-limit r a, after_more 5 6 r (omega arith) a)
limits-fine (g.most n l) r a = (then_is _ (number-fine n r l) (no-offset n r a), (5, omega arith, limit_mark))
limits-fine (g.most_from n m l k) r a = (then_is _ (number-fine n _ l) (then_is (λ m zs. gets (tree.up_to n m) zs) (number-fine m r k) refl), (5, omega arith, limit_mark))

abbrev FineOs : List Token → Keys → Type 0
FineOs ts ks = (l : List Key) × (to_keys l ≡ ks) × ((r : List Token) → After 5 r → (f : ℕ) → length (ts ++ r) < f → (orders (keys f) (ts ++ r) ≡ gets l r) × After 4 (ts ++ r))

os-none : FineOs [] tree.unsorted
unfolding to_keys
os-none = ([], refl, λ r a f l. (choose_no (is_word k_order) _ _ r (no r a), after_more 4 5 r (omega arith) a))
  where
    no : (r : List Token) → After 5 r → head_is (is_word k_order) r ≡ false
    no [] a = refl
    no (t ∷ r) a = mark-order a.1 a.2

os-some : (ts : List Token) (ks : Keys) → FineKs ts ks → FineOs (Word k_order ∷ Word k_by ∷ ts) ks
unfolding choose is_word same_name
os-some ts ks it = (it.0, it.1, λ r a f l. (it.2 (ts ++ r) r refl 5 a f (omega arith), (4, omega arith, order_mark)))

abbrev FineC : ℕ → Name → List Token → Expr → Type 0
FineC n w ts e = (r : List Token) → After (suc n) r → (f : ℕ) → length (ts ++ r) < f → (condition w (expr f) (ts ++ r) ≡ gets e r) × After n (ts ++ r)

no-where : (r : List Token) → After 2 r → head_is (is_word k_where) r ≡ false
no-where [] a = refl
no-where (t ∷ r) a = mark-where a.1 a.2

no-having : (r : List Token) → After 4 r → head_is (is_word k_having) r ≡ false
no-having [] a = refl
no-having (t ∷ r) a = mark-having a.1 a.2

no-group : (r : List Token) → After 3 r → head_is (is_word k_group) r ≡ false
no-group [] a = refl
no-group (t ∷ r) a = mark-group a.1 a.2

where-none : FineC 1 k_where [] one
where-none r a f l = (choose_no (is_word k_where) _ _ r (no-where r a), after_more 1 2 r (omega arith) a)

where-some : (ts : List Token) (e : Expr) → Fine 0 ts e → FineC 1 k_where (Word k_where ∷ ts) e
unfolding choose is_word same_name
where-some ts e fe r a f l = (whole ts e fe (ts ++ r) r refl (quiet-after 2 r a) f (omega arith), (1, omega arith, where_mark))

having-none : FineC 3 k_having [] one
having-none r a f l = (choose_no (is_word k_having) _ _ r (no-having r a), after_more 3 4 r (omega arith) a)

having-some : (ts : List Token) (e : Expr) → Fine 0 ts e → FineC 3 k_having (Word k_having ∷ ts) e
unfolding choose is_word same_name
having-some ts e fe r a f l = (whole ts e fe (ts ++ r) r refl (quiet-after 4 r a) f (omega arith), (3, omega arith, having_mark))

-- sources
source-alone : (n : Name) (r : List Token) → T (plain_name n) → a_name r ≡ refuses → a_source (Word n ∷ r) ≡ gets (record { table = n; alias = n }) r
source-alone n r p h = then_is (λ n us. called n us (a_name us)) (name-fine n r p) (ap (called n r) h)

source-called : (n a : Name) (r : List Token) → T (plain_name n) → T (plain_name a) → a_source (Word n ∷ Word a ∷ r) ≡ gets (record { table = n; alias = a }) r
source-called n a r p h = then_is (λ n us. called n us (a_name us)) (name-fine n _ p) (ap (called n (Word a ∷ r)) (name-fine a r h))

comma-name : (r : List Token) → a_name (Sign 44 ∷ r) ≡ refuses
unfolding a_name
comma-name r = refl

no_name : (n : ℕ) (r : List Token) → After n r → a_name r ≡ refuses
unfolding a_name
no_name n [] a = refl
no_name n (t ∷ r) a = mark-name r a.2

sources-fine : {ts : List Token} {ss : List Source} → Sources ts ss → (r : List Token) → (n : ℕ) → After n r → (f : ℕ) → length (ts ++ r) < f → sources f (ts ++ r) ≡ gets ss r
unfolding list_of
sources-fine s r n a zero l = absurd (omega arith)
sources-fine (g.one_named m p) r n a (suc f) l = listed-one a_source (sources f) _ r _ (source-alone m r p (no_name n r a)) (after-comma n r a)
sources-fine (g.one_called m b p q) r n a (suc f) l = listed-one a_source (sources f) _ r _ (source-called m b r p q) (after-comma n r a)
sources-fine (g.more_named {ts} m p s) r n a (suc f) l = listed_next a_source (sources f) _ (ts ++ r) r _ _ (source-alone m _ p (comma-name (ts ++ r))) (sources-fine s r n a f (omega arith))
sources-fine (g.more_called {ts} m b p q s) r n a (suc f) l = listed_next a_source (sources f) _ (ts ++ r) r _ _ (source-called m b _ p q) (sources-fine s r n a f (omega arith))

no-distinct : (r : List Token) → head_is (is_word k_distinct) r ≡ false → choose (is_word k_distinct) (gets true) (gets false) r ≡ gets false r
no-distinct r h = choose_no (is_word k_distinct) _ _ r h

distinct-fine : {ts : List Token} {d : Bool} → Distinct ts d → (r : List Token) → head_is (is_word k_distinct) r ≡ false → choose (is_word k_distinct) (gets true) (gets false) (ts ++ r) ≡ gets d r
unfolding choose is_word same_name
distinct-fine g.any r h = no-distinct r h
distinct-fine g.once r h = refl

xs-starts : {ts : List Token} {es : Exprs} → Xs ts es → Starts ts
xs-starts (g.one d) = starts d
xs-starts (g.next {ts = ts} d x) = starts-on ts _ (starts d)

-- a query from its parts: what stands after the sources, then the whole
abbrev Tail : List Token → Expr → Groups → List Key → Limit → Type 0
Tail ts c gr o l = (d : Bool) (es : List Expr) (from : List Source) (r : List Token) → After 6 r → (f : ℕ) → length (ts ++ r) + 1 < f → (filtered (expr f) (exprs f) (keys f) d es from (ts ++ r) ≡ gets (asked d es from c gr o l) r) × After 1 (ts ++ r)

no-groups : (f : ℕ) (r : List Token) → After 3 r → groups (expr f) (exprs f) r ≡ gets (record { are = false; by = []; having = one }) r
no-groups f r a = choose_no (is_word k_group) _ _ r (no-group r a)

some-groups : (f : ℕ) (us vs r : List Token) (es : List Expr) (h : Expr) → exprs f us ≡ gets es vs → condition k_having (expr f) vs ≡ gets h r → groups (expr f) (exprs f) (Word k_group ∷ Word k_by ∷ us) ≡ gets (record { are = true; by = es; having = h }) r
unfolding choose is_word same_name
some-groups f us vs r es h a b = then_is (λ es vs. and_then (condition k_having (expr f) vs) (λ h ws. gets (record { are = true; by = es; having = h }) ws)) a (then_is (λ h ws. gets (record { are = true; by = es; having = h }) ws) b refl)

filters : (f : ℕ) (d : Bool) (es : List Expr) (from : List Source) (v0 v1 v2 v3 r : List Token) (c : Expr) (gr : Groups) (o : List Key) (l : Limit) →
    condition k_where (expr f) v0 ≡ gets c v1 → groups (expr f) (exprs f) v1 ≡ gets gr v2 → orders (keys f) v2 ≡ gets o v3 → limits v3 ≡ gets l r → filtered (expr f) (exprs f) (keys f) d es from v0 ≡ gets (asked d es from c gr o l) r
unfolding filtered
filters f d es from v0 v1 v2 v3 r c gr o l p1 p2 p3 p4 =
    then_is (λ c us. and_then (groups (expr f) (exprs f) us) (λ g vs. and_then (orders (keys f) vs) (λ o ws. and_then (limits ws) (λ l zs. gets (asked d es from c g o l) zs)))) p1
    (then_is (λ g vs. and_then (orders (keys f) vs) (λ o ws. and_then (limits ws) (λ l zs. gets (asked d es from c g o l) zs))) p2
    (then_is (λ o ws. and_then (limits ws) (λ l zs. gets (asked d es from c gr o l) zs)) p3
    (then_is (λ l zs. gets (asked d es from c gr o l) zs) p4 refl)))

tail-simple : (ws os ls : List Token) (c : Expr) (ks : Keys) (l : Limit) → FineC 1 k_where ws c → (fo : FineOs os ks) → Limits ls l → Tail (ws ++ os ++ ls) c (record { are = false; by = []; having = one }) fo.0 l
tail-simple ws os ls c ks l fc fo fl d es from r a f m =
    let same : (ws ++ os ++ ls) ++ r ≡ ws ++ (os ++ (ls ++ r)) = simp append_assoc in
    let long = ap length same in
    let n1 = length-append ws (os ++ (ls ++ r)) in
    let li = limits-fine fl r a in
    let or' = fo.2 (ls ++ r) li.1 f (omega arith) in
    let a3 = after_more 3 4 (os ++ (ls ++ r)) (omega arith) or'.1 in
    let wh = fc (os ++ (ls ++ r)) (after_more 2 3 _ (omega arith) a3) f (omega arith) in
    (ap (filtered (expr f) (exprs f) (keys f) d es from) same ∙ filters f d es from _ _ _ _ r _ _ _ _ wh.0 (no-groups f _ a3) or'.0 li.0, subst (After 1) (sym same) wh.1)

tail-grouped : (ws gs hs os ls : List Token) (c h : Expr) (grp : Exprs) (ks : Keys) (l : Limit) → FineC 1 k_where ws c → (fg : FineXs gs grp) → FineC 3 k_having hs h → (fo : FineOs os ks) → Limits ls l →
    Tail (ws ++ Word k_group ∷ Word k_by ∷ (gs ++ hs ++ os ++ ls)) c (record { are = true; by = fg.0; having = h }) fo.0 l
tail-grouped ws gs hs os ls c h grp ks l fc fg fh fo fl d es from r a f m =
    let v1 = gs ++ (hs ++ (os ++ (ls ++ r))) in
    let same : (ws ++ Word k_group ∷ Word k_by ∷ (gs ++ hs ++ os ++ ls)) ++ r ≡ ws ++ Word k_group ∷ Word k_by ∷ v1 = simp append_assoc in
    let long = ap length same in
    let n1 = length-append ws (Word k_group ∷ Word k_by ∷ v1) in
    let n2 = length-append gs (hs ++ (os ++ (ls ++ r))) in
    let n3 = length-append hs (os ++ (ls ++ r)) in
    let li = limits-fine fl r a in
    let or' = fo.2 (ls ++ r) li.1 f (omega arith) in
    let ha = fh (os ++ (ls ++ r)) or'.1 f (omega arith) in
    let xs = fg.2 v1 (hs ++ (os ++ (ls ++ r))) refl 3 ha.1 f (omega arith) in
    let wh = fc (Word k_group ∷ Word k_by ∷ v1) (2, omega arith, group_mark) f (omega arith) in
    (ap (filtered (expr f) (exprs f) (keys f) d es from) same ∙ filters f d es from _ _ _ _ r _ _ _ _ wh.0 (some-groups f _ _ _ _ _ xs ha.0) or'.0 li.0, subst (After 1) (sym same) wh.1)

questions : (f : ℕ) (v1 v2 v3 v4 r : List Token) (d : Bool) (es : List Expr) (from : List Source) (q : Query) → choose (is_word k_distinct) (gets true) (gets false) v1 ≡ gets d v2 → exprs f v2 ≡ gets es (Word k_from ∷ v3) → sources f v3 ≡ gets from v4 →
    filtered (expr f) (exprs f) (keys f) d es from v4 ≡ gets q r → asks f (Word k_select ∷ v1) ≡ gets q r
unfolding question choose is_word same_name
questions f v1 v2 v3 v4 r d es from q p1 p2 p3 p4 =
    let next : Bool → List Expr → Reader Query = λ d es ws. past (is_word k_from) (λ ys. and_then (sources f ys) (λ from zs. filtered (expr f) (exprs f) (keys f) d es from zs)) ws in
    then_is (λ d vs. and_then (exprs f vs) (next d)) p1 (then_is (next d) p2 (then_is (λ from zs. filtered (expr f) (exprs f) (keys f) d es from zs) p3 p4))

query-fine : (ds xs fs tl : List Token) (d : Bool) (es : Exprs) (from : List Source) (c : Expr) (gr : Groups) (o : List Key) (l : Limit) → Distinct ds d → Starts xs → (fx : FineXs xs es) → Sources fs from → Tail tl c gr o l →
    FineQ (Word k_select ∷ (ds ++ xs ++ Word k_from ∷ (fs ++ tl))) (asked d fx.0 from c gr o l)
query-fine ds xs fs tl d es from c gr o l fd st fx fs' ft r a f m =
    let v4 = tl ++ r in
    let v3 = fs ++ v4 in
    let v2 = xs ++ Word k_from ∷ v3 in
    let same : (ds ++ xs ++ Word k_from ∷ (fs ++ tl)) ++ r ≡ ds ++ v2 = simp append_assoc in
    let long = ap length same in
    let n1 = length-append ds v2 in
    let n2 = length-append xs (Word k_from ∷ v3) in
    let n3 = length-append fs v4 in
    let last = ft d fx.0 from r a f (omega arith) in
    ap (λ v. asks f (Word k_select ∷ v)) same
    ∙ questions f (ds ++ v2) v2 v3 v4 r d fx.0 from _ (distinct-fine fd v2 (starts-head xs (Word k_from ∷ v3) st).1) (fx.2 v2 (Word k_from ∷ v3) refl 0 (0, omega arith, from_mark) f (omega arith)) (sources-fine fs' v4 1 last.1 f (omega arith)) last.0

same-query : (d : Bool) (es : List Expr) (es' : Exprs) (from : List Source) (c h : Expr) (b : Bool) (gs : List Expr) (gs' : Exprs) (o : List Key) (ks : Keys) (l : Limit) → to_exprs es ≡ es' → to_exprs gs ≡ gs' → to_keys o ≡ ks →
    asked d es from c (record { are = b; by = gs; having = h }) o l ≡ query d es' from c (b || aggregates_any es' || aggregates_key ks) gs' h ks l
same-query d es es' from c h b gs gs' o ks l p q r i = query d (p i) from c (b || aggregates_any (p i) || aggregates_key (r i)) (q i) h (r i) l

no-exprs : to_exprs [] ≡ tree.none
unfolding to_exprs
no-exprs = refl

-- the operators
or_at : joint (Word k_or) ≡ joins 0 0 tree.or
unfolding joint joint_in is_word is_sign same_name
or_at = refl

and_at : joint (Word k_and) ≡ joins 1 1 tree.and
unfolding joint joint_in is_word is_sign same_name
and_at = refl

word-dot : (n : Name) → is_sign 46 (Word n) ≡ false
unfolding is_sign
word-dot n = refl

sign_at : (is_sign 46 (Sign 61) ≡ false) × (joint (Sign 61) ≡ joins 3 4 tree.equal) × (joint (Sign 60) ≡ joins 3 4 tree.below) × (joint (Sign 43) ≡ joins 4 4 tree.plus) × (joint (Sign 45) ≡ joins 4 4 tree.minus) × (joint (Sign 42) ≡ joins 5 5 tree.times)
unfolding joint joint_in is_word is_sign
sign_at = (refl, refl, refl, refl, refl, refl)

signs-at : (joint (Sign differs_sign) ≡ joins 3 4 (λ a b. tree.not' (tree.equal a b))) × (joint (Sign 62) ≡ joins 3 4 (λ a b. tree.below b a)) × (joint (Sign at_most_sign) ≡ joins 3 4 tree.at_most) × (joint (Sign at_least_sign) ≡ joins 3 4 (λ a b. tree.at_most b a)) × (joint (Sign joined_sign) ≡ joins 4 4 tree.concat)
unfolding joint joint_in is_word is_sign
signs-at = (refl, refl, refl, refl, refl)

sign-dot : (b : ℕ) → eqb b 46 ≡ false → is_sign 46 (Sign b) ≡ false
unfolding is_sign
sign-dot b h = h

mutual
  pub fine : {n : ℕ} {ts : List Token} {e : Expr} → X n ts e → Fine n ts e
  fine (g.deeper {n} {ts} {e} l d) = fine-deeper n ts e (fine d)
  fine (g.ors {ts} {us} {a} {b} d x) = fine-join 0 0 (Word k_or) tree.or ts us a b or_at (word-dot k_or) (omega arith) (fine d) (fine x)
  fine (g.ands {ts} {us} {a} {b} d x) = fine-join 1 1 (Word k_and) tree.and ts us a b and_at (word-dot k_and) (omega arith) (fine d) (fine x)
  fine (g.nots {ts} {a} d) = fine-opens 2 (Word k_not ∷ ts) (tree.not' a) (omega arith) (opens_not ts a (fine d))
  fine (g.equals {ts} {us} {a} {b} d x) = fine-join 3 4 (Sign 61) tree.equal ts us a b sign_at.1 (sign-dot 61 refl) (omega arith) (fine d) (fine x)
  fine (g.differs {ts} {us} {a} {b} d x) = fine-join 3 4 (Sign differs_sign) (λ a b. tree.not' (tree.equal a b)) ts us a b signs-at.0 (sign-dot differs_sign refl) (omega arith) (fine d) (fine x)
  fine (g.belows {ts} {us} {a} {b} d x) = fine-join 3 4 (Sign 60) tree.below ts us a b sign_at.2 (sign-dot 60 refl) (omega arith) (fine d) (fine x)
  fine (g.aboves {ts} {us} {a} {b} d x) = fine-join 3 4 (Sign 62) (λ a b. tree.below b a) ts us a b signs-at.1 (sign-dot 62 refl) (omega arith) (fine d) (fine x)
  fine (g.at_mosts {ts} {us} {a} {b} d x) = fine-join 3 4 (Sign at_most_sign) tree.at_most ts us a b signs-at.2 (sign-dot at_most_sign refl) (omega arith) (fine d) (fine x)
  fine (g.at_leasts {ts} {us} {a} {b} d x) = fine-join 3 4 (Sign at_least_sign) (λ a b. tree.at_most b a) ts us a b signs-at.3 (sign-dot at_least_sign refl) (omega arith) (fine d) (fine x)
  fine (g.null_test {ts} {a} d) = fine-test ts (Word k_null ∷ []) a false is-null (fine d)
  fine (g.no_null_test {ts} {a} d) = fine-test ts (Word k_not ∷ Word k_null ∷ []) a true is-no-null (fine d)
  fine (g.adds {ts} {us} {a} {b} d x) = fine-join 4 4 (Sign 43) tree.plus ts us a b sign_at.3 (sign-dot 43 refl) (omega arith) (fine d) (fine x)
  fine (g.subs {ts} {us} {a} {b} d x) = fine-join 4 4 (Sign 45) tree.minus ts us a b sign_at.4 (sign-dot 45 refl) (omega arith) (fine d) (fine x)
  fine (g.concats {ts} {us} {a} {b} d x) = fine-join 4 4 (Sign joined_sign) tree.concat ts us a b signs-at.4 (sign-dot joined_sign refl) (omega arith) (fine d) (fine x)
  fine (g.muls {ts} {us} {a} {b} d x) = fine-join 5 5 (Sign 42) tree.times ts us a b sign_at.5 (sign-dot 42 refl) (omega arith) (fine d) (fine x)
  fine (g.negs {ts} {a} d) = fine-opens 6 (Sign 45 ∷ ts) (tree.negated a) (omega arith) (opens-minus ts a (fine d))
  fine (g.number n l) = fine-opens 7 (Number n ∷ []) (tree.lit (Num (pos n))) (omega arith) (opens-number n l)
  fine (g.text t) = fine-opens 7 (Quoted t ∷ []) (tree.lit (Value.Text t)) (omega arith) (opens-text t)
  fine g.null = fine-opens 7 (Word k_null ∷ []) (tree.lit Value.Null) (omega arith) opens-null
  fine (g.column n p) = fine-opens 7 (Word n ∷ []) (tree.col [] n) (omega arith) (opens-column n p)
  fine (g.its_column q n p h) = fine-opens 7 (Word q ∷ Sign 46 ∷ Word n ∷ []) (tree.col q n) (omega arith) (opens-its q n p h)
  fine (g.bracketed {ts} {e} d) = fine-opens 7 (Sign 40 ∷ (ts ++ Sign 41 ∷ [])) e (omega arith) (opens-bracket ts e (starts d) (fine d))
  fine g.count_rows = fine-opens 7 (Word k_count ∷ Sign 40 ∷ Sign 42 ∷ Sign 41 ∷ []) tree.row_count (omega arith) opens-count
  fine (g.aggregated {gs} {ts} {g = a} {e} k d) = fine-opens 7 (gs ++ Sign 40 ∷ (ts ++ Sign 41 ∷ [])) (tree.aggregate a e) (omega (arith, length-append gs (Sign 40 ∷ (ts ++ Sign 41 ∷ [])))) (opens-aggregate ts e k (starts d) (fine d))
  fine (g.any_row {ts} {q} d) = fine-opens 7 (Word k_exists ∷ Sign 40 ∷ (ts ++ Sign 41 ∷ [])) (tree.exists q) (omega arith) (opens-exists ts q (fine_q d))
  fine (g.one_value {ts} {d} {g = gr} {e} {a} {c} {from} {es} {ks} {l} x) =
      let q = query d (tree.more e tree.none) from a gr es c ks l in
      fine-opens 7 (Sign 40 ∷ (ts ++ Sign 41 ∷ [])) (tree.scalar q) (omega arith) (opens-scalar ts q (selects x) refl (fine_q x))

  pub fine_xs : {ts : List Token} {es : Exprs} → Xs ts es → FineXs ts es
  fine_xs (g.one {ts} {e} d) = xs-one ts e (fine d)
  fine_xs (g.next {ts} {us} {e} {es} d x) = xs-next ts us e es (fine d) (fine_xs x)

  pub fine_w : {ts : List Token} {e : Expr} → Wheres ts e → FineC 1 k_where ts e
  fine_w g.always = where-none
  fine_w (g.where' {ts} {e} d) = where-some ts e (fine d)

  fine_h : {ts : List Token} {e : Expr} → Havings ts e → FineC 3 k_having ts e
  fine_h g.all_groups = having-none
  fine_h (g.having' {ts} {e} d) = having-some ts e (fine d)

  fine_ks : {ts : List Token} {ks : Keys} → KeyList ts ks → FineKs ts ks
  fine_ks (g.last_up {ts} {e} d) = ks-one ts e false (key-up ts e (fine d))
  fine_ks (g.last_asc {ts} {e} d) = ks-one (ts ++ Word k_asc ∷ []) e false (key-asc ts e (fine d))
  fine_ks (g.last_down {ts} {e} d) = ks-one (ts ++ Word k_desc ∷ []) e true (key-desc ts e (fine d))
  fine_ks (g.more_up {ts} {us} {e} {ks} d k) = ks-next ts us e false ks (key-up ts e (fine d)) (fine_ks k)
  fine_ks (g.more_asc {ts} {us} {e} {ks} d k) = subst (λ v. FineKs v (tree.key e false ks)) (append_assoc ts (Word k_asc ∷ []) (Sign 44 ∷ us)) (ks-next (ts ++ Word k_asc ∷ []) us e false ks (key-asc ts e (fine d)) (fine_ks k))
  fine_ks (g.more_down {ts} {us} {e} {ks} d k) = subst (λ v. FineKs v (tree.key e true ks)) (append_assoc ts (Word k_desc ∷ []) (Sign 44 ∷ us)) (ks-next (ts ++ Word k_desc ∷ []) us e true ks (key-desc ts e (fine d)) (fine_ks k))

  fine_o : {ts : List Token} {ks : Keys} → Orders ts ks → FineOs ts ks
  fine_o g.as_they_come = os-none
  fine_o (g.ordered {ts} {ks} k) = os-some ts ks (fine_ks k)

  pub fine_q : {ts : List Token} {q : Query} → Q ts q → FineQ ts q
  fine_q (g.simple {ds} {xs} {fs} {ws} {os} {ls} {d} {es} {from} {c} {ks} {l} a x s w' o m) =
      let fx = fine_xs x in
      let fo = fine_o o in
      let same : fs ++ (ws ++ os ++ ls) ≡ fs ++ ws ++ os ++ ls = simp append_assoc in
      subst (FineQ (Word k_select ∷ (ds ++ xs ++ Word k_from ∷ (fs ++ ws ++ os ++ ls)))) (same-query d fx.0 es from c one false [] tree.none fo.0 ks l fx.1 no-exprs fo.1)
      (subst (λ v. FineQ (Word k_select ∷ (ds ++ xs ++ Word k_from ∷ v)) (asked d fx.0 from c (record { are = false; by = []; having = one }) fo.0 l)) same
      (query-fine ds xs fs (ws ++ os ++ ls) d es from c (record { are = false; by = []; having = one }) fo.0 l a (xs-starts x) fx s (tail-simple ws os ls c ks l (fine_w w') fo m)))
  fine_q (g.grouped {ds} {xs} {fs} {ws} {gs} {hs} {os} {ls} {d} {es} {grp} {from} {c} {h} {ks} {l} a x s w' y hv o m) =
      let fx = fine_xs x in
      let fy = fine_xs y in
      let fo = fine_o o in
      let tl = Word k_group ∷ Word k_by ∷ (gs ++ hs ++ os ++ ls) in
      let same : fs ++ (ws ++ tl) ≡ fs ++ ws ++ tl = simp append_assoc in
      subst (FineQ (Word k_select ∷ (ds ++ xs ++ Word k_from ∷ (fs ++ ws ++ tl)))) (same-query d fx.0 es from c h true fy.0 grp fo.0 ks l fx.1 fy.1 fo.1)
      (subst (λ v. FineQ (Word k_select ∷ (ds ++ xs ++ Word k_from ∷ v)) (asked d fx.0 from c (record { are = true; by = fy.0; having = h }) fo.0 l)) same
      (query-fine ds xs fs (ws ++ tl) d es from c (record { are = true; by = fy.0; having = h }) fo.0 l a (xs-starts x) fx s (tail-grouped ws gs hs os ls c h grp ks l (fine_w w') fy (fine_h hv) fo m)))
