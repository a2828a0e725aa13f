-- Tables found and changed by their names, and what stays of a table whose rows change. Assumes nothing.
use Rattle.std.proofs.Common.{◌≡◌, ℕ, suc, ◌<◌, ◌≤◌, Bool, true, false, cond, not, ◌&&◌, ◌||◌, eqb, ltb, leb, ◌⊎◌, List, [], ◌∷◌, ◌++◌, map, length, sym, refl, ap, ◌∙◌, subst, inl, inr, ⊎_elim, arith}
use Rattle.std.proofs.lemmas.Bool.{and_parts, and_from, cond_both, leb-true, le-leb, ltb-true, eq-eqb, or_cases, or_left, or_right, not-true, not_from_false}
use Rattle.meaning.specs.Value.{Value, is_null}
use Rattle.meaning.specs.Tree.{Name, Col, every}
use Rattle.meaning.specs.Meaning.{Row, Table, keep, some, same_name, same_all, find_table, place_of, has_col}
use Rattle.meaning.specs.Doing.{row_wrong, rows_wrong, apart_all, set_table, numbered}
use Rattle.meaning.specs.Laws.{rising}
use Rattle.meaning.proofs.Order.{clash}
use Rattle.meaning.proofs.Lists.{name-eq, none-keep, some-map}

abbrev pub named : Name → List Table → Bool
named n ts = some (λ (t : Table). same_name n t.name) ts

-- the table of a name that is there has that name
pub find-name : (n : Name) (ts : List Table) → named n ts ≡ true → (find_table n ts).name ≡ n
unfolding find_table some
find-name n [] h = clash h
find-name n (t ∷ ts) h =
    cond_both (same_name n t.name) t (find_table n ts) (λ (u : Table). u.name ≡ n) (λ e. sym (name-eq n t.name e))
    (λ e. find-name n ts (rest e))
  where
    rest : same_name n t.name ≡ false → named n ts ≡ true
    rest e = sym (ap (λ (b : Bool). b || named n ts) e) ∙ h

-- what holds of each table holds of one that is there
pub find-every : (f : Table → Bool) (n : Name) (ts : List Table) → named n ts ≡ true → every f ts ≡ true → f (find_table n ts) ≡ true
unfolding find_table some every
find-every f n [] h k = clash h
find-every f n (t ∷ ts) h k =
    let p = and_parts (f t) (every f ts) k in
    cond_both (same_name n t.name) t (find_table n ts) (λ (u : Table). f u ≡ true) (λ e. p.0) (λ e. find-every f n ts (sym (ap (λ (b : Bool). b || named n ts) e) ∙ h) p.1)

pub find-push : (n : Name) (ts : List Table) (t : Table) → named n ts ≡ true → (named n (ts ++ (t ∷ [])) ≡ true) × (find_table n (ts ++ (t ∷ [])) ≡ find_table n ts)
unfolding find_table some
find-push n [] t h = clash h
find-push n (u ∷ ts) t h = go (find-push n ts t) (same_name n u.name) h
  where
    go : (named n ts ≡ true → (named n (ts ++ (t ∷ [])) ≡ true) × (find_table n (ts ++ (t ∷ [])) ≡ find_table n ts)) → (b : Bool) → (b || named n ts) ≡ true → ((b || named n (ts ++ (t ∷ []))) ≡ true) × (cond b u (find_table n (ts ++ (t ∷ []))) ≡ cond b u (find_table n ts))
    go ih true k = (refl, refl)
    go ih false k = ih k

-- another table goes
pub find-keep : (n m : Name) (ts : List Table) → same_name n m ≡ false → (named m (keep (λ (t : Table). not (same_name n t.name)) ts) ≡ named m ts) × (find_table m (keep (λ (t : Table). not (same_name n t.name)) ts) ≡ find_table m ts)
unfolding find_table some keep
find-keep n m [] h = (refl, refl)
find-keep n m (u ∷ ts) h = go (same_name n u.name) refl (same_name m u.name) refl (find-keep n m ts h)
  where
    left : List Table
    left = keep (λ (t : Table). not (same_name n t.name)) ts

    go : (c : Bool) → same_name n u.name ≡ c → (d : Bool) → same_name m u.name ≡ d → (named m left ≡ named m ts) × (find_table m left ≡ find_table m ts) →
        ((named m (cond (not c) (u ∷ left) left)) ≡ (d || named m ts)) × (find_table m (cond (not c) (u ∷ left) left) ≡ cond d u (find_table m ts))
    go true e true f r = clash (sym h ∙ subst (λ (z : Name). same_name n z ≡ true) (sym (name-eq m u.name f)) e)
    go true e false f r = r
    go false e true f r = (ap (λ (b : Bool). b || named m left) f, ap (λ (b : Bool). cond b u (find_table m left)) f)
    go false e false f r = (ap (λ (b : Bool). b || named m left) f ∙ r.0, ap (λ (b : Bool). cond b u (find_table m left)) f ∙ r.1)

-- one table in another's place

pub set-names : (t : Table) (ts : List Table) → map (λ (u : Table). u.name) (set_table t ts) ≡ map (λ (u : Table). u.name) ts
unfolding set_table
set-names t [] = refl
set-names t (u ∷ ts) =
    cond_both (same_name t.name u.name) (t ∷ ts) (u ∷ set_table t ts) (λ ls. map (λ (u : Table). u.name) ls ≡ u.name ∷ map (λ (u : Table). u.name) ts)
    (λ e. ap (λ (z : Name). z ∷ map (λ (u : Table). u.name) ts) (name-eq t.name u.name e)) (λ e. ap (λ z. u.name ∷ z) (set-names t ts))

pub set-every : (f : Table → Bool) (t : Table) (ts : List Table) → f t ≡ true → every f ts ≡ true → every f (set_table t ts) ≡ true
unfolding set_table every
set-every f t [] h k = refl
set-every f t (u ∷ ts) h k =
    let p = and_parts (f u) (every f ts) k in
    cond_both (same_name t.name u.name) (t ∷ ts) (u ∷ set_table t ts) (λ ls. every f ls ≡ true) (λ e. and_from (f t) (every f ts) h p.1) (λ e. and_from (f u) (every f (set_table t ts)) p.0 (set-every f t ts h p.1))

pub set-length : (t : Table) (ts : List Table) → length (set_table t ts) ≡ length ts
unfolding set_table
set-length t [] = refl
set-length t (u ∷ ts) = cond_both (same_name t.name u.name) (t ∷ ts) (u ∷ set_table t ts) (λ ls. length ls ≡ suc (length ts)) (λ e. refl) (λ e. ap suc (set-length t ts))

-- a table of any name is then the new one, where the old one was of that name, or what it was
pub find-set : (m : Name) (t : Table) (ts : List Table) → ((find_table m (set_table t ts) ≡ t) × (find_table m ts ≡ find_table t.name ts)) ⊎ (find_table m (set_table t ts) ≡ find_table m ts)
unfolding set_table find_table
find-set m t [] = inr refl
find-set m t (u ∷ ts) = go (same_name t.name u.name) refl (same_name m u.name) refl (find-set m t ts)
  where
    go : (c : Bool) → same_name t.name u.name ≡ c → (d : Bool) → same_name m u.name ≡ d → ((find_table m (set_table t ts) ≡ t) × (find_table m ts ≡ find_table t.name ts)) ⊎ (find_table m (set_table t ts) ≡ find_table m ts) →
        ((find_table m (cond c (t ∷ ts) (u ∷ set_table t ts)) ≡ t) × (cond d u (find_table m ts) ≡ cond c u (find_table t.name ts))) ⊎ (find_table m (cond c (t ∷ ts) (u ∷ set_table t ts)) ≡ cond d u (find_table m ts))
    go true e true f r = inl (ap (λ (b : Bool). cond b t (find_table m ts)) (subst (λ (z : Name). same_name m z ≡ true) (sym (name-eq t.name u.name e)) f), refl)
    go true e false f r = inr (ap (λ (b : Bool). cond b t (find_table m ts)) (subst (λ (z : Name). same_name m z ≡ false) (sym (name-eq t.name u.name e)) f))
    go false e true f r = inr (ap (λ (b : Bool). cond b u (find_table m (set_table t ts))) f)
    go false e false f r =
        ⊎_elim (λ (p : (find_table m (set_table t ts) ≡ t) × (find_table m ts ≡ find_table t.name ts)). inl (ap (λ (b : Bool). cond b u (find_table m (set_table t ts))) f ∙ p.0, p.1))
        (λ p. inr (ap (λ (b : Bool). cond b u (find_table m (set_table t ts))) f ∙ p)) r

-- columns

pub place_in : (n : Name) (cs : List Col) → has_col n cs ≡ true → place_of n cs < length cs
unfolding place_of some
place_in n [] h = clash h
place_in n (c ∷ cs) h =
    cond_both (same_name n c.name) 0 (suc (place_of n cs)) (λ k. k < suc (length cs)) (λ e. omega arith) (λ e. let k = place_in n cs (sym (ap (λ (b : Bool). b || has_col n cs) e) ∙ h) in omega arith)

-- rows in the order of their numbers

pub rising-lower : (m n : ℕ) (rs : List Row) → m ≤ n → rising n rs ≡ true → rising m rs ≡ true
unfolding rising
rising-lower m n [] h k = refl
rising-lower m n (r ∷ rs) h k =
    let p = and_parts (leb n r.num) (rising (suc r.num) rs) k in
    let l = leb-true n r.num p.0 in
    and_from (leb m r.num) (rising (suc r.num) rs) (le-leb m r.num (omega arith)) p.1

pub rising-keep : (f : Row → Bool) (n : ℕ) (rs : List Row) → rising n rs ≡ true → rising n (keep f rs) ≡ true
unfolding rising keep
rising-keep f n [] h = refl
rising-keep f n (r ∷ rs) h =
    let p = and_parts (leb n r.num) (rising (suc r.num) rs) h in
    let l = leb-true n r.num p.0 in
    cond_both (f r) (r ∷ keep f rs) (keep f rs) (λ ls. rising n ls ≡ true) (λ _. and_from (leb n r.num) (rising (suc r.num) (keep f rs)) p.0 (rising-keep f (suc r.num) rs p.1))
    (λ _. rising-lower n (suc r.num) (keep f rs) (omega arith) (rising-keep f (suc r.num) rs p.1))

pub rising-numbered : (n : ℕ) (vs : List (List Value)) → rising n (numbered n vs) ≡ true
unfolding rising numbered
rising-numbered n [] = refl
rising-numbered n (v ∷ vs) = and_from (leb n n) (rising (suc n) (numbered (suc n) vs)) (le-leb n n (omega arith)) (rising-numbered (suc n) vs)

-- rows below a number, then rows from it on
pub rising-append : (m n : ℕ) (rs : List Row) (ss : List Row) → m ≤ n → rising m rs ≡ true → every (λ (r : Row). ltb r.num n) rs ≡ true → rising n ss ≡ true → rising m (rs ++ ss) ≡ true
unfolding rising every
rising-append m n [] ss h k b s = rising-lower m n ss h s
rising-append m n (r ∷ rs) ss h k b s =
    let p = and_parts (leb m r.num) (rising (suc r.num) rs) k in
    let q = and_parts (ltb r.num n) (every (λ (r : Row). ltb r.num n) rs) b in
    and_from (leb m r.num) (rising (suc r.num) (rs ++ ss)) p.0 (rising-append (suc r.num) n rs ss (ltb-true r.num n q.0) p.1 q.1 s)

-- each row with another list of values
pub rising-map : (f : Row → Row) → ((r : Row) → (f r).num ≡ r.num) → (n : ℕ) (rs : List Row) → rising n rs ≡ true → rising n (map f rs) ≡ true
unfolding rising
rising-map f e n [] h = refl
rising-map f e n (r ∷ rs) h =
    let p = and_parts (leb n r.num) (rising (suc r.num) rs) h in
    and_from (leb n (f r).num) (rising (suc (f r).num) (map f rs)) (ap (leb n) (e r) ∙ p.0) (ap (λ (k : ℕ). rising (suc k) (map f rs)) (e r) ∙ rising-map f e (suc r.num) rs p.1)

-- rows as columns want them

pub rows_right : (cs : List Col) (vs : List (List Value)) → rows_wrong cs vs ≡ 0 → every (λ (v : List Value). eqb (row_wrong cs v) 0) vs ≡ true
unfolding rows_wrong every
rows_right cs [] h = refl
rows_right cs (v ∷ vs) h = go (rows_right cs vs) (eqb (row_wrong cs v) 0) refl h
  where
    go : (rows_wrong cs vs ≡ 0 → every (λ (v : List Value). eqb (row_wrong cs v) 0) vs ≡ true) → (b : Bool) → eqb (row_wrong cs v) 0 ≡ b → cond b (rows_wrong cs vs) (row_wrong cs v) ≡ 0 → (eqb (row_wrong cs v) 0 && every (λ (v : List Value). eqb (row_wrong cs v) 0) vs) ≡ true
    go ih true e k = and_from (eqb (row_wrong cs v) 0) (every (λ (v : List Value). eqb (row_wrong cs v) 0) vs) e (ih k)
    go ih false e k = clash (sym e ∙ eq-eqb (row_wrong cs v) 0 k)

-- keys that are apart stay so in fewer rows

pub apart-all-keep : (g : Row → List Value) (p : Row → Bool) (rs : List Row) → apart_all (map g rs) ≡ true → apart_all (map g (keep p rs)) ≡ true
unfolding apart_all keep
apart-all-keep g p [] h = refl
apart-all-keep g p (r ∷ rs) h =
    let a = and_parts (some is_null (g r) || not (some (same_all (g r)) (map g rs))) (apart_all (map g rs)) h in
    cond_both (p r) (r ∷ keep p rs) (keep p rs) (λ ls. apart_all (map g ls) ≡ true)
    (λ _. and_from (some is_null (g r) || not (some (same_all (g r)) (map g (keep p rs)))) (apart_all (map g (keep p rs))) (one a.0) (apart-all-keep g p rs a.1))
    (λ _. apart-all-keep g p rs a.1)
  where
    one : (some is_null (g r) || not (some (same_all (g r)) (map g rs))) ≡ true → (some is_null (g r) || not (some (same_all (g r)) (map g (keep p rs)))) ≡ true
    one k =
        ⊎_elim (λ (n : some is_null (g r) ≡ true). or_left (some is_null (g r)) (not (some (same_all (g r)) (map g (keep p rs)))) n)
        (λ n. or_right (some is_null (g r)) (not (some (same_all (g r)) (map g (keep p rs)))) (not_from_false (some (same_all (g r)) (map g (keep p rs)))
        (some-map (same_all (g r)) g (keep p rs) ∙ none-keep (λ y. same_all (g r) (g y)) p rs (sym (some-map (same_all (g r)) g rs) ∙ not-true (some (same_all (g r)) (map g rs)) n)))) (or_cases (some is_null (g r)) (not (some (same_all (g r)) (map g rs))) k)
