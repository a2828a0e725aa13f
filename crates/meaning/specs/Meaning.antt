-- Tables, and what queries answer: the rows, in their order. No plan or page is in here, and no query looks at an index.
use Rattle.std.specs.Prelude.{ℕ, zero, suc, Bool, true, false, cond, not, ◌&&◌, ◌||◌, List, [], ◌∷◌, ◌++◌, map, length, pos, ◌+ℤ◌, ◌-ℤ◌, ◌*ℤ◌, ◌==◌}
use Rattle.meaning.specs.Value.{Value, Null, Num, less, same, truth, from_truth, and3, not3, holds, from_bool, is_null, compared, arithmetic, joined, fits, aggregated}
use Rattle.meaning.specs.Tree.{Name, Source, Limit, all, up_to, Expr, lit, col, plus, minus, times, concat, negated, equal, below, at_most, and, or, not', isnull, row_count, aggregate, exists, scalar, Exprs, none, more, Keys, unsorted, key, Query, query, Col}

-- a row keeps its number for as long as it is there; numbers are never used again
pub record Row : Type 0 where
  pub num : ℕ
  pub values : List Value

pub record Table : Type 0 where
  pub name : Name
  pub cols : List Col
  pub next : ℕ
  pub rows : List Row

-- on: the places of its columns in the table
pub record Index : Type 0 where
  pub name : Name
  pub table : Name
  pub on : List ℕ
  pub unique : Bool

pub record Db : Type 0 where
  pub tables : List Table
  pub indexes : List Index

abbrev pub blank : Db
blank = record { tables = []; indexes = [] }

-- lists

unfoldable pub keep : {A : Type 0} → (A → Bool) → List A → List A
keep f [] = []
keep f (x ∷ xs) = cond (f x) (x ∷ keep f xs) (keep f xs)

unfoldable pub some : {A : Type 0} → (A → Bool) → List A → Bool
some f [] = false
some f (x ∷ xs) = f x || some f xs

unfoldable pub each_of : {A B : Type 0} → (A → List B) → List A → List B
each_of f [] = []
each_of f (x ∷ xs) = f x ++ each_of f xs

unfoldable pub without : ℕ → {A : Type 0} → List A → List A
without zero xs = xs
without (suc n) [] = []
without (suc n) (x ∷ xs) = without n xs

unfoldable pub first : ℕ → {A : Type 0} → List A → List A
first zero xs = []
first (suc n) [] = []
first (suc n) (x ∷ xs) = x ∷ first n xs

unfoldable pub same_name : Name → Name → Bool
same_name [] [] = true
same_name [] (y ∷ ys) = false
same_name (x ∷ xs) [] = false
same_name (x ∷ xs) (y ∷ ys) = x == y && same_name xs ys

unfoldable pub empty : {A : Type 0} → List A → Bool
empty [] = true
empty (x ∷ xs) = false

unfoldable pub same_all : List Value → List Value → Bool
same_all [] [] = true
same_all [] (y ∷ ys) = false
same_all (x ∷ xs) [] = false
same_all (x ∷ xs) (y ∷ ys) = same x y && same_all xs ys

unfoldable pub nth : ℕ → List Value → Value
nth n [] = Null
nth zero (v ∷ vs) = v
nth (suc n) (v ∷ vs) = nth n vs

abbrev pub no_table : Table
no_table = record { name = []; cols = []; next = 0; rows = [] }

unfoldable pub find_table : Name → List Table → Table
find_table n [] = no_table
find_table n (t ∷ ts) = cond (same_name n t.name) t (find_table n ts)

abbrev pub has_table : Name → Db → Bool
has_table n db = some (λ (t : Table). same_name n t.name) db.tables

unfoldable pub place_of : Name → List Col → ℕ
place_of n [] = 0
place_of n (c ∷ cs) = cond (same_name n c.name) 0 (suc (place_of n cs))

abbrev pub has_col : Name → List Col → Bool
has_col n cs = some (λ (c : Col). same_name n c.name) cs

-- names and values: a source with one of its rows

pub record Bound : Type 0 where
  pub alias : Name
  pub names : List Name
  pub values : List Value

abbrev pub Scope : Type 0
Scope = List Bound

unfoldable pub hits_in : Name → List Name → List Value → List Value
hits_in n [] vs = []
hits_in n (m ∷ ms) [] = []
hits_in n (m ∷ ms) (v ∷ vs) = cond (same_name n m) (v ∷ hits_in n ms vs) (hits_in n ms vs)

unfoldable pub hits : Name → Name → Scope → List Value
hits q n [] = []
hits q n (b ∷ bs) = cond (empty q || same_name q b.alias) (hits_in n b.names b.values) [] ++ hits q n bs

-- a name means the innermost query that has it
unfoldable pub lookup : Name → Name → List Scope → List Value
lookup q n [] = []
lookup q n (s ∷ ss) = cond (empty (hits q n s)) (lookup q n ss) (hits q n s)

abbrev pub bound_to : Source → Table → List Value → Bound
bound_to s t vs = record { alias = s.alias; names = map (λ (c : Col). c.name) t.cols; values = vs }

-- all ways to take a row from each source, in the order of the rows' numbers, the first source's slowest
unfoldable pub product : Db → List Source → List Scope
product db [] = [] ∷ []
product db (s ∷ ss) = each_of (λ (r : Row). map (λ (rest : Scope). bound_to s (find_table s.table db.tables) r.values ∷ rest) (product db ss)) (find_table s.table db.tables).rows

unfoldable pub nulls : Db → List Source → Scope
nulls db [] = []
nulls db (s ∷ ss) = bound_to s (find_table s.table db.tables) (map (λ (c : Col). Null) (find_table s.table db.tables).cols) ∷ nulls db ss

unfoldable pub head_or : Scope → List Scope → Scope
head_or d [] = d
head_or d (s ∷ ss) = s

unfoldable pub inner : Scope → List Scope → List Scope
inner r [] = r ∷ []
inner r (s ∷ ss) = r ∷ ss

-- groups, in the order of their first rows

unfoldable pub add_to : (Scope → List Value) → Scope → List (List Scope) → List (List Scope)
add_to f r [] = (r ∷ []) ∷ []
add_to f r ([] ∷ gs) = add_to f r gs
add_to f r ((x ∷ xs) ∷ gs) = cond (same_all (f r) (f x)) ((x ∷ xs ++ (r ∷ [])) ∷ gs) ((x ∷ xs) ∷ add_to f r gs)

unfoldable pub grouping : (Scope → List Value) → List Scope → List (List Scope) → List (List Scope)
grouping f [] gs = gs
grouping f (r ∷ rs) gs = grouping f rs (add_to f r gs)

-- sorting keeps the order of what is alike

pub record Keyed : Type 0 where
  pub keys : List Value
  pub out : List Value

unfoldable pub dirs : Keys → List Bool
dirs unsorted = []
dirs (key e d ks) = d ∷ dirs ks

unfoldable pub earlier : List Bool → List Value → List Value → Bool
earlier [] xs ys = false
earlier (d ∷ ds) [] ys = false
earlier (d ∷ ds) (x ∷ xs) [] = false
earlier (d ∷ ds) (x ∷ xs) (y ∷ ys) = cond d (less y x) (less x y) || (same x y && earlier ds xs ys)

unfoldable pub into : List Bool → Keyed → List Keyed → List Keyed
into ds x [] = x ∷ []
into ds x (y ∷ ys) = cond (earlier ds y.keys x.keys) (y ∷ into ds x ys) (x ∷ y ∷ ys)

unfoldable pub sorted : List Bool → List Keyed → List Keyed
sorted ds [] = []
sorted ds (x ∷ xs) = into ds x (sorted ds xs)

unfoldable pub once : List (List Value) → List (List Value) → List (List Value)
once seen [] = []
once seen (x ∷ xs) = cond (some (same_all x) seen) (once seen xs) (x ∷ once (x ∷ seen) xs)

unfoldable pub cut : Limit → List (List Value) → List (List Value)
cut all xs = xs
cut (up_to m s) xs = first m (without s xs)

abbrev pub finished : Bool → Limit → List Keyed → List (List Value)
finished d l ks = cut l (cond d (once [] (map (λ (k : Keyed). k.out) ks)) (map (λ (k : Keyed). k.out) ks))

unfoldable pub first_value : List (List Value) → Value
first_value [] = Null
first_value (r ∷ rs) = nth 0 r

unfoldable pub value_of : List Value → Value
value_of [] = Null
value_of (v ∷ vs) = v

unfoldable pub is_none : Exprs → Bool
is_none none = true
is_none (more e es) = false

-- the value of an expression: env, from the innermost query out, one row of each source; g, the rows of the group
unfoldable mutual
  pub value : Expr → Db → (env g : List Scope) → Value
  value (lit v) db env g = v
  value (col q n) db env g = value_of (lookup q n env)
  value (plus a b) db env g = arithmetic ◌+ℤ◌ (value a db env g) (value b db env g)
  value (minus a b) db env g = arithmetic ◌-ℤ◌ (value a db env g) (value b db env g)
  value (times a b) db env g = arithmetic ◌*ℤ◌ (value a db env g) (value b db env g)
  value (concat a b) db env g = joined (value a db env g) (value b db env g)
  value (negated a) db env g = arithmetic ◌-ℤ◌ (Num (pos 0)) (value a db env g)
  value (equal a b) db env g = compared same (value a db env g) (value b db env g)
  value (below a b) db env g = compared less (value a db env g) (value b db env g)
  value (at_most a b) db env g = compared (λ x y. not (less y x)) (value a db env g) (value b db env g)
  value (and a b) db env g = from_truth (and3 (truth (value a db env g)) (truth (value b db env g)))
  value (or a b) db env g = from_truth (not3 (and3 (not3 (truth (value a db env g))) (not3 (truth (value b db env g)))))
  value (not' a) db env g = from_truth (not3 (truth (value a db env g)))
  value (isnull a) db env g = from_bool (is_null (value a db env g))
  value row_count db env g = fits (pos (length g))
  value (aggregate k a) db env g = aggregated k (map (λ (r : Scope). value a db (inner r env) []) g)
  value (exists q) db env g = from_bool (not (empty (answer q db env)))
  value (scalar q) db env g = first_value (answer q db env)

  pub values : Exprs → Db → (env g : List Scope) → List Value
  values none db env g = []
  values (more e es) db env g = value e db env g ∷ values es db env g

  pub sort_keys : Keys → Db → (env g : List Scope) → List Value
  sort_keys unsorted db env g = []
  sort_keys (key e d ks) db env g = value e db env g ∷ sort_keys ks db env g

  pub answer : Query → Db → List Scope → List (List Value)
  answer (query d out from w grouped grp having ks l) db env =
      finished d l (sorted (dirs ks) (cond grouped
      (map (λ (g : List Scope). record { keys = sort_keys ks db (head_or (nulls db from) g ∷ env) g; out = values out db (head_or (nulls db from) g ∷ env) g })
      (keep (λ (g : List Scope). holds (truth (value having db (head_or (nulls db from) g ∷ env) g)))
      (cond (is_none grp) (keep (λ (r : Scope). holds (truth (value w db (r ∷ env) []))) (product db from) ∷ [])
      (grouping (λ (r : Scope). values grp db (r ∷ env) []) (keep (λ (r : Scope). holds (truth (value w db (r ∷ env) []))) (product db from)) []))))
      (map (λ (r : Scope). record { keys = sort_keys ks db (r ∷ env) []; out = values out db (r ∷ env) [] })
      (keep (λ (r : Scope). holds (truth (value w db (r ∷ env) []))) (product db from)))))
