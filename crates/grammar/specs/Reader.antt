-- The reader as a function of the tokens. Expressions are read by climbing: an operand, then whatever joins it at a level that is wanted.
-- The number of turns falls at each call; one more than there are tokens is enough.
use Rattle.std.specs.Prelude.{ℕ, zero, suc, Bool, true, false, cond, ◌&&◌, ◌||◌, List, [], ◌∷◌, pos, ◌==◌, nat_le, nat_lt}
use Rattle.meaning.specs.Value.{Null, Num, Text, Aggregate, Count, Sum, Min, Max}
use Rattle.meaning.specs.Tree as tree
use Rattle.meaning.specs.Tree.{Name, Source, Limit, all, up_to, Expr, Exprs, Keys, Query, query, Col, Set, Statement, aggregates_any, aggregates_key}
use Rattle.meaning.specs.Meaning.{same_name}
use Rattle.meaning.specs.Text.{Token, Word, Number, Quoted, Sign, Wrong, plain_name, at_most_sign, differs_sign, joined_sign, at_least_sign, k_select, k_distinct, k_from, k_where, k_group, k_by, k_having, k_order, k_asc, k_desc, k_limit, k_offset, k_and, k_or, k_not, k_is, k_null, k_exists, k_count, k_sum, k_min, k_max, k_create, k_table, k_unique, k_index, k_on, k_drop, k_insert, k_into, k_values, k_update, k_set, k_delete, k_begin, k_commit, k_rollback, k_to, k_savepoint, k_release, k_int, k_text}

-- what is read at the front, and the tokens after it
pub data Got (A : Type 0) : Type 0 where
  refuses : Got A
  gets : A → List Token → Got A

abbrev pub Reader : Type 0 → Type 0
Reader A = List Token → Got A

-- one reader after another
abbrev pub and_then : {A B : Type 0} → Got A → (A → Reader B) → Got B
and_then refuses k = refuses
and_then (gets a ts) k = k a ts

-- by whether the first token passes a test: one reader after it, or another from it on
unfoldable pub choose : {A : Type 0} → (Token → Bool) → Reader A → Reader A → Reader A
choose p y n [] = n []
choose p y n (t ∷ ts) = cond (p t) (y ts) (n (t ∷ ts))

-- the first token passes a test
abbrev pub head_is : (Token → Bool) → List Token → Bool
head_is p [] = false
head_is p (t ∷ ts) = p t

abbrev pub tail_of : List Token → List Token
tail_of [] = []
tail_of (t ∷ ts) = ts

abbrev pub refuse : {A : Type 0} → Reader A
refuse ts = refuses

-- a token that has to stand there
abbrev pub past : {A : Type 0} → (Token → Bool) → Reader A → Reader A
past p k ts = choose p k refuse ts

unfoldable pub is_sign : ℕ → Token → Bool
is_sign b (Word n) = false
is_sign b (Number n) = false
is_sign b (Quoted n) = false
is_sign b (Sign n) = n == b
is_sign b Wrong = false

unfoldable pub is_word : Name → Token → Bool
is_word b (Word n) = same_name n b
is_word b (Number n) = false
is_word b (Quoted n) = false
is_word b (Sign n) = false
is_word b Wrong = false

-- a word that is no keyword
unfoldable pub a_name : Reader Name
a_name [] = refuses
a_name (Word n ∷ ts) = cond (plain_name n) (gets n ts) refuses
a_name (Number n ∷ ts) = refuses
a_name (Quoted n ∷ ts) = refuses
a_name (Sign n ∷ ts) = refuses
a_name (Wrong ∷ ts) = refuses

-- a number below 2^63
unfoldable pub a_number : Reader ℕ
a_number [] = refuses
a_number (Word n ∷ ts) = refuses
a_number (Number n ∷ ts) = cond (nat_lt n 9223372036854775808) (gets n ts) refuses
a_number (Quoted n ∷ ts) = refuses
a_number (Sign n ∷ ts) = refuses
a_number (Wrong ∷ ts) = refuses

-- an item, and with a comma after it the rest of the list
abbrev pub listed : {A : Type 0} → Reader A → Reader (List A) → Reader (List A)
listed item rest ts = and_then (item ts) (λ a us. choose (is_sign 44) (λ vs. and_then (rest vs) (λ as' ws. gets (a ∷ as') ws)) (gets (a ∷ [])) us)

unfoldable pub list_of : {A : Type 0} → Reader A → ℕ → Reader (List A)
list_of item zero ts = refuses
list_of item (suc f) ts = listed item (list_of item f) ts

unfoldable pub to_exprs : List Expr → Exprs
to_exprs [] = tree.none
to_exprs (e ∷ es) = tree.more e (to_exprs es)

-- a key to sort by: the expression, and whether downwards
pub record Key : Type 0 where
  pub by : Expr
  pub down : Bool

unfoldable pub to_keys : List Key → Keys
to_keys [] = tree.unsorted
to_keys (k ∷ ks) = tree.key k.by k.down (to_keys ks)

-- how a token goes on after an expression: not at all; by a test for null; by an operator of a level, whose left side is of a level of its own
pub data Joint : Type 0 where
  ends : Joint
  tests : Joint
  joins : (level left : ℕ) → (Expr → Expr → Expr) → Joint

pub record Operator : Type 0 where
  pub sign : Token → Bool
  pub level : ℕ
  pub left : ℕ
  pub op : Expr → Expr → Expr

abbrev pub operator : (Token → Bool) → ℕ → ℕ → (Expr → Expr → Expr) → Operator
operator p n l o = record { sign = p; level = n; left = l; op = o }

abbrev pub operators : List Operator
operators =
    operator (is_word k_or) 0 0 tree.or ∷ operator (is_word k_and) 1 1 tree.and
    ∷ operator (is_sign 61) 3 4 tree.equal ∷ operator (is_sign differs_sign) 3 4 (λ a b. tree.not' (tree.equal a b))
    ∷ operator (is_sign 60) 3 4 tree.below ∷ operator (is_sign 62) 3 4 (λ a b. tree.below b a)
    ∷ operator (is_sign at_most_sign) 3 4 tree.at_most ∷ operator (is_sign at_least_sign) 3 4 (λ a b. tree.at_most b a)
    ∷ operator (is_sign 43) 4 4 tree.plus ∷ operator (is_sign 45) 4 4 tree.minus ∷ operator (is_sign joined_sign) 4 4 tree.concat
    ∷ operator (is_sign 42) 5 5 tree.times ∷ []

unfoldable pub joint_in : List Operator → Token → Joint
joint_in [] t = ends
joint_in (o ∷ os) t = cond (o.sign t) (joins o.level o.left o.op) (joint_in os t)

unfoldable pub joint : Token → Joint
joint t = cond (is_word k_is t) tests (joint_in operators t)

-- an expression with the level that it is of
pub record Part : Type 0 where
  pub level : ℕ
  pub it : Expr

abbrev pub part : ℕ → Expr → Part
part n e = record { level = n; it = e }

abbrev pub one : Expr
one = tree.lit (Num (pos 1))

-- The parts of the reader, over what reads an expression of a level (x), what goes on after one (m), lists of expressions (xs) and of keys (ks).
abbrev pub Level : Type 0
Level = ℕ → Reader Expr

abbrev pub More : Type 0
More = ℕ → Part → Reader Expr

-- is null, is not null
abbrev pub null_test : Reader Bool
null_test ts = choose (is_word k_not) (past (is_word k_null) (gets true)) (past (is_word k_null) (gets false)) ts

abbrev pub tested : Bool → Expr → Expr
tested b a = cond b (tree.not' (tree.isnull a)) (tree.isnull a)

unfoldable pub goes : Level → More → ℕ → Part → Token → List Token → Joint → Got Expr
goes x m k a t ts ends = gets a.it (t ∷ ts)
goes x m k a t ts tests = cond (nat_le k 3 && nat_le 4 a.level) (and_then (null_test ts) (λ b us. m k (part 3 (tested b a.it)) us)) (gets a.it (t ∷ ts))
goes x m k a t ts (joins n l op) = cond (nat_le k n && nat_le l a.level) (and_then (x (suc n) ts) (λ b us. m k (part n (op a.it b)) us)) (gets a.it (t ∷ ts))

unfoldable pub more_of : Level → More → More
more_of x m k a [] = gets a.it []
more_of x m k a (t ∷ ts) = goes x m k a t ts (joint t)

-- an expression after a word, or what stands for it
abbrev pub condition : Name → Level → Reader Expr
condition w x ts = choose (is_word w) (x 0) (gets one) ts

-- a table, and its alias where a name stands after it
abbrev pub called : Name → List Token → Got Name → Got Source
called n us refuses = gets (record { table = n; alias = n }) us
called n us (gets a vs) = gets (record { table = n; alias = a }) vs

abbrev pub a_source : Reader Source
a_source ts = and_then (a_name ts) (λ n us. called n us (a_name us))

abbrev pub sources : ℕ → Reader (List Source)
sources f = list_of a_source f

pub record Groups : Type 0 where
  pub are : Bool
  pub by : List Expr
  pub having : Expr

abbrev pub groups : Level → Reader (List Expr) → Reader Groups
groups x xs ts = choose (is_word k_group) (past (is_word k_by) (λ us. and_then (xs us) (λ es vs. and_then (condition k_having x vs) (λ h ws. gets (record { are = true; by = es; having = h }) ws))))
    (gets (record { are = false; by = []; having = one })) ts

abbrev pub direction : Reader Bool
direction ts = choose (is_word k_asc) (gets false) (choose (is_word k_desc) (gets true) (gets false)) ts

abbrev pub a_key : Reader Expr → Reader Key
a_key x ts = and_then (x ts) (λ e us. and_then (direction us) (λ d vs. gets (record { by = e; down = d }) vs))

abbrev pub orders : Reader (List Key) → Reader (List Key)
orders ks ts = choose (is_word k_order) (past (is_word k_by) ks) (gets []) ts

abbrev pub limits : Reader Limit
limits ts = choose (is_word k_limit) (λ us. and_then (a_number us) (λ n vs. choose (is_word k_offset) (λ ws. and_then (a_number ws) (λ m zs. gets (up_to n m) zs)) (gets (up_to n 0)) vs)) (gets all) ts

abbrev pub asked : Bool → List Expr → List Source → Expr → Groups → List Key → Limit → Query
asked d es from c g ks l = query d (to_exprs es) from c (g.are || aggregates_any (to_exprs es) || aggregates_key (to_keys ks)) (to_exprs g.by) g.having (to_keys ks) l

-- what stands after the sources of a query
unfoldable pub filtered : Level → Reader (List Expr) → Reader (List Key) → Bool → List Expr → List Source → Reader Query
filtered x xs ks d es from ts =
    and_then (condition k_where x ts) (λ c us. and_then (groups x xs us) (λ g vs. and_then (orders ks vs) (λ o ws. and_then (limits ws) (λ l zs. gets (asked d es from c g o l) zs))))

unfoldable pub question : Level → Reader (List Expr) → Reader (List Key) → ℕ → Reader Query
question x xs ks f ts =
    past (is_word k_select) (λ us. and_then (choose (is_word k_distinct) (gets true) (gets false) us) (λ d vs. and_then (xs vs) (λ es ws.
    past (is_word k_from) (λ ys. and_then (sources f ys) (λ from zs. filtered x xs ks d es from zs)) ws))) ts

abbrev pub single : Exprs → Bool
single tree.none = false
single (tree.more e tree.none) = true
single (tree.more e (tree.more d es)) = false

abbrev pub one_column : Query → Bool
one_column (query d es from c g grp h ks l) = single es

-- after an opening bracket: a query of one column, or an expression
unfoldable pub bracket : Level → Reader (List Expr) → Reader (List Key) → ℕ → Reader Part
bracket x xs ks f ts = choose (is_word k_select) (λ us. and_then (question x xs ks f ts) (λ q vs. past (is_sign 41) (λ ws. cond (one_column q) (gets (part 7 (tree.scalar q)) ws) refuses) vs))
    (λ us. and_then (x 0 us) (λ a vs. past (is_sign 41) (gets (part 7 a)) vs)) ts

abbrev pub folded : Aggregate → Level → Reader Part
folded g x ts = and_then (x 0 ts) (λ a us. past (is_sign 41) (gets (part 7 (tree.aggregate g a))) us)

abbrev pub negation : ℕ → Level → Reader Part
negation k x ts = cond (nat_le k 2) (and_then (x 2 ts) (λ a vs. gets (part 2 (tree.not' a)) vs)) refuses

abbrev pub existence : Level → Reader (List Expr) → Reader (List Key) → ℕ → Reader Part
existence x xs ks f ts = past (is_sign 40) (λ us. and_then (question x xs ks f us) (λ q vs. past (is_sign 41) (gets (part 7 (tree.exists q))) vs)) ts

abbrev pub counted : Level → Reader Part
counted x ts = past (is_sign 40) (choose (is_sign 42) (past (is_sign 41) (gets (part 7 tree.row_count))) (folded Count x)) ts

-- what begins with a keyword
unfoldable pub keyed : Level → Reader (List Expr) → Reader (List Key) → ℕ → ℕ → Reader Part
keyed x xs ks f k ts =
    choose (is_word k_null) (gets (part 7 (tree.lit Null)))
    (choose (is_word k_not) (negation k x)
    (choose (is_word k_exists) (existence x xs ks f)
    (choose (is_word k_count) (counted x)
    (choose (is_word k_sum) (past (is_sign 40) (folded Sum x))
    (choose (is_word k_min) (past (is_sign 40) (folded Min x))
    (choose (is_word k_max) (past (is_sign 40) (folded Max x)) refuse)))))) ts

-- a column, alone or of a source
abbrev pub column : Name → Reader Part
column n ts = choose (is_sign 46) (λ us. and_then (a_name us) (λ m vs. gets (part 7 (tree.col n m)) vs)) (gets (part 7 (tree.col [] n))) ts

unfoldable pub operand : Level → Reader (List Expr) → Reader (List Key) → ℕ → ℕ → Reader Part
operand x xs ks f k [] = refuses
operand x xs ks f k (Word n ∷ ts) = cond (plain_name n) (column n ts) (keyed x xs ks f k (Word n ∷ ts))
operand x xs ks f k (Number n ∷ ts) = cond (nat_lt n 9223372036854775808) (gets (part 7 (tree.lit (Num (pos n)))) ts) refuses
operand x xs ks f k (Quoted t ∷ ts) = gets (part 7 (tree.lit (Text t))) ts
operand x xs ks f k (Sign b ∷ ts) = cond (b == 40) (bracket x xs ks f ts) (cond (b == 45) (and_then (x 6 ts) (λ a us. gets (part 6 (tree.negated a)) us)) refuses)
operand x xs ks f k (Wrong ∷ ts) = refuses

unfoldable mutual
  -- an expression of level k
  pub expr : ℕ → ℕ → List Token → Got Expr
  expr zero k ts = refuses
  expr (suc f) k ts = and_then (operand (expr f) (exprs f) (keys f) f k ts) (more f k)

  -- what joins a part that has been read, at level k or deeper
  pub more : ℕ → ℕ → Part → List Token → Got Expr
  more zero k a ts = refuses
  more (suc f) k a ts = more_of (expr f) (more f) k a ts

  pub exprs : ℕ → List Token → Got (List Expr)
  exprs zero ts = refuses
  exprs (suc f) ts = listed (expr f 0) (exprs f) ts

  pub keys : ℕ → List Token → Got (List Key)
  keys zero ts = refuses
  keys (suc f) ts = listed (a_key (expr f 0)) (keys f) ts

abbrev pub asks : ℕ → Reader Query
asks f ts = question (expr f) (exprs f) (keys f) f ts

-- the parts of the other statements
abbrev pub must : Reader Bool
must ts = choose (is_word k_not) (past (is_word k_null) (gets true)) (gets false) ts

abbrev pub a_col : Reader Col
a_col ts = and_then (a_name ts) (λ n us. choose (is_word k_int) (λ vs. and_then (must vs) (λ b ws. gets (record { name = n; text = false; must = b }) ws))
    (past (is_word k_text) (λ vs. and_then (must vs) (λ b ws. gets (record { name = n; text = true; must = b }) ws))) us)

abbrev pub a_row : ℕ → Reader Exprs
a_row f ts = past (is_sign 40) (λ us. and_then (exprs f us) (λ es vs. past (is_sign 41) (gets (to_exprs es)) vs)) ts

abbrev pub a_set : ℕ → Reader Set
a_set f ts = and_then (a_name ts) (λ n us. past (is_sign 61) (λ vs. and_then (expr f 0 vs) (λ e ws. gets (record { col = n; to = e }) ws)) us)

abbrev pub named : (Name → Statement) → Reader Statement
named st ts = and_then (a_name ts) (λ n us. gets (st n) us)

-- a list in brackets
abbrev pub in_brackets : {A : Type 0} → Reader (List A) → (List A → Statement) → Reader Statement
in_brackets l st ts = past (is_sign 40) (λ us. and_then (l us) (λ as' vs. past (is_sign 41) (gets (st as')) vs)) ts

abbrev pub create_table : ℕ → Reader Statement
create_table f ts = and_then (a_name ts) (λ n us. in_brackets (list_of a_col f) (tree.create_table n) us)

abbrev pub create_index : ℕ → Bool → Reader Statement
create_index f u ts = and_then (a_name ts) (λ n us. past (is_word k_on) (λ vs. and_then (a_name vs) (λ t ws. in_brackets (list_of a_name f) (tree.create_index u n t) ws)) us)

unfoldable pub create : ℕ → Reader Statement
create f ts = choose (is_word k_table) (create_table f) (choose (is_word k_index) (create_index f false) (past (is_word k_unique) (past (is_word k_index) (create_index f true)))) ts

unfoldable pub drop : Reader Statement
drop ts = choose (is_word k_table) (named tree.drop_table) (past (is_word k_index) (named tree.drop_index)) ts

unfoldable pub insert : ℕ → Reader Statement
insert f ts = past (is_word k_into) (λ us. and_then (a_name us) (λ n vs. choose (is_word k_values) (λ ws. and_then (list_of (a_row f) f ws) (λ rs zs. gets (tree.insert n rs) zs)) (λ ws. and_then (asks f ws) (λ q zs. gets (tree.insert_from n q) zs)) vs)) ts

unfoldable pub update : ℕ → Reader Statement
update f ts = and_then (a_name ts) (λ n us. past (is_word k_set) (λ vs. and_then (list_of (a_set f) f vs) (λ ss ws. and_then (condition k_where (expr f) ws) (λ c zs. gets (tree.update n ss c) zs))) us)

unfoldable pub delete : ℕ → Reader Statement
delete f ts = past (is_word k_from) (λ us. and_then (a_name us) (λ n vs. and_then (condition k_where (expr f) vs) (λ c ws. gets (tree.delete n c) ws))) ts

abbrev pub rollback : Reader Statement
rollback ts = choose (is_word k_to) (named tree.rollback_to) (gets tree.rollback) ts

-- any statement, by its first word
unfoldable pub statement : ℕ → Reader Statement
statement f ts =
    choose (is_word k_create) (create f) (choose (is_word k_drop) drop (choose (is_word k_insert) (insert f) (choose (is_word k_update) (update f) (choose (is_word k_delete) (delete f)
    (choose (is_word k_begin) (gets tree.begin) (choose (is_word k_commit) (gets tree.commit) (choose (is_word k_rollback) rollback (choose (is_word k_savepoint) (named tree.savepoint) (choose (is_word k_release) (named tree.release)
    (λ us. and_then (asks f us) (λ q vs. gets (tree.select q) vs))))))))))) ts
