-- Expressions, queries and statements, once they are read.
use Rattle.std.specs.Prelude.{ℕ, Bool, true, false, not, ◌&&◌, ◌||◌, List, [], ◌∷◌, length, ◌==◌}
use Rattle.meaning.specs.Value.{Value, Aggregate}

abbrev pub Name : Type 0
Name = List ℕ

-- a table of a query, under its alias there
pub record Source : Type 0 where
  pub table : Name
  pub alias : Name

pub data Limit : Type 0 where
  all : Limit
  up_to : (most skip : ℕ) → Limit

mutual
  -- col q n: column n of the source named q, or of any where q is empty
  pub data Expr : Type 0 where
    lit : Value → Expr
    col : Name → Name → Expr
    plus minus times concat : Expr → Expr → Expr
    negated : Expr → Expr
    equal below at_most : Expr → Expr → Expr
    and or : Expr → Expr → Expr
    not' : Expr → Expr
    isnull : Expr → Expr
    row_count : Expr
    aggregate : Aggregate → Expr → Expr
    exists : Query → Expr
    scalar : Query → Expr

  pub data Exprs : Type 0 where
    none : Exprs
    more : Expr → Exprs → Exprs

  pub data Keys : Type 0 where
    unsorted : Keys
    key : Expr → (down : Bool) → Keys → Keys

  pub data Query : Type 0 where
    query : (distinct : Bool) → Exprs → List Source → (wanted : Expr) → (grouped : Bool) → Exprs → (having : Expr) → Keys → Limit → Query

pub record Col : Type 0 where
  pub name : Name
  pub text : Bool
  pub must : Bool

pub record Set : Type 0 where
  pub col : Name
  pub to : Expr

pub data Statement : Type 0 where
  create_table : Name → List Col → Statement
  drop_table : Name → Statement
  create_index : (unique : Bool) → (name table : Name) → List Name → Statement
  drop_index : Name → Statement
  insert : Name → List Exprs → Statement
  insert_from : Name → Query → Statement
  update : Name → List Set → Expr → Statement
  delete : Name → Expr → Statement
  select : Query → Statement
  begin commit rollback : Statement
  savepoint rollback_to release : Name → Statement

-- whether an expression aggregates, outside queries of its own
unfoldable pub aggregates : Expr → Bool
aggregates (lit v) = false
aggregates (col q n) = false
aggregates (plus a b) = aggregates a || aggregates b
aggregates (minus a b) = aggregates a || aggregates b
aggregates (times a b) = aggregates a || aggregates b
aggregates (concat a b) = aggregates a || aggregates b
aggregates (negated a) = aggregates a
aggregates (equal a b) = aggregates a || aggregates b
aggregates (below a b) = aggregates a || aggregates b
aggregates (at_most a b) = aggregates a || aggregates b
aggregates (and a b) = aggregates a || aggregates b
aggregates (or a b) = aggregates a || aggregates b
aggregates (not' a) = aggregates a
aggregates (isnull a) = aggregates a
aggregates row_count = true
aggregates (aggregate g a) = true
aggregates (exists q) = false
aggregates (scalar q) = false

unfoldable pub aggregates_any : Exprs → Bool
aggregates_any none = false
aggregates_any (more e es) = aggregates e || aggregates_any es

unfoldable pub aggregates_key : Keys → Bool
aggregates_key unsorted = false
aggregates_key (key e d ks) = aggregates e || aggregates_key ks

-- the core of the language: no aggregates, no queries within queries, one table, nothing sorted or cut, no indexes, no savepoints
unfoldable pub plain : Expr → Bool
plain (lit v) = true
plain (col q n) = true
plain (plus a b) = plain a && plain b
plain (minus a b) = plain a && plain b
plain (times a b) = plain a && plain b
plain (concat a b) = plain a && plain b
plain (negated a) = plain a
plain (equal a b) = plain a && plain b
plain (below a b) = plain a && plain b
plain (at_most a b) = plain a && plain b
plain (and a b) = plain a && plain b
plain (or a b) = plain a && plain b
plain (not' a) = plain a
plain (isnull a) = plain a
plain row_count = false
plain (aggregate g a) = false
plain (exists q) = false
plain (scalar q) = false

unfoldable pub plains : Exprs → Bool
plains none = true
plains (more e es) = plain e && plains es

unfoldable pub sorts : Keys → Bool
sorts unsorted = false
sorts (key e d ks) = true

unfoldable pub limits : Limit → Bool
limits all = false
limits (up_to m s) = true

unfoldable pub every : {A : Type 0} → (A → Bool) → List A → Bool
every f [] = true
every f (x ∷ xs) = f x && every f xs

unfoldable pub core : Statement → Bool
core (create_table n cs) = true
core (drop_table n) = true
core (create_index u n t cs) = false
core (drop_index n) = false
core (insert n vs) = every plains vs
core (insert_from n q) = false
core (update n ss w) = every (λ s. plain s.to) ss && plain w
core (delete n w) = plain w
core (select (query d out from w g grp h ks l)) = not d && plains out && length from == 1 && plain w && not g && not (sorts ks) && not (limits l)
core begin = true
core commit = true
core rollback = true
core (savepoint n) = false
core (rollback_to n) = false
core (release n) = false
