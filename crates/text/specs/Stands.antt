-- What the nodes of a read statement stand for: a relation with the tree, by recursion on the tree.
use Rattle.std.specs.Prelude.{◌≡◌, ℕ, ◌<◌, false, List, [], ◌∷◌, pos, negsuc, Some, None, Option, slice_get}
use Rattle.meaning.specs.Value as value
use Rattle.meaning.specs.Value.{Value, Aggregate}
use Rattle.meaning.specs.Tree as tree
use Rattle.meaning.specs.Tree.{Name, Source, Limit, Expr, Exprs, Keys, Query, query, Col, Set, Statement}
use Rattle.text.specs.Cut.{part, name, undoubled}
use Rattle.text.specs.declared.nodes.Span.{Span}
use Rattle.text.specs.declared.nodes.Question.{Question}
use Rattle.text.specs.declared.nodes.Table as made_table
use Rattle.text.specs.declared.nodes.Col as made_col
use Rattle.text.specs.declared.nodes.Row as made_row
use Rattle.text.specs.declared.nodes.Set as made_set
use Rattle.text.specs.declared.nodes.Node.{Node}
use Rattle.text.specs.declared.nodes.Node.TheVariants as node
use Rattle.text.specs.declared.nodes.Op.{Op}
use Rattle.text.specs.declared.nodes.Op.TheVariants as op
use Rattle.text.specs.declared.nodes.Fold.{Fold}
use Rattle.text.specs.declared.nodes.Fold.TheVariants as fold
use Rattle.text.specs.declared.nodes.Nodes.{Nodes}
use Rattle.text.specs.declared.nodes.Statement as made
use Rattle.text.specs.declared.nodes.Statement.TheVariants as statement

-- the nodes that are taken
abbrev pub filled : Nodes → List Node
filled t = t.nodes.items

-- node i is k
abbrev pub At : List Node → ℕ → Node → Type 0
At f i k = slice_get f i ≡ Some k

abbrev pub folds : Fold → Aggregate
folds fold.Count = value.Count
folds fold.Sum = value.Sum
folds fold.Min = value.Min
folds fold.Max = value.Max

-- node i joins two others, below it
abbrev pub Pair : List Node → ℕ → Op → (ℕ → Type 0) → (ℕ → Type 0) → Type 0
Pair f i o P Q = (j : ℕ) × (k : ℕ) × At f i (node.Both o j k) × (j < i) × (k < i) × P j × Q k

abbrev pub Over : List Node → ℕ → (ℕ → Node) → (ℕ → Type 0) → Type 0
Over f i k P = (j : ℕ) × At f i (k j) × (j < i) × P j

-- what may be missing is below n
abbrev pub Under : Option ℕ → ℕ → Type 0
Under None n = Unit {0}
Under (Some i) n = i < n

-- an item of a list, and its rest
abbrev pub Next : List Node → Option ℕ → (ℕ → Option ℕ → Node) → (ℕ → Type 0) → (Option ℕ → Type 0) → Type 0
Next f o k P Q = (i : ℕ) × (j : ℕ) × (n : Option ℕ) × (o ≡ Some i) × At f i (k j n) × (j < i) × Under n i × P j × Q n

-- the nodes of a list, by what an item stands for (S), the nodes that it names (W), and the node that it is before the rest (k); no node stands for no list
abbrev pub StandsList : {A I : Type 0} → (List Node → A → I → Type 0) → (I → ℕ → Type 0) → (I → Option ℕ → Node) → List Node → List A → Option ℕ → Type 0
StandsList S W k f [] o = o ≡ None
StandsList S W k f (a ∷ as') o = (i : ℕ) × (x : _) × (n : Option ℕ) × (o ≡ Some i) × At f i (k x n) × W x i × Under n i × S f a x × StandsList S W k f as' n

-- an item that names no nodes
abbrev pub Alone : {I : Type 0} → I → ℕ → Type 0
Alone x n = Unit {0}

abbrev pub StandsSource : List ℕ → List Node → Source → made_table.Table → Type 0
StandsSource b f s x = (s.table ≡ name b x.name) × (s.alias ≡ name b x.alias)

abbrev pub StandsSources : List ℕ → List Node → List Source → Option ℕ → Type 0
StandsSources b f ss o = StandsList (StandsSource b) Alone node.Source f ss o

abbrev pub StandsLimit : List Node → Limit → Option ℕ → Type 0
StandsLimit f tree.all o = o ≡ None
StandsLimit f (tree.up_to m s) o = (i : ℕ) × (o ≡ Some i) × At f i (node.Limit m s)

-- the name of a source; none where it is not named
abbrev pub source_name : List ℕ → Option Span → Name
source_name b None = []
source_name b (Some s) = name b s

abbrev pub Literal : List ℕ → List Node → Value → ℕ → Type 0
Literal b f value.Null i = At f i node.Null
Literal b f (value.Num (pos n)) i = At f i (node.Number n)
Literal b f (value.Num (negsuc n)) i = ⊥
Literal b f (value.Text t) i = (s : Span) × At f i (node.Text s) × (t ≡ undoubled false (part b s))

-- the parts of a query are below it
abbrev pub Lower : ℕ → Question → Type 0
Lower i w = (w.out < i) × (w.from < i) × (w.wanted < i) × Under w.groups i × (w.having < i) × Under w.keys i × Under w.limit i

abbrev mutual
  -- node i stands for an expression, over the statement's bytes
  pub Stands : List ℕ → List Node → Expr → ℕ → Type 0
  Stands b f (tree.lit v) i = Literal b f v i
  Stands b f (tree.col q n) i = (s : Option Span) × (t : Span) × At f i (node.Column s t) × (q ≡ source_name b s) × (n ≡ name b t)
  Stands b f (tree.plus x y) i = Pair f i op.Plus (Stands b f x) (Stands b f y)
  Stands b f (tree.minus x y) i = Pair f i op.Minus (Stands b f x) (Stands b f y)
  Stands b f (tree.times x y) i = Pair f i op.Times (Stands b f x) (Stands b f y)
  Stands b f (tree.concat x y) i = Pair f i op.Concat (Stands b f x) (Stands b f y)
  Stands b f (tree.negated x) i = Over f i node.Negated (Stands b f x)
  Stands b f (tree.equal x y) i = Pair f i op.Equal (Stands b f x) (Stands b f y)
  Stands b f (tree.below x y) i = Pair f i op.Below (Stands b f x) (Stands b f y)
  Stands b f (tree.at_most x y) i = Pair f i op.AtMost (Stands b f x) (Stands b f y)
  Stands b f (tree.and x y) i = Pair f i op.And (Stands b f x) (Stands b f y)
  Stands b f (tree.or x y) i = Pair f i op.Or (Stands b f x) (Stands b f y)
  Stands b f (tree.not' x) i = Over f i node.Not (Stands b f x)
  Stands b f (tree.isnull x) i = Over f i node.IsNull (Stands b f x)
  Stands b f tree.row_count i = At f i node.RowCount
  Stands b f (tree.aggregate g x) i = (h : Fold) × (folds h ≡ g) × Over f i (node.Folded h) (Stands b f x)
  Stands b f (tree.exists q) i = Over f i node.Exists (StandsQuery b f q)
  Stands b f (tree.scalar q) i = Over f i node.Scalar (StandsQuery b f q)

  pub StandsExprs : List ℕ → List Node → Exprs → Option ℕ → Type 0
  StandsExprs b f tree.none o = o ≡ None
  StandsExprs b f (tree.more e es) o = Next f o node.Item (Stands b f e) (StandsExprs b f es)

  pub StandsKeys : List ℕ → List Node → Keys → Option ℕ → Type 0
  StandsKeys b f tree.unsorted o = o ≡ None
  StandsKeys b f (tree.key e d ks) o = Next f o (λ j n. node.Key (record { by = j; down = d }) n) (Stands b f e) (StandsKeys b f ks)

  pub StandsQuery : List ℕ → List Node → Query → ℕ → Type 0
  StandsQuery b f (query d es from c g grp h ks l) i =
      (w : Question) × At f i (node.Query w) × (w.distinct ≡ d) × (w.grouped ≡ g) × Lower i w × StandsExprs b f es (Some w.out) × StandsSources b f from (Some w.from) × Stands b f c w.wanted
      × StandsExprs b f grp w.groups × Stands b f h w.having × StandsKeys b f ks w.keys × StandsLimit f l w.limit

abbrev pub StandsCol : List ℕ → List Node → Col → made_col.Col → Type 0
StandsCol b f c x = (c.name ≡ name b x.name) × (c.text ≡ x.text) × (c.must ≡ x.must)

abbrev pub StandsCols : List ℕ → List Node → List Col → Option ℕ → Type 0
StandsCols b f cs o = StandsList (StandsCol b) Alone node.Col f cs o

abbrev pub StandsName : List ℕ → List Node → Name → Span → Type 0
StandsName b f n x = n ≡ name b x

abbrev pub StandsNames : List ℕ → List Node → List Name → Option ℕ → Type 0
StandsNames b f cs o = StandsList (StandsName b) Alone node.Name f cs o

abbrev pub RowWithin : made_row.Row → ℕ → Type 0
RowWithin x n = x.first < n

abbrev pub StandsRow : List ℕ → List Node → Exprs → made_row.Row → Type 0
StandsRow b f r x = StandsExprs b f r (Some x.first)

abbrev pub StandsRows : List ℕ → List Node → List Exprs → Option ℕ → Type 0
StandsRows b f rs o = StandsList (StandsRow b) RowWithin node.Row f rs o

abbrev pub SetWithin : made_set.Set → ℕ → Type 0
SetWithin x n = x.to < n

abbrev pub StandsSet : List ℕ → List Node → Set → made_set.Set → Type 0
StandsSet b f s x = (s.col ≡ name b x.col) × Stands b f s.to x.to

abbrev pub StandsSets : List ℕ → List Node → List Set → Option ℕ → Type 0
StandsSets b f ss o = StandsList (StandsSet b) SetWithin node.Set f ss o

-- a read statement stands for a statement of the grammar
abbrev pub StandsFor : List ℕ → List Node → Statement → made.Statement → Type 0
StandsFor b f (tree.create_table n cs) s = (t : Span) × (i : ℕ) × (s ≡ statement.CreateTable t i) × (n ≡ name b t) × StandsCols b f cs (Some i)
StandsFor b f (tree.drop_table n) s = (t : Span) × (s ≡ statement.DropTable t) × (n ≡ name b t)
StandsFor b f (tree.create_index u n m ns) s = (t : Span) × (o : Span) × (i : ℕ) × (s ≡ statement.CreateIndex u t o i) × (n ≡ name b t) × (m ≡ name b o) × StandsNames b f ns (Some i)
StandsFor b f (tree.drop_index n) s = (t : Span) × (s ≡ statement.DropIndex t) × (n ≡ name b t)
StandsFor b f (tree.insert n rs) s = (t : Span) × (i : ℕ) × (s ≡ statement.Insert t i) × (n ≡ name b t) × StandsRows b f rs (Some i)
StandsFor b f (tree.insert_from n q) s = (t : Span) × (i : ℕ) × (s ≡ statement.InsertFrom t i) × (n ≡ name b t) × StandsQuery b f q i
StandsFor b f (tree.update n ss c) s = (t : Span) × (i : ℕ) × (j : ℕ) × (s ≡ statement.Update t i j) × (n ≡ name b t) × StandsSets b f ss (Some i) × Stands b f c j
StandsFor b f (tree.delete n c) s = (t : Span) × (j : ℕ) × (s ≡ statement.Delete t j) × (n ≡ name b t) × Stands b f c j
StandsFor b f (tree.select q) s = (i : ℕ) × (s ≡ statement.Select i) × StandsQuery b f q i
StandsFor b f tree.begin s = s ≡ statement.Begin
StandsFor b f tree.commit s = s ≡ statement.Commit
StandsFor b f tree.rollback s = s ≡ statement.Rollback
StandsFor b f (tree.savepoint n) s = (t : Span) × (s ≡ statement.Savepoint t) × (n ≡ name b t)
StandsFor b f (tree.rollback_to n) s = (t : Span) × (s ≡ statement.RollbackTo t) × (n ≡ name b t)
StandsFor b f (tree.release n) s = (t : Span) × (s ≡ statement.Release t) × (n ≡ name b t)
