-- Nodes that are pushed keep what the others stand for. Assumes nothing.
use Rattle.std.proofs.Common.{◌≡◌, ℕ, ◌+◌, ◌<◌, ◌≤◌, Bool, true, false, ◌||◌, List, [], ◌∷◌, ◌++◌, length, pos, negsuc, Some, None, Option, slice_get, sym, refl, ap, ◌∙◌, append_assoc, append-nil, arith, length-append}
use Rattle.std.proofs.Math.ListN.{get_or-append}
use Rattle.std.proofs.Math.Seq.{get_or-append_seam}
use Rattle.std.proofs.lemmas.Option.{slice_get_within, slice_get-get_or, get_or_from_slice_get}
use Rattle.std.proofs.lemmas.List.{length_push}
use Rattle.meaning.specs.Value as value
use Rattle.meaning.specs.Value.{Value}
use Rattle.meaning.specs.Tree as tree
use Rattle.meaning.specs.Tree.{Source, Limit, Expr, Exprs, Keys, Query, query, Col, Set, Name, aggregates}
use Rattle.text.specs.Stands.{filled, At, Pair, Under, Stands, StandsExprs, StandsKeys, StandsQuery, StandsSources, StandsLimit, Literal, StandsCols, StandsNames, StandsRows, StandsSets}
use Rattle.text.specs.Found.{Grown, Pushed, makes}
use Rattle.text.specs.declared.nodes.Node.{Node}
use Rattle.text.specs.declared.nodes.Node.TheVariants as node
use Rattle.text.specs.declared.nodes.Op.{Op}
use Rattle.text.specs.declared.nodes.Nodes.{Nodes}
use Rattle.text.specs.declared.words.Infix.{Infix}
use Rattle.text.specs.declared.words.Infix.TheVariants as ix

get-append : {A : Type 0} (xs ys : List A) (i : ℕ) {x : A} → slice_get xs i ≡ Some x → slice_get (xs ++ ys) i ≡ Some x
get-append xs ys i {x} h =
    let l = slice_get_within xs i x h in
    slice_get-get_or (xs ++ ys) i x (omega (arith, l, length-append xs ys)) ∙ ap Some (get_or-append xs ys x i l ∙ get_or_from_slice_get xs i x x h)

get-push : {A : Type 0} (xs : List A) (x : A) → slice_get (xs ++ x ∷ []) (length xs) ≡ Some x
get-push xs x = slice_get-get_or (xs ++ x ∷ []) (length xs) x (omega (arith, length_push xs x)) ∙ ap Some (get_or-append_seam xs x [] x)

module _ (f h : List Node) (up : Grown f h) where
  pub at-kept : (i : ℕ) (k : Node) → At f i k → At h i k
  at-kept i k e = ap (λ v. slice_get v i) up.1 ∙ get-append f up.0 i e

-- a list of tables keeps what it stands for
pub sources-kept : (b : List ℕ) (ss : List Source) (f h : List Node) → Grown f h → (o : Option ℕ) → StandsSources b f ss o → StandsSources b h ss o
sources-kept b [] f h up o s = s
sources-kept b (x ∷ ss) f h up o s = (s.0, s.1, s.2, s.3, at-kept f h up _ _ s.4, s.5, s.6, s.7, sources-kept b ss f h up _ s.8)

pub limit-kept : (l : Limit) (f h : List Node) → Grown f h → (o : Option ℕ) → StandsLimit f l o → StandsLimit h l o
limit-kept tree.all f h up o s = s
limit-kept (tree.up_to m k) f h up o s = (s.0, s.1, at-kept f h up _ _ s.2)

literal-kept : (b : List ℕ) (v : Value) (f h : List Node) → Grown f h → (i : ℕ) → Literal b f v i → Literal b h v i
literal-kept b value.Null f h up i s = at-kept f h up i _ s
literal-kept b (value.Num (pos n)) f h up i s = at-kept f h up i _ s
literal-kept b (value.Num (negsuc n)) f h up i s = s
literal-kept b (value.Text t) f h up i s = (s.0, at-kept f h up i _ s.1, s.2)

mutual
  pub kept : (b : List ℕ) (e : Expr) (f h : List Node) → Grown f h → (i : ℕ) → Stands b f e i → Stands b h e i
  kept b (tree.lit v) f h up i s = literal-kept b v f h up i s
  kept b (tree.col q n) f h up i s = (s.0, s.1, at-kept f h up i _ s.2, s.3, s.4)
  kept b (tree.plus x y) f h up i s = (s.0, s.1, at-kept f h up i _ s.2, s.3, s.4, kept b x f h up _ s.5, kept b y f h up _ s.6)
  kept b (tree.minus x y) f h up i s = (s.0, s.1, at-kept f h up i _ s.2, s.3, s.4, kept b x f h up _ s.5, kept b y f h up _ s.6)
  kept b (tree.times x y) f h up i s = (s.0, s.1, at-kept f h up i _ s.2, s.3, s.4, kept b x f h up _ s.5, kept b y f h up _ s.6)
  kept b (tree.concat x y) f h up i s = (s.0, s.1, at-kept f h up i _ s.2, s.3, s.4, kept b x f h up _ s.5, kept b y f h up _ s.6)
  kept b (tree.negated x) f h up i s = (s.0, at-kept f h up i _ s.1, s.2, kept b x f h up _ s.3)
  kept b (tree.equal x y) f h up i s = (s.0, s.1, at-kept f h up i _ s.2, s.3, s.4, kept b x f h up _ s.5, kept b y f h up _ s.6)
  kept b (tree.below x y) f h up i s = (s.0, s.1, at-kept f h up i _ s.2, s.3, s.4, kept b x f h up _ s.5, kept b y f h up _ s.6)
  kept b (tree.at_most x y) f h up i s = (s.0, s.1, at-kept f h up i _ s.2, s.3, s.4, kept b x f h up _ s.5, kept b y f h up _ s.6)
  kept b (tree.and x y) f h up i s = (s.0, s.1, at-kept f h up i _ s.2, s.3, s.4, kept b x f h up _ s.5, kept b y f h up _ s.6)
  kept b (tree.or x y) f h up i s = (s.0, s.1, at-kept f h up i _ s.2, s.3, s.4, kept b x f h up _ s.5, kept b y f h up _ s.6)
  kept b (tree.not' x) f h up i s = (s.0, at-kept f h up i _ s.1, s.2, kept b x f h up _ s.3)
  kept b (tree.isnull x) f h up i s = (s.0, at-kept f h up i _ s.1, s.2, kept b x f h up _ s.3)
  kept b tree.row_count f h up i s = at-kept f h up i _ s
  kept b (tree.aggregate g x) f h up i s = (s.0, s.1, (s.2.0, at-kept f h up i _ s.2.1, s.2.2, kept b x f h up _ s.2.3))
  kept b (tree.exists q) f h up i s = (s.0, at-kept f h up i _ s.1, s.2, query-kept b q f h up _ s.3)
  kept b (tree.scalar q) f h up i s = (s.0, at-kept f h up i _ s.1, s.2, query-kept b q f h up _ s.3)

  pub exprs-kept : (b : List ℕ) (es : Exprs) (f h : List Node) → Grown f h → (o : Option ℕ) → StandsExprs b f es o → StandsExprs b h es o
  exprs-kept b tree.none f h up o s = s
  exprs-kept b (tree.more e es) f h up o s = (s.0, s.1, s.2, s.3, at-kept f h up _ _ s.4, s.5, s.6, kept b e f h up _ s.7, exprs-kept b es f h up _ s.8)

  pub keys_kept : (b : List ℕ) (es : Keys) (f h : List Node) → Grown f h → (o : Option ℕ) → StandsKeys b f es o → StandsKeys b h es o
  keys_kept b tree.unsorted f h up o s = s
  keys_kept b (tree.key e d es) f h up o s = (s.0, s.1, s.2, s.3, at-kept f h up _ _ s.4, s.5, s.6, kept b e f h up _ s.7, keys_kept b es f h up _ s.8)

  pub query-kept : (b : List ℕ) (q : Query) (f h : List Node) → Grown f h → (i : ℕ) → StandsQuery b f q i → StandsQuery b h q i
  query-kept b (query d es from c g grp hv ks l) f h up i s = (s.0, at-kept f h up i _ s.1, s.2, s.3, s.4, exprs-kept b es f h up _ s.5, sources-kept b from f h up _ s.6, kept b c f h up _ s.7, exprs-kept b grp f h up _ s.8, kept b hv f h up _ s.9, keys_kept b ks f h up _ s.10, limit-kept l f h up _ s.11)

-- the other lists keep what they stand for
pub cols-kept : (b : List ℕ) (cs : List Col) (f h : List Node) → Grown f h → (o : Option ℕ) → StandsCols b f cs o → StandsCols b h cs o
cols-kept b [] f h up o s = s
cols-kept b (c ∷ cs) f h up o s = (s.0, s.1, s.2, s.3, at-kept f h up _ _ s.4, s.5, s.6, s.7, cols-kept b cs f h up _ s.8)

pub names-kept : (b : List ℕ) (cs : List Name) (f h : List Node) → Grown f h → (o : Option ℕ) → StandsNames b f cs o → StandsNames b h cs o
names-kept b [] f h up o s = s
names-kept b (c ∷ cs) f h up o s = (s.0, s.1, s.2, s.3, at-kept f h up _ _ s.4, s.5, s.6, s.7, names-kept b cs f h up _ s.8)

pub rows-kept : (b : List ℕ) (rs : List Exprs) (f h : List Node) → Grown f h → (o : Option ℕ) → StandsRows b f rs o → StandsRows b h rs o
rows-kept b [] f h up o s = s
rows-kept b (r ∷ rs) f h up o s = (s.0, s.1, s.2, s.3, at-kept f h up _ _ s.4, s.5, s.6, exprs-kept b r f h up _ s.7, rows-kept b rs f h up _ s.8)

pub sets-kept : (b : List ℕ) (ss : List Set) (f h : List Node) → Grown f h → (o : Option ℕ) → StandsSets b f ss o → StandsSets b h ss o
sets-kept b [] f h up o s = s
sets-kept b (x ∷ ss) f h up o s = (s.0, s.1, s.2, s.3, at-kept f h up _ _ s.4, s.5, s.6, (s.7.0, kept b x.to f h up _ s.7.1), sets-kept b ss f h up _ s.8)

pub under-on : (o : Option ℕ) (m n : ℕ) → m ≤ n → Under o m → Under o n
under-on None m n l u = tt
under-on (Some i) m n l u = omega (arith, u)

pub grown-none : (f : List Node) → Grown f f
grown-none f = ([], sym (append-nil f))

pub grown-on : (f g h : List Node) → Grown f g → Grown g h → Grown f h
grown-on f g h a b = (a.0 ++ b.0, b.1 ∙ ap (λ v. v ++ b.0) a.1 ∙ append_assoc f a.0 b.0)

pub grown-length : (f g : List Node) → Grown f g → length f ≤ length g
grown-length f g up = omega (arith, ap length up.1 ∙ length-append f up.0)

pub record New (f g : List Node) (k : Node) (i : ℕ) : Type 0 where
  pub at : At g i k
  pub within : i < length g
  pub grown : Grown f g
  pub last : i ≡ length f
  pub more : length g ≡ length f + 1

pub pushed : (t u : Nodes) (k : Node) (i : ℕ) → Pushed t u k i → New (filled t) (filled u) k i
pushed t u k i h =
    let long = ap length h.1 ∙ length_push (filled t) k in
    record { at = (λ j. slice_get (h.1 j) (h.0 j)) ∙ get-push (filled t) k; within = omega (arith, h.0); grown = (k ∷ [], h.1); last = h.0; more = omega arith }

-- a node over two others
pub paired : (b : List ℕ) (f g : List Node) (o : Op) (x y : Expr) (j k i : ℕ) → New f g (node.Both o j k) i → Stands b f x j → Stands b f y k → j < length f → k < length f → Pair g i o (Stands b g x) (Stands b g y)
paired b f g o x y j k i n s t l m = (j, k, n.at, omega (arith, n.last), omega (arith, n.last), kept b x f g n.grown j s, kept b y f g n.grown k t)

pub or_swap : (a b : Bool) → (a || b) ≡ (b || a)
or_swap true true = refl
or_swap true false = refl
or_swap false true = refl
or_swap false false = refl

pub makes-aggregates : (o : Infix) (x y : Expr) → aggregates (makes o x y) ≡ (aggregates x || aggregates y)
unfolding aggregates
makes-aggregates ix.Or x y = refl
makes-aggregates ix.And x y = refl
makes-aggregates ix.Equal x y = refl
makes-aggregates ix.Differs x y = refl
makes-aggregates ix.Below x y = refl
makes-aggregates ix.Above x y = or_swap (aggregates y) (aggregates x)
makes-aggregates ix.AtMost x y = refl
makes-aggregates ix.AtLeast x y = or_swap (aggregates y) (aggregates x)
makes-aggregates ix.Plus x y = refl
makes-aggregates ix.Minus x y = refl
makes-aggregates ix.Concat x y = refl
makes-aggregates ix.Times x y = refl
