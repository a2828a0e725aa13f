-- What the parts of the reader answer: the same as the reader that is a function of the tokens, with the nodes for it.
use Rattle.std.specs.Prelude.{◌≡◌, ℕ, suc, ◌+◌, ◌*◌, ◌<◌, ◌≤◌, Bool, true, false, ◌⊎◌, List, [], ◌∷◌, ◌++◌, length, Some, None, Ok, Err, Option, Result, is_some}
use Rattle.meaning.specs.Tree as tree
use Rattle.meaning.specs.Tree.{Name, Source, Limit, Expr, Exprs, Query, Col, Set, Statement, aggregates, aggregates_any, aggregates_key}
use Rattle.meaning.specs.Text.{Token, Sign, Word, k_distinct, k_is, k_int, k_text}
use Rattle.meaning.specs.Grammar.{Reads}
use Rattle.grammar.specs.Reader as reader
use Rattle.grammar.specs.Reader.{Got, refuses, gets, head_is, tail_of, a_name, Key, Joint, ends, tests, joins, joint, to_exprs, to_keys, single, one_column, Groups, null_test, tested}
use Rattle.text.specs.Cut.{tokens_at, name, decimal}
use Rattle.text.specs.Stands.{filled, Under, Stands, StandsExprs, StandsKeys, StandsQuery, StandsLimit, StandsList, StandsFor}
use Rattle.text.specs.declared.nodes.Node.{Node}
use Rattle.text.specs.declared.nodes.Nodes.{Nodes}
use Rattle.text.specs.declared.nodes.Statement as made
use Rattle.text.specs.declared.tokens.Place.{Place}
use Rattle.text.specs.declared.words.Infix.{Infix}
use Rattle.text.specs.declared.words.Infix.TheVariants as ix
use Rattle.text.specs.declared.parts.Parsed.{Parsed}
use Rattle.text.specs.declared.parts.Term.{Term}
use Rattle.text.specs.declared.parts.Operand.{Operand}
use Rattle.text.specs.declared.parts.Terms.{Terms}
use Rattle.text.specs.declared.parts.Order.{Order}
use Rattle.text.specs.declared.parts.Asked.{Asked}
use Rattle.text.specs.declared.nodes.Span.{Span}
use Rattle.text.specs.declared.parts.Grouping.{Grouping}
use Rattle.text.specs.declared.parts.Refusal.{Refusal}
use Rattle.text.specs.declared.parts.Refusal.TheVariants.{Unread, TooLong}

-- a token that passes a test is passed by
abbrev pub Taken : (Token → Bool) → List ℕ → List Token → Option Place → Type 0
Taken p b ts None = head_is p ts ≡ false
Taken p b ts (Some w) = (head_is p ts ≡ true) × (tokens_at b w ≡ tail_of ts)

-- what a reader that makes no nodes answers, by what its value stands for
abbrev pub Gives : {A V : Type 0} → (V → A) → List ℕ → Got A → Option (Parsed V) → Type 0
Gives f b g None = g ≡ refuses
Gives f b g (Some w) = g ≡ gets (f w.value) (tokens_at b w.after)

abbrev pub same : {A : Type 0} → A → A
same a = a

abbrev pub NameTaken : List ℕ → List Token → Option (Parsed Span) → Type 0
NameTaken b ts r = Gives (name b) b (a_name ts) r

abbrev pub NumberTaken : List ℕ → List Token → Option (Parsed ℕ) → Type 0
NumberTaken b ts r = Gives same b (reader.a_number ts) r

-- the value of digits, where it is below 2^63
abbrev pub Valued : List ℕ → Option ℕ → Type 0
Valued ds None = 9223372036854775808 ≤ decimal 0 ds
Valued ds (Some v) = (v ≡ decimal 0 ds) × (v < 9223372036854775808)

-- what an operator makes of its two sides, and the levels
abbrev pub makes : Infix → Expr → Expr → Expr
makes ix.Or = tree.or
makes ix.And = tree.and
makes ix.Equal = tree.equal
makes ix.Differs = λ a b. tree.not' (tree.equal a b)
makes ix.Below = tree.below
makes ix.Above = λ a b. tree.below b a
makes ix.AtMost = tree.at_most
makes ix.AtLeast = λ a b. tree.at_most b a
makes ix.Plus = tree.plus
makes ix.Minus = tree.minus
makes ix.Concat = tree.concat
makes ix.Times = tree.times

abbrev pub level_of : Infix → ℕ
level_of ix.Or = 0
level_of ix.And = 1
level_of ix.Equal = 3
level_of ix.Differs = 3
level_of ix.Below = 3
level_of ix.Above = 3
level_of ix.AtMost = 3
level_of ix.AtLeast = 3
level_of ix.Plus = 4
level_of ix.Minus = 4
level_of ix.Concat = 4
level_of ix.Times = 5

abbrev pub left_of : Infix → ℕ
left_of ix.Or = 0
left_of ix.And = 1
left_of ix.Equal = 4
left_of ix.Differs = 4
left_of ix.Below = 4
left_of ix.Above = 4
left_of ix.AtMost = 4
left_of ix.AtLeast = 4
left_of ix.Plus = 4
left_of ix.Minus = 4
left_of ix.Concat = 4
left_of ix.Times = 5

abbrev pub joint_of : List Token → Joint
joint_of [] = ends
joint_of (t ∷ ts) = joint t

abbrev pub SignLinked : ℕ → Option Infix → Type 0
SignLinked b None = joint (Sign b) ≡ ends
SignLinked b (Some x) = joint (Sign b) ≡ joins (level_of x) (left_of x) (makes x)

-- the operator at the front; a test for null is none
abbrev pub Linked : List ℕ → List Token → Option (Parsed Infix) → Type 0
Linked b ts None = (joint_of ts ≡ ends) ⊎ (joint_of ts ≡ tests)
Linked b ts (Some l) = (joint_of ts ≡ joins (level_of l.value) (left_of l.value) (makes l.value)) × (tokens_at b l.after ≡ tail_of ts)

-- the nodes so far stay
abbrev pub Grown : List Node → List Node → Type 0
Grown f g = (ms : List Node) × (g ≡ f ++ ms)

-- one node more
abbrev pub Pushed : Nodes → Nodes → Node → ℕ → Type 0
Pushed t u k i = (i ≡ length (filled t)) × (filled u ≡ filled t ++ k ∷ [])

-- there is room for what the tokens can make, two nodes each, and a few
abbrev pub Ready : List ℕ → Nodes → Place → Type 0
Ready b t at = length (filled t) + 2 * length (tokens_at b at) ≤ 8195

-- what was read, from the tokens ts: what its value stands for (S), what else the value says of it (F), and that the nodes that it names are there (W); the fewer nodes are new, the higher n
pub record Read {A V : Type 0} (S : List Node → A → V → Type 0) (F : A → V → Type 0) (W : V → ℕ → Type 0) (n : ℕ) (b : List ℕ) (t u : Nodes) (ts : List Token) (g : Got A) (p : Parsed V) : Type 0 where
  pub it : A
  pub is : g ≡ gets it (tokens_at b p.after)
  pub stands : S (filled u) it p.value
  pub says : F it p.value
  pub within : W p.value (length (filled u))
  pub grown : Grown (filled t) (filled u)
  pub few : length (filled u) + 2 * length (tokens_at b p.after) + n ≤ length (filled t) + 2 * length ts + 1

abbrev pub Answer : {A V : Type 0} → (List Node → A → V → Type 0) → (A → V → Type 0) → (V → ℕ → Type 0) → ℕ → List ℕ → Nodes → Nodes → List Token → Got A → Option (Parsed V) → Type 0
Answer S F W n b t u ts g None = g ≡ refuses
Answer S F W n b t u ts g (Some p) = Read S F W n b t u ts g p

abbrev pub Nothing : {A V : Type 0} → A → V → Type 0
Nothing a p = Unit {0}

-- an expression, with whether it aggregates
abbrev pub StandsTerm : List ℕ → List Node → Expr → Term → Type 0
StandsTerm b f e x = Stands b f e x.node

abbrev pub Aggregates : Expr → Term → Type 0
Aggregates e x = x.aggregates ≡ aggregates e

abbrev pub TermWithin : Term → ℕ → Type 0
TermWithin x n = x.node < n

abbrev pub ReadsExpr : List ℕ → Nodes → Nodes → List Token → Got Expr → Option (Parsed Term) → Type 0
ReadsExpr b t u ts g r = Answer (StandsTerm b) Aggregates TermWithin 2 b t u ts g r

-- an operand, with its level too
abbrev pub StandsPart : List ℕ → List Node → reader.Part → Operand → Type 0
StandsPart b f e x = Stands b f e.it x.it.node

abbrev pub SaysPart : reader.Part → Operand → Type 0
SaysPart e x = (x.it.aggregates ≡ aggregates e.it) × (x.level ≡ e.level)

abbrev pub PartWithin : Operand → ℕ → Type 0
PartWithin x n = x.it.node < n

abbrev pub ReadsPart : List ℕ → Nodes → Nodes → List Token → Got reader.Part → Option (Parsed Operand) → Type 0
ReadsPart b t u ts g r = Answer (StandsPart b) SaysPart PartWithin 2 b t u ts g r

-- a part whose first token stood before
abbrev pub ReadsAfter : List ℕ → Nodes → Nodes → List Token → Got reader.Part → Option (Parsed Operand) → Type 0
ReadsAfter b t u ts g r = Answer (StandsPart b) SaysPart PartWithin 0 b t u ts g r

abbrev pub NodeWithin : ℕ → ℕ → Type 0
NodeWithin i n = i < n

-- an expression that may be missing
abbrev pub ReadsCondition : List ℕ → Nodes → Nodes → List Token → Got Expr → Option (Parsed ℕ) → Type 0
ReadsCondition b t u ts g r = Answer (Stands b) Nothing NodeWithin 0 b t u ts g r

-- a list of expressions, with whether one aggregates and whether it is the only one
abbrev pub StandsTerms : List ℕ → List Node → List Expr → Terms → Type 0
StandsTerms b f es x = StandsExprs b f (to_exprs es) (Some x.first)

abbrev pub SaysTerms : List Expr → Terms → Type 0
SaysTerms es x = (x.aggregates ≡ aggregates_any (to_exprs es)) × (x.single ≡ single (to_exprs es))

abbrev pub TermsWithin : Terms → ℕ → Type 0
TermsWithin x n = x.first < n

abbrev pub ReadsExprs : List ℕ → Nodes → Nodes → List Token → Got (List Expr) → Option (Parsed Terms) → Type 0
ReadsExprs b t u ts g r = Answer (StandsTerms b) SaysTerms TermsWithin 1 b t u ts g r

-- the keys to sort by, with whether one aggregates
abbrev pub StandsOrder : List ℕ → List Node → List Key → Order → Type 0
StandsOrder b f ks x = StandsKeys b f (to_keys ks) x.first

abbrev pub SaysOrder : List Key → Order → Type 0
SaysOrder ks x = x.aggregates ≡ aggregates_key (to_keys ks)

abbrev pub OrderWithin : Order → ℕ → Type 0
OrderWithin x n = Under x.first n

abbrev pub ReadsKeys : List ℕ → Nodes → Nodes → List Token → Got (List Key) → Option (Parsed Order) → Type 0
ReadsKeys b t u ts g r = Answer (StandsOrder b) SaysOrder OrderWithin 1 b t u ts g r

abbrev pub StandsAsked : List ℕ → List Node → Query → Asked → Type 0
StandsAsked b f q x = StandsQuery b f q x.node

abbrev pub SaysAsked : Query → Asked → Type 0
SaysAsked q x = x.single ≡ one_column q

abbrev pub AskedWithin : Asked → ℕ → Type 0
AskedWithin x n = x.node < n

abbrev pub ReadsQuery : List ℕ → Nodes → Nodes → List Token → Got Query → Option (Parsed Asked) → Type 0
ReadsQuery b t u ts g r = Answer (StandsAsked b) SaysAsked AskedWithin 2 b t u ts g r

abbrev pub ReadsLimit : List ℕ → Nodes → Nodes → List Token → Got Limit → Option (Parsed (Option ℕ)) → Type 0
ReadsLimit b t u ts g r = Answer StandsLimit Nothing Under 1 b t u ts g r

-- the groups of a query, and what is wanted of them
abbrev pub StandsGroups : List ℕ → List Node → Groups → Grouping → Type 0
StandsGroups b f g x = StandsExprs b f (to_exprs g.by) x.by × Stands b f g.having x.having

abbrev pub SaysGroups : Groups → Grouping → Type 0
SaysGroups g x = is_some x.by ≡ g.are

abbrev pub GroupsWithin : Grouping → ℕ → Type 0
GroupsWithin x n = Under x.by n × (x.having < n)

abbrev pub ReadsGroups : List ℕ → Nodes → Nodes → List Token → Got Groups → Option (Parsed Grouping) → Type 0
ReadsGroups b t u ts g r = Answer (StandsGroups b) SaysGroups GroupsWithin 0 b t u ts g r

-- whatever nodes are added
abbrev pub Stays : {A V : Type 0} → (List Node → A → V → Type 0) → List Node → A → V → Type 0
Stays S f a x = (h : List Node) → Grown f h → S h a x

abbrev pub StaysWithin : {V : Type 0} → (V → ℕ → Type 0) → V → ℕ → Type 0
StaysWithin W x m = (n : ℕ) → m ≤ n → W x n

-- an item of a list, before whose node there is room
abbrev pub ReadsItem : {A V : Type 0} → (List Node → A → V → Type 0) → (V → ℕ → Type 0) → List ℕ → Nodes → Nodes → List Token → Got A → Option (Parsed V) → Type 0
ReadsItem S W b t u ts g r = Answer (Stays S) Nothing (StaysWithin W) 3 b t u ts g r

-- a list, by its first node
abbrev pub StandsFirst : {A I : Type 0} → (List Node → A → I → Type 0) → (I → ℕ → Type 0) → (I → Option ℕ → Node) → List Node → List A → ℕ → Type 0
StandsFirst S W k f as' i = StandsList S W k f as' (Some i)

abbrev pub ReadsList : {A I : Type 0} → (List Node → A → I → Type 0) → (I → ℕ → Type 0) → (I → Option ℕ → Node) → List ℕ → Nodes → Nodes → List Token → Got (List A) → Option (Parsed ℕ) → Type 0
ReadsList S W k b t u ts g r = Answer (Stays (StandsFirst S W k)) Nothing NodeWithin 1 b t u ts g r

-- the node, or two, over two sides stand for what the operator makes of them
pub record Joined (t u : Nodes) (op : Infix) (x y i : ℕ) : Type 0 where
  pub stands : (b : List ℕ) (d e : Expr) → Stands b (filled t) d x → Stands b (filled t) e y → x < length (filled t) → y < length (filled t) → Stands b (filled u) (makes op d e) i
  pub within : i < length (filled u)
  pub grown : Grown (filled t) (filled u)
  pub few : length (filled u) ≤ length (filled t) + 2

-- a part stands for an expression of a level
pub record Stood (b : List ℕ) (t : Nodes) (x : Operand) (e : reader.Part) : Type 0 where
  pub stands : Stands b (filled t) e.it x.it.node
  pub counts : x.it.aggregates ≡ aggregates e.it
  pub level : x.level ≡ e.level
  pub within : x.it.node < length (filled t)

-- a longer part, from the tokens ts on: what it stands for, by what the shorter one stood for
pub record Longer (b : List ℕ) (t u : Nodes) (ts : List Token) (x : Operand) (p : Parsed Operand) (Goes : reader.Part → reader.Part → Type 0) : Type 0 where
  pub grown : Grown (filled t) (filled u)
  pub few : length (filled u) + 2 * length (tokens_at b p.after) ≤ length (filled t) + 2 * length ts
  pub goes : (e : reader.Part) → Stood b t x e → (d : reader.Part) × Goes e d × Stood b u p.value d

abbrev pub Tested : List ℕ → Nodes → Nodes → List Token → Operand → Option (Parsed Operand) → Type 0
Tested b t u ts x None = null_test ts ≡ refuses
Tested b t u ts x (Some p) = (c : Bool) × (null_test ts ≡ gets c (tokens_at b p.after)) × Longer b t u (Word k_is ∷ ts) x p (λ e d. d ≡ reader.part 3 (tested c e.it))

-- one turn of what goes on after a part, at a level: it fails, it ends there, it goes on with a longer part
abbrev pub Further : List ℕ → Nodes → Nodes → ℕ → ℕ → Parsed Operand → Option (Option (Parsed Operand)) → Type 0
Further b t u k f a None = (e : reader.Part) → a.value.level ≡ e.level → reader.more (suc f) k e (tokens_at b a.after) ≡ refuses
Further b t u k f a (Some None) = ((e : reader.Part) → a.value.level ≡ e.level → reader.more (suc f) k e (tokens_at b a.after) ≡ gets e.it (tokens_at b a.after)) × (t ≡ u)
Further b t u k f a (Some (Some p)) = Longer b t u (tokens_at b a.after) a.value p (λ e d. reader.more (suc f) k e (tokens_at b a.after) ≡ reader.more f k d (tokens_at b p.after))

abbrev pub Directed : List ℕ → List Token → Parsed Bool → Type 0
Directed b ts w = reader.direction ts ≡ gets w.value (tokens_at b w.after)

abbrev pub Distinguished : List ℕ → List Token → Parsed Bool → Type 0
Distinguished b ts w = reader.choose (reader.is_word k_distinct) (gets true) (gets false) ts ≡ gets w.value (tokens_at b w.after)

-- a column's kind: int, or text
abbrev pub kind_of : reader.Reader Bool
kind_of ts = reader.choose (reader.is_word k_int) (gets false) (reader.past (reader.is_word k_text) (gets true)) ts

-- a statement that was read stands for the tree that the reader found
abbrev pub Says : List ℕ → Nodes → Got Statement → Option (Parsed made.Statement) → Type 0
Says b u g None = g ≡ refuses
Says b u g (Some s) = (st : Statement) × (g ≡ gets st (tokens_at b s.after)) × StandsFor b (filled u) st s.value

-- the same for a statement without nodes
abbrev pub Names : List ℕ → Got Statement → Option (Parsed made.Statement) → Type 0
Names b g None = g ≡ refuses
Names b g (Some s) = (st : Statement) × (g ≡ gets st (tokens_at b s.after)) × ((f : List Node) → StandsFor b f st s.value)

-- a name, and the statement that is made of it, by what the call may answer
abbrev pub NamedBy : (Span → made.Statement → Type 0) → List ℕ → List Token → Option (Parsed made.Statement) → Type 0
NamedBy P b ts None = a_name ts ≡ refuses
NamedBy P b ts (Some s) = (x : Span) × (a_name ts ≡ gets (name b x) (tokens_at b s.after)) × P x s.value

-- the answer to a text: the statement that it is, in the nodes; that it is none; that it is too long
abbrev pub ReadText : List ℕ → Nodes → Result made.Statement Refusal → Type 0
ReadText b u (Ok s) = (length b ≤ 4096) × ((st : Statement) × Reads b st × StandsFor b (filled u) st s)
ReadText b u (Err Unread) = (length b ≤ 4096) × ((st : Statement) → Reads b st → ⊥)
ReadText b u (Err TooLong) = 4096 < length b
