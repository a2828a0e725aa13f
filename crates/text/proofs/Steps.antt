-- The steps that the parts of the reader share. Assumes nothing.
use Rattle.std.proofs.Common.{◌≡◌, ℕ, zero, suc, ◌+◌, ◌*◌, ◌<◌, ◌≤◌, Bool, true, false, cond, ltb, List, [], ◌∷◌, length, drop, pos, Some, None, Option, sym, refl, ap, ◌∙◌, inl, inr, arith}
use Rattle.std.proofs.lemmas.Bool.{lt-ltb}
use Rattle.meaning.specs.Value as value
use Rattle.meaning.specs.Value.{Num}
use Rattle.meaning.specs.Tree as tree
use Rattle.meaning.specs.Tree.{Name, Expr, aggregates}
use Rattle.meaning.specs.Text.{Token, Word, tokens, Between, plain_name, k_select}
use Rattle.grammar.specs.Reader as reader
use Rattle.grammar.specs.Reader.{Got, refuses, gets, Reader, head_is, tail_of, choose, and_then, a_name, a_number}
use Rattle.grammar.proofs.Tools.{never, clash, T_true, sign-is, name-inv, number-inv, choose_yes, choose_no, then_is, then-refused}
use Rattle.grammar.proofs.Sound.{listed-inv}
use Rattle.text.specs.Cut.{tokens_at, tokens_of, part, name, undoubled, decimal}
use Rattle.text.specs.Stands.{filled, At, Over, Stands}
use Rattle.text.specs.Found.{Grown, Read, Answer, Pushed, StandsPart, SaysPart, PartWithin, Ready, Taken, ReadsExpr, ReadsCondition}
use Rattle.text.specs.declared.nodes.Node.{Node}
use Rattle.text.specs.declared.nodes.Nodes.{Nodes}
use Rattle.text.specs.declared.nodes.Span.{Span}
use Rattle.text.specs.declared.tokens.Tok.{Tok}
use Rattle.text.specs.declared.tokens.Tok.TheVariants as tok
use Rattle.text.specs.declared.tokens.Place.{Place}
use Rattle.text.specs.declared.parts.Parsed.{Parsed}
use Rattle.text.specs.declared.parts.Operand.{Operand}
use Rattle.text.proofs.Stood.{grown-on, pushed}
use Rattle.std.specs.Option.{option_map}
use Rattle.text.specs.declared.parts.Term.{Term}

-- one token less
pub taken-length : (p : Token → Bool) (ts us : List Token) → head_is p ts ≡ true → us ≡ tail_of ts → length ts ≡ length us + 1
taken-length p [] us h e = clash h
taken-length p (t ∷ ts) us h e = omega (arith, ap length e)

pub name-length : (ts us : List Token) (n : Name) → a_name ts ≡ gets n us → length ts ≡ length us + 1
name-length ts us n h = omega (arith, ap length (name-inv ts h).0)

pub number-length : (ts us : List Token) (n : ℕ) → a_number ts ≡ gets n us → length ts ≡ length us + 1
number-length ts us n h = omega (arith, ap length (number-inv ts h).0)

-- there is still room
pub ready_on : (b : List ℕ) (t u : Nodes) (at to : Place) → Ready b t at → Grown (filled t) (filled u) → length (filled u) + 2 * length (tokens_at b to) ≤ length (filled t) + 2 * length (tokens_at b at) → Ready b u to
ready_on b t u at to r up l = omega (arith, r, l)

pub ready-same : (b : List ℕ) (t : Nodes) (at to : Place) → Ready b t at → length (tokens_at b to) ≤ length (tokens_at b at) → Ready b t to
ready-same b t at to r l = omega (arith, r, l)

pub ready-taken : (p : Token → Bool) (b : List ℕ) (t : Nodes) (at to : Place) → Ready b t at → Taken p b (tokens_at b at) (Some to) → Ready b t to
ready-taken p b t at to r h = ready-same b t at to r (omega (arith, taken-length p (tokens_at b at) (tokens_at b to) h.0 h.1))

-- the answer of a part, from more tokens
pub lifted : {A V : Type 0} (S : List Node → A → V → Type 0) (F : A → V → Type 0) (W : V → ℕ → Type 0) (n m : ℕ) (b : List ℕ) (t u : Nodes) (ts us : List Token) (g h : Got A) (r : Option (Parsed V)) → g ≡ h → m + 2 * length ts ≤ n + 2 * length us → Answer S F W n b t u ts g r → Answer S F W m b t u us h r
lifted S F W n m b t u ts us g h None e l a = sym e ∙ a
lifted S F W n m b t u ts us g h (Some p) e l a = record { it = a.it; is = sym e ∙ a.is; stands = a.stands; says = a.says; within = a.within; grown = a.grown; few = omega (arith, a.few) }

-- an expression that was read is a condition, by its node
abbrev pub node_of : Parsed Term → Parsed ℕ
node_of p = record { value = p.value.node; after = p.after }

pub as-condition : (b : List ℕ) (t u : Nodes) (ts us : List Token) (g h : Got Expr) (r : Option (Parsed Term)) → g ≡ h → length ts ≤ length us → ReadsExpr b t u ts g r → ReadsCondition b t u us h (option_map node_of r)
as-condition b t u ts us g h None e l a = sym e ∙ a
as-condition b t u ts us g h (Some p) e l a = record { it = a.it; is = sym e ∙ a.is; stands = a.stands; says = tt; within = a.within; grown = a.grown; few = omega (arith, a.few) }

-- a new node over something that was read
pub over : {A V : Type 0} (S : List Node → A → ℕ → Type 0) (F : A → V → Type 0) (at : V → ℕ) (keeps : (a : A) (f h : List Node) → Grown f h → (i : ℕ) → S f a i → S h a i) (mk : A → Expr) (kd : ℕ → Node) (b : List ℕ) →
    ((f : List Node) (a : A) (i : ℕ) → Over f i kd (S f a) → Stands b f (mk a) i) → (t u v : Nodes) (ts us : List Token) (g : Got A) (p : Parsed V) (q : Parsed Operand) (lvl m : ℕ) (h : Got reader.Part) →
    (r : Read (λ f a x. S f a (at x)) F (λ x n. at x < n) 2 b t u ts g p) → Pushed u v (kd (at p.value)) q.value.it.node → q.value.it.aggregates ≡ aggregates (mk r.it) → q.value.level ≡ lvl → h ≡ gets (reader.part lvl (mk r.it)) (tokens_at b q.after) →
    2 * length (tokens_at b q.after) + m + 2 * length ts ≤ 2 * length (tokens_at b p.after) + 2 * length us + 1 → Read (StandsPart b) SaysPart PartWithin m b t v us h q
over S F at keeps mk kd b stands t u v ts us g p q lvl m h r push agg level is l =
    let n = pushed u v (kd (at p.value)) q.value.it.node push in
    record {
      it = reader.part lvl (mk r.it);
      is = is;
      stands = stands (filled v) r.it q.value.it.node (at p.value, n.at, omega (arith, n.last, r.within), keeps r.it (filled u) (filled v) n.grown (at p.value) r.stands);
      says = (agg, level);
      within = n.within;
      grown = grown-on (filled t) (filled u) (filled v) r.grown n.grown;
      few = omega (arith, r.few, n.more);
    }

-- a leaf
pub leaf-read : (b : List ℕ) (t u : Nodes) (us : List Token) (k : Node) (e : Expr) (q : Parsed Operand) (m : ℕ) (h : Got reader.Part) → Pushed t u k q.value.it.node → ((f : List Node) (i : ℕ) → At f i k → Stands b f e i) → q.value.it.aggregates ≡ aggregates e → q.value.level ≡ 7 → h ≡ gets (reader.part 7 e) (tokens_at b q.after) →
    2 * length (tokens_at b q.after) + m ≤ 2 * length us → Read (StandsPart b) SaysPart PartWithin m b t u us h q
leaf-read b t u us k e q m h push stands agg level is l =
    let n = pushed t u k q.value.it.node push in
    record { it = reader.part 7 e; is = is; stands = stands (filled u) q.value.it.node n.at; says = (agg, level); within = n.within; grown = n.grown; few = omega (arith, n.more) }

-- one call
pub expr-none : (f k : ℕ) (ts : List Token) → f ≡ 0 → reader.expr f k ts ≡ refuses
unfolding reader.expr
expr-none zero k ts h = refl
expr-none (suc f) k ts h = absurd (omega arith)

pub expr-step : (f g k : ℕ) (ts : List Token) → f ≡ suc g → reader.expr f k ts ≡ and_then (reader.operand (reader.expr g) (reader.exprs g) (reader.keys g) g k ts) (reader.more g k)
unfolding reader.expr
expr-step f g k ts e = ap (λ f. reader.expr f k ts) e

pub exprs-none : (f : ℕ) (ts : List Token) → f ≡ 0 → reader.exprs f ts ≡ refuses
unfolding reader.expr
exprs-none zero ts h = refl
exprs-none (suc f) ts h = absurd (omega arith)

pub exprs-step : (f g : ℕ) (ts : List Token) → f ≡ suc g → reader.exprs f ts ≡ reader.listed (reader.expr g 0) (reader.exprs g) ts
unfolding reader.expr
exprs-step f g ts e = ap (λ f. reader.exprs f ts) e

pub keys_none : (f : ℕ) (ts : List Token) → f ≡ 0 → reader.keys f ts ≡ refuses
unfolding reader.expr
keys_none zero ts h = refl
keys_none (suc f) ts h = absurd (omega arith)

pub keys_step : (f g : ℕ) (ts : List Token) → f ≡ suc g → reader.keys f ts ≡ reader.listed (reader.a_key (reader.expr g 0)) (reader.keys g) ts
unfolding reader.expr
keys_step f g ts e = ap (λ f. reader.keys f ts) e

pub list-none : {A : Type 0} (item : Reader A) (f : ℕ) (ts : List Token) → f ≡ 0 → reader.list_of item f ts ≡ refuses
unfolding reader.list_of
list-none item zero ts h = refl
list-none item (suc f) ts h = absurd (omega arith)

pub list-step : {A : Type 0} (item : Reader A) (f g : ℕ) (ts : List Token) → f ≡ suc g → reader.list_of item f ts ≡ reader.listed item (reader.list_of item g) ts
unfolding reader.list_of
list-step item f g ts e = ap (λ f. reader.list_of item f ts) e

-- the parts of a list
pub listed-refused : {A : Type 0} (item : Reader A) (rest : Reader (List A)) (ts : List Token) → item ts ≡ refuses → reader.listed item rest ts ≡ refuses
listed-refused item rest ts h = then-refused (item ts) _ h

pub listed-last : {A : Type 0} (item : Reader A) (rest : Reader (List A)) (ts us : List Token) (a : A) → item ts ≡ gets a us → head_is (reader.is_sign 44) us ≡ false → reader.listed item rest ts ≡ gets (a ∷ []) us
listed-last item rest ts us a h k = then_is _ h (choose_no (reader.is_sign 44) _ _ us k)

pub listed-on : {A : Type 0} (item : Reader A) (rest : Reader (List A)) (ts us vs ws : List Token) (a : A) (as' : List A) → item ts ≡ gets a us → head_is (reader.is_sign 44) us ≡ true → vs ≡ tail_of us → rest vs ≡ gets as' ws → reader.listed item rest ts ≡ gets (a ∷ as') ws
listed-on item rest ts us vs ws a as' h k e r = then_is _ h (choose_yes (reader.is_sign 44) _ _ us vs k e ∙ then_is (λ as' ws. gets (a ∷ as') ws) r refl)

pub listed-fails : {A : Type 0} (item : Reader A) (rest : Reader (List A)) (ts us vs : List Token) (a : A) → item ts ≡ gets a us → head_is (reader.is_sign 44) us ≡ true → vs ≡ tail_of us → rest vs ≡ refuses → reader.listed item rest ts ≡ refuses
listed-fails item rest ts us vs a h k e r = then_is _ h (choose_yes (reader.is_sign 44) _ _ us vs k e ∙ then-refused (rest vs) _ r)

-- a list that was read has something in it
pub not-nil : {A : Type 0} (item : Reader A) (rest : Reader (List A)) (ts : List Token) (l : List A) (r : List Token) → reader.listed item rest ts ≡ gets l r → (a : A) × (as' : List A) × (a ∷ as' ≡ l)
not-nil item rest ts l r h = let i = listed-inv item rest ts h in elim i.3 [ inl c ↦ (i.0, [], c.1) | inr c ↦ (i.0, c.1, c.4) ]

-- after an opening bracket
module _ (x : reader.Level) (xs : Reader (List Expr)) (ks : Reader (List reader.Key)) (f : ℕ) (ts : List Token) where
  pub bracket-query : head_is (reader.is_word k_select) ts ≡ true → reader.bracket x xs ks f ts ≡ and_then (reader.question x xs ks f ts) (λ q vs. reader.past (reader.is_sign 41) (λ ws. cond (reader.one_column q) (gets (reader.part 7 (tree.scalar q)) ws) refuses) vs)
  unfolding reader.bracket
  bracket-query h = choose_yes (reader.is_word k_select) _ _ ts (tail_of ts) h refl

  pub bracket-expr : head_is (reader.is_word k_select) ts ≡ false → reader.bracket x xs ks f ts ≡ and_then (x 0 ts) (λ a vs. reader.past (reader.is_sign 41) (gets (reader.part 7 a)) vs)
  unfolding reader.bracket
  bracket-expr h = choose_no (reader.is_word k_select) _ _ ts h

  -- operands, by their first token
  module _ (k : ℕ) where
    pub operand-name : (n : Name) (us : List Token) → a_name ts ≡ gets n us → reader.operand x xs ks f k ts ≡ reader.column n us
    unfolding reader.operand
    operand-name n us h = let i = name-inv ts h in ap (reader.operand x xs ks f k) i.0 ∙ ap (λ c. cond c (reader.column n us) (reader.keyed x xs ks f k (Word n ∷ us))) (T_true _ i.1)

    pub operand-number : (n : ℕ) (us : List Token) → a_number ts ≡ gets n us → reader.operand x xs ks f k ts ≡ gets (reader.part 7 (tree.lit (Num (pos n)))) us
    unfolding reader.operand
    operand-number n us h = let i = number-inv ts h in ap (reader.operand x xs ks f k) i.0 ∙ ap (λ c. cond c (gets (reader.part 7 (tree.lit (Num (pos n)))) us) refuses) (lt-ltb n 9223372036854775808 i.1)

    pub operand-bracket : (us : List Token) → head_is (reader.is_sign 40) ts ≡ true → us ≡ tail_of ts → reader.operand x xs ks f k ts ≡ reader.bracket x xs ks f us
    unfolding reader.operand
    operand-bracket us h e = go ts h e
      where
        go : (ts : List Token) → head_is (reader.is_sign 40) ts ≡ true → us ≡ tail_of ts → reader.operand x xs ks f k ts ≡ reader.bracket x xs ks f us
        go [] h e = clash h
        go (t ∷ ts) h e = ap (λ t. reader.operand x xs ks f k (t ∷ ts)) (sign-is 40 t h) ∙ ap (reader.bracket x xs ks f) (sym e)

    pub operand-minus : (us : List Token) → head_is (reader.is_sign 45) ts ≡ true → us ≡ tail_of ts → reader.operand x xs ks f k ts ≡ and_then (x 6 us) (λ a us. gets (reader.part 6 (tree.negated a)) us)
    unfolding reader.operand
    operand-minus us h e = go ts h e
      where
        go : (ts : List Token) → head_is (reader.is_sign 45) ts ≡ true → us ≡ tail_of ts → reader.operand x xs ks f k ts ≡ and_then (x 6 us) (λ a us. gets (reader.part 6 (tree.negated a)) us)
        go [] h e = clash h
        go (t ∷ ts) h e = ap (λ t. reader.operand x xs ks f k (t ∷ ts)) (sign-is 45 t h) ∙ ap (λ us. and_then (x 6 us) (λ a us. gets (reader.part 6 (tree.negated a)) us)) (sym e)

pub operand-quoted : (x : reader.Level) (xs : Reader (List Expr)) (ks : Reader (List reader.Key)) (f k : ℕ) (b : List ℕ) (at : Place) (s : Span) (us : List Token) → at.tok ≡ tok.Quoted s → us ≡ tokens Between (drop at.rest b) → reader.operand x xs ks f k (tokens_at b at) ≡ gets (reader.part 7 (tree.lit (value.Text (undoubled false (part b s))))) us
unfolding reader.operand
operand-quoted x xs ks f k b at s us e h = ap (λ t. reader.operand x xs ks f k (tokens_of b t at.rest)) e ∙ ap (gets (reader.part 7 (tree.lit (value.Text (undoubled false (part b s)))))) (sym h)

pub quoted-length : (b : List ℕ) (at : Place) (s : Span) (us : List Token) → at.tok ≡ tok.Quoted s → us ≡ tokens Between (drop at.rest b) → length (tokens_at b at) ≡ length us + 1
quoted-length b at s us e h = omega (arith, ap (λ t. length (tokens_of b t at.rest)) e, ap length h)

-- what is no name, number, text or sign for an operand is left to the keywords
pub operand-keyed : (x : reader.Level) (xs : Reader (List Expr)) (ks : Reader (List reader.Key)) (f k : ℕ) (b : List ℕ) (t : Tok) (r : ℕ) → a_name (tokens_of b t r) ≡ refuses → a_number (tokens_of b t r) ≡ refuses → ((s : Span) → t ≡ tok.Quoted s → ⊥) → head_is (reader.is_sign 40) (tokens_of b t r) ≡ false → head_is (reader.is_sign 45) (tokens_of b t r) ≡ false → reader.keyed x xs ks f k (tokens_of b t r) ≡ reader.operand x xs ks f k (tokens_of b t r)
unfolding reader.operand reader.keyed reader.choose reader.is_word reader.is_sign a_name a_number
operand-keyed x xs ks f k b (tok.Word s) r n m q o p = go (plain_name (name b s)) n
  where
    go : (c : Bool) → cond c (gets (name b s) (tokens Between (drop r b))) refuses ≡ refuses → reader.keyed x xs ks f k (tokens_of b (tok.Word s) r) ≡ cond c (reader.column (name b s) (tokens Between (drop r b))) (reader.keyed x xs ks f k (tokens_of b (tok.Word s) r))
    go true h = never (sym h)
    go false h = refl
operand-keyed x xs ks f k b (tok.Number s) r n m q o p = go (ltb (decimal 0 (part b s)) 9223372036854775808) m
  where
    go : (c : Bool) → cond c (gets (decimal 0 (part b s)) (tokens Between (drop r b))) refuses ≡ refuses → refuses ≡ cond c (gets (reader.part 7 (tree.lit (Num (pos (decimal 0 (part b s)))))) (tokens Between (drop r b))) refuses
    go true h = never (sym h)
    go false h = refl
operand-keyed x xs ks f k b (tok.Quoted s) r n m q o p = absurd (q s refl)
operand-keyed x xs ks f k b (tok.Sign c) r n m q o p = sym (λ i. cond (o i) (reader.bracket x xs ks f (tokens Between (drop r b))) (cond (p i) (and_then (x 6 (tokens Between (drop r b))) (λ a us. gets (reader.part 6 (tree.negated a)) us)) refuses))
operand-keyed x xs ks f k b tok.Wrong r n m q o p = refl
operand-keyed x xs ks f k b tok.End r n m q o p = refl
