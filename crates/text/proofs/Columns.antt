-- The parts of the statements that hold no expressions. Assumes nothing.
use Rattle.std.proofs.Common.{◌≡◌, ℕ, ◌≤◌, Bool, true, false, cond, List, [], ◌∷◌, length, Some, None, Option, sym, refl, ap, ◌∙◌, inl, inr, arith}
use Rattle.meaning.specs.Tree.{Name, Col, Statement}
use Rattle.meaning.specs.Text.{Token, k_not, k_null, k_int, k_text}
use Rattle.grammar.specs.Reader.{Got, refuses, gets, and_then, choose, past, is_word, must, a_col, a_name, named}
use Rattle.grammar.proofs.Tools.{then_is, then-refused, choose-inv, past_word, gets-inv}
use Rattle.text.specs.Cut.{tokens_at, tokens_of, name}
use Rattle.text.specs.declared.tokens.Tok.{Tok}
use Rattle.text.specs.declared.tokens.Tok.TheVariants as tok
use Rattle.text.specs.declared.tokens.Place.{Place}
use Rattle.text.specs.Stands.{filled, StandsName, StandsFor, Alone}
use Rattle.text.specs.declared.nodes.Span.{Span}
use Rattle.text.specs.declared.nodes.Node.{Node}
use Rattle.text.proofs.Stood.{grown-none}
use Rattle.text.proofs.Steps.{name-length}
use Rattle.text.specs.Found.{kind_of, Says, Names, NamedBy, NameTaken, ReadsItem}
use Rattle.text.specs.declared.nodes.Nodes.{Nodes}
use Rattle.text.specs.declared.parts.Parsed.{Parsed}
use Rattle.text.specs.declared.nodes.Statement as stated

-- a column
abbrev pub made : Name → Bool → Bool → Col
made n k b = record { name = n; text = k; must = b }

-- a column is its name, its kind and whether it must be there
abbrev rest : Name → List Token → Got Col
rest n us = and_then (kind_of us) (λ k vs. and_then (must vs) (λ b ws. gets (made n k b) ws))

col-rest : (n : Name) (us : List Token) → choose (is_word k_int) (λ vs. and_then (must vs) (λ b ws. gets (made n false b) ws)) (past (is_word k_text) (λ vs. and_then (must vs) (λ b ws. gets (made n true b) ws))) us ≡ rest n us
unfolding choose
col-rest n [] = refl
col-rest n (t ∷ us) = go (is_word k_int t) (is_word k_text t)
  where
    go : (i x : Bool) → cond i (and_then (must us) (λ b ws. gets (made n false b) ws)) (cond x (and_then (must us) (λ b ws. gets (made n true b) ws)) refuses) ≡ and_then (cond i (gets false us) (cond x (gets true us) refuses)) (λ k vs. and_then (must vs) (λ b ws. gets (made n k b) ws))
    go true x = refl
    go false true = refl
    go false false = refl

pub col-none : (ts : List Token) → a_name ts ≡ refuses → a_col ts ≡ refuses
col-none ts h = then-refused (a_name ts) _ h

pub col-no-kind : (ts us : List Token) (n : Name) → a_name ts ≡ gets n us → kind_of us ≡ refuses → a_col ts ≡ refuses
col-no-kind ts us n h k = then_is _ h (col-rest n us ∙ then-refused (kind_of us) _ k)

pub col-no-must : (ts us vs : List Token) (n : Name) (k : Bool) → a_name ts ≡ gets n us → kind_of us ≡ gets k vs → must vs ≡ refuses → a_col ts ≡ refuses
col-no-must ts us vs n k h e m = then_is _ h (col-rest n us ∙ then_is (λ k vs. and_then (must vs) (λ b ws. gets (made n k b) ws)) e (then-refused (must vs) _ m))

pub col-got : (ts us vs ws : List Token) (n : Name) (k b : Bool) → a_name ts ≡ gets n us → kind_of us ≡ gets k vs → must vs ≡ gets b ws → a_col ts ≡ gets (made n k b) ws
col-got ts us vs ws n k b h e m = then_is _ h (col-rest n us ∙ then_is (λ k vs. and_then (must vs) (λ b ws. gets (made n k b) ws)) e (then_is (λ b ws. gets (made n k b) ws) m refl))

pub kind-length : (ts us : List Token) (d : Bool) → kind_of ts ≡ gets d us → length us ≤ length ts
kind-length ts us d h = elim (choose-inv (is_word k_int) (gets false) (past (is_word k_text) (gets true)) ts h) [
  | inl c ↦ (let e = gets-inv c.4 in omega (arith, ap length c.2, ap length e.1))
  | inr c ↦ (let p = past_word k_text (gets true) ts c.1 in let e = gets-inv p.2 in omega (arith, ap length p.1, ap length e.1))
]

pub must-length : (ts us : List Token) (d : Bool) → must ts ≡ gets d us → length us ≤ length ts
must-length ts us d h = elim (choose-inv (is_word k_not) (past (is_word k_null) (gets true)) (gets false) ts h) [
  | inl c ↦ (let p = past_word k_null (gets true) c.1 c.4 in let e = gets-inv p.2 in omega (arith, ap length c.2, ap length p.1, ap length e.1))
  | inr c ↦ (let e = gets-inv c.1 in omega (arith, ap length e.1))
]

-- a statement without nodes is one with any
pub names-says : (b : List ℕ) (u : Nodes) (g h : Got Statement) (r : Option (Parsed stated.Statement)) → g ≡ h → Names b g r → Says b u h r
names-says b u g h None e n = sym e ∙ n
names-says b u g h (Some s) e n = (n.0, sym e ∙ n.1, n.2 (filled u))

pub says_same : (b : List ℕ) (u : Nodes) (g h : Got Statement) (r : Option (Parsed stated.Statement)) → g ≡ h → Says b u g r → Says b u h r
says_same b u g h None e n = sym e ∙ n
says_same b u g h (Some s) e n = (n.0, sym e ∙ n.1, n.2)

-- where the tokens end
pub ended : (b : List ℕ) (x : Place) → x.tok ≡ tok.End → tokens_at b x ≡ []
ended b x e = ap (λ t. tokens_of b t x.rest) e

pub unended : (b : List ℕ) (t : Tok) (r : ℕ) → (t ≡ tok.End → ⊥) → tokens_of b t r ≡ [] → ⊥
unended b (tok.Word p) r h e = let z : ◌≡◌ {A = ℕ} 0 1 = cc in omega arith
unended b (tok.Number p) r h e = let z : ◌≡◌ {A = ℕ} 0 1 = cc in omega arith
unended b (tok.Quoted p) r h e = let z : ◌≡◌ {A = ℕ} 0 1 = cc in omega arith
unended b (tok.Sign p) r h e = let z : ◌≡◌ {A = ℕ} 0 1 = cc in omega arith
unended b tok.Wrong r h e = let z : ◌≡◌ {A = ℕ} 0 1 = cc in omega arith
unended b tok.End r h e = h refl

-- a name as an item
pub name-item : (b : List ℕ) (t : Nodes) (ts : List Token) (r : Option (Parsed Span)) → NameTaken b ts r → ReadsItem (StandsName b) Alone b t t ts (a_name ts) r
name-item b t ts None h = h
name-item b t ts (Some p) h = record { it = name b p.value; is = h; stands = λ h up. refl; says = tt; within = λ n l. tt; grown = grown-none (filled t); few = omega (arith, name-length ts (tokens_at b p.after) _ h) }

-- a statement of a name
pub name-said : (b : List ℕ) (P : Span → stated.Statement → Type 0) (st : Name → Statement) → ((x : Span) (s : stated.Statement) → P x s → (f : List Node) → StandsFor b f (st (name b x)) s) → (ts : List Token) (r : Option (Parsed stated.Statement)) → NamedBy P b ts r → Names b (named st ts) r
name-said b P st says ts None h = then-refused (a_name ts) _ h
name-said b P st says ts (Some p) h = (st (name b h.0), then_is _ h.1 refl, says h.0 p.value h.2)

pub names_same : (b : List ℕ) (g h : Got Statement) (r : Option (Parsed stated.Statement)) → g ≡ h → Names b g r → Names b h r
names_same b g h None e n = sym e ∙ n
names_same b g h (Some s) e n = (n.0, sym e ∙ n.1, n.2)
