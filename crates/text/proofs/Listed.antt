-- Items of lists, and lists with something in them. Assumes nothing.
use Rattle.std.proofs.Common.{◌≡◌, ℕ, zero, suc, ◌+◌, ◌<◌, ◌≤◌, Bool, true, false, not, List, [], ◌∷◌, length, Some, None, Option, unwrap_or, is_some, sym, refl, ap, subst, ◌∙◌, inl, inr, arith}
use Rattle.meaning.specs.Tree.{Expr, up_to}
use Rattle.meaning.specs.Text.{Token, k_asc, k_desc, k_distinct, k_not, k_null, k_offset}
use Rattle.grammar.specs.Reader as reader
use Rattle.grammar.specs.Reader.{gets, refuses, Reader, to_exprs, to_keys, Key, single, joins, head_is, tail_of, is_word, choose, null_test, and_then, a_number}
use Rattle.grammar.proofs.Tools.{never, then_is, choose-inv, gets-inv, choose_yes, choose_no}
use Rattle.text.specs.Stands.{Stands, StandsExprs, StandsKeys, Under}
use Rattle.text.specs.Cut.{tokens_at, name}
use Rattle.text.specs.Found.{joint_of, NameTaken, Taken}
use Rattle.text.specs.declared.tokens.Place.{Place}
use Rattle.text.specs.declared.nodes.Span.{Span}
use Rattle.text.specs.declared.parts.Parsed.{Parsed}
use Rattle.text.specs.declared.nodes.Node.{Node}
use Rattle.text.specs.declared.nodes.Node.TheVariants as node
use Rattle.text.proofs.Stood.{New, kept, exprs-kept, keys_kept, under-on}
use Rattle.text.proofs.Steps.{not-nil, name-length, number-length, taken-length}

pub exprs-some : (f : ℕ) (ts : List Token) (l : List Expr) (r : List Token) → reader.exprs f ts ≡ gets l r → (a : Expr) × (as' : List Expr) × (a ∷ as' ≡ l)
unfolding reader.expr
exprs-some zero ts l r h = never h
exprs-some (suc f) ts l r h = not-nil (reader.expr f 0) (reader.exprs f) ts l r h

pub single_more : (e : Expr) (l : List Expr) → (a : Expr) × (as' : List Expr) × (a ∷ as' ≡ l) → single (to_exprs (e ∷ l)) ≡ false
unfolding to_exprs
single_more e l s = ap (λ l. single (to_exprs (e ∷ l))) (sym s.2)

-- a key, with its direction
pub key-got : (x : Reader Expr) (ts us vs : List Token) (e : Expr) (d : Bool) → x ts ≡ gets e us → reader.direction us ≡ gets d vs → reader.a_key x ts ≡ gets (record { by = e; down = d }) vs
key-got x ts us vs e d h k = then_is _ h (then_is (λ d vs. gets (record { by = e; down = d }) vs) k refl)

pub direction-length : (ts us : List Token) (d : Bool) → reader.direction ts ≡ gets d us → length us ≤ length ts
direction-length ts us d h = elim (choose-inv (is_word k_asc) (gets false) (choose (is_word k_desc) (gets true) (gets false)) ts h) [
  | inl c ↦ (let e = gets-inv c.4 in omega (arith, ap length c.2, ap length e.1))
  | inr c ↦ (elim (choose-inv (is_word k_desc) (gets true) (gets false) ts c.1) [
    | inl o ↦ (let e = gets-inv o.4 in omega (arith, ap length o.2, ap length e.1))
    | inr o ↦ (let e = gets-inv o.1 in omega (arith, ap length e.1))
  ])
]

pub joint-length : (ts us : List Token) {n l : ℕ} {op : Expr → Expr → Expr} (j : joint_of ts ≡ joins n l op) → us ≡ tail_of ts → length ts ≡ length us + 1
joint-length [] us {n} {l} {op} j e = let z : ◌≡◌ {A = ℕ} 0 1 = cc in absurd (omega arith)
joint-length (t ∷ ts) us j e = omega (arith, ap length e)

-- a new item before what stood
pub stand-item : (b : List ℕ) (f h : List Node) (e : Expr) (l : List Expr) (j i : ℕ) (k : Option ℕ) → New f h (node.Item j k) i → Stands b f e j → j < length f → StandsExprs b f (to_exprs l) k → Under k (length f) → StandsExprs b h (to_exprs (e ∷ l)) (Some i)
unfolding to_exprs
stand-item b f h e l j i k n s m t q = (i, j, k, refl, n.at, omega (arith, n.last), under-on k (length f) i (omega (arith, n.last)) q, kept b e f h n.grown j s, exprs-kept b (to_exprs l) f h n.grown k t)

pub stand-key : (b : List ℕ) (f h : List Node) (e : Expr) (d : Bool) (l : List Key) (j i : ℕ) (k : Option ℕ) → New f h (node.Key (record { by = j; down = d }) k) i → Stands b f e j → j < length f → StandsKeys b f (to_keys l) k → Under k (length f) → StandsKeys b h (to_keys (record { by = e; down = d } ∷ l)) (Some i)
unfolding to_keys
stand-key b f h e d l j i k n s m t q = (i, j, k, refl, n.at, omega (arith, n.last), under-on k (length f) i (omega (arith, n.last)) q, kept b e f h n.grown j s, keys_kept b (to_keys l) f h n.grown k t)

pub distinct-length : (ts us : List Token) (d : Bool) → choose (is_word k_distinct) (gets true) (gets false) ts ≡ gets d us → length us ≤ length ts
distinct-length ts us d h = elim (choose-inv (is_word k_distinct) (gets true) (gets false) ts h) [
  | inl c ↦ (let e = gets-inv c.4 in omega (arith, ap length c.2, ap length e.1))
  | inr c ↦ (let e = gets-inv c.1 in omega (arith, ap length e.1))
]

-- a table with its alias, which is its own name where none stands after it
pub source-got : (b : List ℕ) (ts : List Token) (n a : Parsed Span) (o : Option (Parsed Span)) → reader.a_name ts ≡ gets (name b n.value) (tokens_at b n.after) → NameTaken b (tokens_at b n.after) o → a ≡ unwrap_or o n → reader.a_source ts ≡ gets (record { table = name b n.value; alias = name b a.value }) (tokens_at b a.after)
source-got b ts n a None h k e = then_is (λ n us. reader.called n us (reader.a_name us)) h (ap (reader.called (name b n.value) (tokens_at b n.after)) k ∙ ap (λ a. gets (record { table = name b n.value; alias = name b a.value }) (tokens_at b a.after)) (sym e))
source-got b ts n a (Some m) h k e = then_is (λ n us. reader.called n us (reader.a_name us)) h (ap (reader.called (name b n.value) (tokens_at b n.after)) k ∙ ap (λ a. gets (record { table = name b n.value; alias = name b a.value }) (tokens_at b a.after)) (sym e))

pub source-length : (b : List ℕ) (ts : List Token) (n a : Parsed Span) (o : Option (Parsed Span)) → reader.a_name ts ≡ gets (name b n.value) (tokens_at b n.after) → NameTaken b (tokens_at b n.after) o → a ≡ unwrap_or o n → length (tokens_at b a.after) + 1 ≤ length ts
source-length b ts n a None h k e = omega (arith, name-length ts _ _ h, ap (λ a. length (tokens_at b a.after)) e)
source-length b ts n a (Some m) h k e = omega (arith, name-length ts _ _ h, name-length (tokens_at b n.after) (tokens_at b m.after) _ k, ap (λ a. length (tokens_at b a.after)) e)

pub not-true : (b : Bool) → not b ≡ true → b ≡ false
not-true true h = sym h
not-true false h = refl

pub not-false : (b : Bool) → not b ≡ false → b ≡ true
not-false true h = refl
not-false false h = sym h

-- a word that may stand there
pub may-stand : (key : List ℕ) (b : List ℕ) (at : Place) (o : Option Place) → Taken (is_word key) b (tokens_at b at) o → choose (is_word key) (gets true) (gets false) (tokens_at b at) ≡ gets (is_some o) (tokens_at b (unwrap_or o at))
may-stand key b at None h = choose_no (is_word key) _ _ _ h
may-stand key b at (Some w) h = choose_yes (is_word key) _ _ _ _ h.0 h.1

-- null, or not null
module _ (b : List ℕ) (at w : Place) where
  pub null-refused : (o : Option Place) → Taken (is_word k_not) b (tokens_at b at) o → w ≡ unwrap_or o at → head_is (is_word k_null) (tokens_at b w) ≡ false → null_test (tokens_at b at) ≡ refuses
  null-refused None h e k = choose_no (is_word k_not) _ _ _ h ∙ choose_no (is_word k_null) _ _ _ (ap (λ w. head_is (is_word k_null) (tokens_at b w)) (sym e) ∙ k)
  null-refused (Some v) h e k = choose_yes (is_word k_not) _ _ _ _ h.0 h.1 ∙ choose_no (is_word k_null) _ _ _ (ap (λ w. head_is (is_word k_null) (tokens_at b w)) (sym e) ∙ k)

  pub null-got : (us : List Token) (o : Option Place) → Taken (is_word k_not) b (tokens_at b at) o → w ≡ unwrap_or o at → head_is (is_word k_null) (tokens_at b w) ≡ true → us ≡ tail_of (tokens_at b w) → (null_test (tokens_at b at) ≡ gets (is_some o) us) × (length us + 1 ≤ length (tokens_at b at))
  null-got us None h e k r = (choose_no (is_word k_not) _ _ _ h ∙ choose_yes (is_word k_null) _ _ _ us (ap (λ w. head_is (is_word k_null) (tokens_at b w)) (sym e) ∙ k) (r ∙ ap (λ w. tail_of (tokens_at b w)) e), omega (arith, taken-length (is_word k_null) (tokens_at b w) us k r, ap (λ w. length (tokens_at b w)) e))
  null-got us (Some v) h e k r = (choose_yes (is_word k_not) _ _ _ _ h.0 h.1 ∙ choose_yes (is_word k_null) _ _ _ us (ap (λ w. head_is (is_word k_null) (tokens_at b w)) (sym e) ∙ k) (r ∙ ap (λ w. tail_of (tokens_at b w)) e), omega (arith, taken-length (is_word k_null) (tokens_at b w) us k r, ap (λ w. length (tokens_at b w)) e, taken-length (is_word k_not) (tokens_at b at) (tokens_at b v) h.0 h.1))

-- how many rows are passed over, none where none are named
abbrev pub Skipped : List ℕ → ℕ → Place → Parsed ℕ → Type 0
Skipped b m at s = (choose (is_word k_offset) (λ ws. and_then (a_number ws) (λ n zs. gets (up_to m n) zs)) (gets (up_to m 0)) (tokens_at b at) ≡ gets (up_to m s.value) (tokens_at b s.after)) × (length (tokens_at b s.after) ≤ length (tokens_at b at))

pub no-skip : (b : List ℕ) (m : ℕ) (at : Place) (s : Parsed ℕ) → s ≡ record { value = 0; after = at } → head_is (is_word k_offset) (tokens_at b at) ≡ false → Skipped b m at s
no-skip b m at s e h = subst (Skipped b m at) (sym e) (choose_no (is_word k_offset) _ _ _ h, omega arith)

pub skips : (b : List ℕ) (m : ℕ) (at o : Place) (s r : Parsed ℕ) → s ≡ r → Taken (is_word k_offset) b (tokens_at b at) (Some o) → a_number (tokens_at b o) ≡ gets r.value (tokens_at b r.after) → Skipped b m at s
skips b m at o s r e t h = subst (Skipped b m at) (sym e) (choose_yes (is_word k_offset) _ _ _ _ t.0 t.1 ∙ then_is _ h refl, omega (arith, taken-length (is_word k_offset) (tokens_at b at) (tokens_at b o) t.0 t.1, number-length (tokens_at b o) (tokens_at b r.after) _ h))
