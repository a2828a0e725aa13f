-- The turns of the loop that climbs. Assumes nothing.
use Rattle.std.proofs.Common.{◌≡◌, ℕ, zero, suc, Some, ◌+◌, ◌-◌, ◌*◌, ◌<◌, ◌≤◌, Bool, true, false, cond, ◌&&◌, leb, ◌⊎◌, List, [], ◌∷◌, length, sym, refl, ap, ◌∙◌, inl, inr, arith, None}
use Rattle.std.proofs.lemmas.Bool.{le-leb, lt-leb, and_from}
use Rattle.meaning.specs.Tree.{Expr}
use Rattle.meaning.specs.Text.{Token, Word, k_is}
use Rattle.meaning.specs.Meaning.{same_name}
use Rattle.grammar.specs.Reader.{refuses, gets, and_then, head_is, tail_of, is_word, Joint, ends, tests, joins, null_test, tested}
use Rattle.grammar.proofs.Tools.{clash, then_is, word-is, then-refused}
use Rattle.grammar.specs.Reader as reader
use Rattle.text.specs.Cut.{tokens_at}
use Rattle.text.specs.Stands.{filled}
use Rattle.text.specs.Found.{Grown, Stood, joint_of, Tested, Further}
use Rattle.text.specs.declared.nodes.Nodes.{Nodes}
use Rattle.text.specs.declared.parts.Parsed.{Parsed}
use Rattle.text.specs.declared.parts.Operand.{Operand}

-- after some turns, a part stands for what the reader has come to
pub record Turning (b : List ℕ) (t u : Nodes) (k from left : ℕ) (start a : Parsed Operand) : Type 0 where
  pub less : left ≤ from
  pub grown : Grown (filled t) (filled u)
  pub few : length (filled u) + 2 * length (tokens_at b a.after) ≤ length (filled t) + 2 * length (tokens_at b start.after)
  pub goes : (e : reader.Part) → Stood b t start.value e → (d : reader.Part) × (reader.more from k e (tokens_at b start.after) ≡ reader.more left k d (tokens_at b a.after)) × Stood b u a.value d

-- one turn, by how the first token goes on
is-joint : reader.joint (Word k_is) ≡ tests
unfolding reader.joint reader.is_word same_name
is-joint = refl

pub joint-tests : (ts : List Token) → head_is (is_word k_is) ts ≡ true → joint_of ts ≡ tests
joint-tests [] h = clash h
joint-tests (t ∷ ts) h = ap reader.joint (word-is k_is t h) ∙ is-joint

in-tests : (os : List reader.Operator) (t : Token) → reader.joint_in os t ≡ tests → ⊥
unfolding reader.joint_in
in-tests [] t h = let z : ◌≡◌ {A = ℕ} 0 1 = cc in omega arith
in-tests (o ∷ os) t h = go (o.sign t) (in-tests os t) h
  where
    go : (b : Bool) → (reader.joint_in os t ≡ tests → ⊥) → cond b (joins o.level o.left o.op) (reader.joint_in os t) ≡ tests → ⊥
    go true k h = let z : ◌≡◌ {A = ℕ} 0 1 = cc in omega arith
    go false k h = k h

pub no-tests : (ts : List Token) → head_is (is_word k_is) ts ≡ false → (joint_of ts ≡ ends) ⊎ (joint_of ts ≡ tests) → joint_of ts ≡ ends
unfolding reader.joint
no-tests ts h (inl e) = e
no-tests [] h (inr e) = refl
no-tests (t ∷ ts) h (inr e) = absurd (in-tests reader.operators t (ap (λ b. cond b tests (reader.joint_in reader.operators t)) (sym h) ∙ e))

-- the turn of a reader at a token
turn : (f k : ℕ) (e : reader.Part) (t : Token) (ts : List Token) (j : Joint) → reader.joint t ≡ j → reader.more (suc f) k e (t ∷ ts) ≡ reader.goes (reader.expr f) (reader.more f) k e t ts j
unfolding reader.expr reader.more_of
turn f k e t ts j h = ap (reader.goes (reader.expr f) (reader.more f) k e t ts) h

pub more-ends : (f k : ℕ) (e : reader.Part) (ts : List Token) → joint_of ts ≡ ends → reader.more (suc f) k e ts ≡ gets e.it ts
unfolding reader.expr reader.more_of reader.goes
more-ends f k e [] h = refl
more-ends f k e (t ∷ ts) h = turn f k e t ts ends h

off : (a b : Bool) → (a ≡ false) ⊎ (b ≡ false) → (a && b) ≡ false
off true b (inl h) = clash (sym h)
off true b (inr h) = h
off false b h = refl

pub more-tests-ends : (f k : ℕ) (e : reader.Part) (ts : List Token) → joint_of ts ≡ tests → (3 < k) ⊎ (e.level < 4) → reader.more (suc f) k e ts ≡ gets e.it ts
unfolding reader.goes
more-tests-ends f k e [] h l = let z : ◌≡◌ {A = ℕ} 0 1 = cc in absurd (omega arith)
more-tests-ends f k e (t ∷ ts) h l = turn f k e t ts tests h ∙ ap (λ v. cond v (and_then (null_test ts) (λ b us. reader.more f k (reader.part 3 (tested b e.it)) us)) (gets e.it (t ∷ ts))) (off (leb k 3) (leb 4 e.level) (elim l [ inl m ↦ inl (lt-leb k 3 m) | inr m ↦ inr (lt-leb 4 e.level m) ]))

pub more-tests : (f k : ℕ) (e : reader.Part) (ts us : List Token) → joint_of ts ≡ tests → k ≤ 3 → 4 ≤ e.level → us ≡ tail_of ts → reader.more (suc f) k e ts ≡ and_then (null_test us) (λ b vs. reader.more f k (reader.part 3 (tested b e.it)) vs)
unfolding reader.goes
more-tests f k e [] us h l m q = let z : ◌≡◌ {A = ℕ} 0 1 = cc in absurd (omega arith)
more-tests f k e (t ∷ ts) us h l m q = turn f k e t ts tests h ∙ ap (λ v. cond v (and_then (null_test ts) (λ b us. reader.more f k (reader.part 3 (tested b e.it)) us)) (gets e.it (t ∷ ts))) (and_from (leb k 3) (leb 4 e.level) (le-leb k 3 l) (le-leb 4 e.level m)) ∙ ap (λ us. and_then (null_test us) (λ b vs. reader.more f k (reader.part 3 (tested b e.it)) vs)) (sym q)

pub more-joins-ends : (f k n l : ℕ) (op : Expr → Expr → Expr) (e : reader.Part) (ts : List Token) → joint_of ts ≡ joins n l op → (n < k) ⊎ (e.level < l) → reader.more (suc f) k e ts ≡ gets e.it ts
unfolding reader.goes
more-joins-ends f k n l op e [] h m = let z : ◌≡◌ {A = ℕ} 0 1 = cc in absurd (omega arith)
more-joins-ends f k n l op e (t ∷ ts) h m = turn f k e t ts (joins n l op) h ∙ ap (λ v. cond v (and_then (reader.expr f (suc n) ts) (λ b us. reader.more f k (reader.part n (op e.it b)) us)) (gets e.it (t ∷ ts))) (off (leb k n) (leb l e.level) (elim m [ inl q ↦ inl (lt-leb k n q) | inr q ↦ inr (lt-leb l e.level q) ]))

pub more-joins : (f k n l : ℕ) (op : Expr → Expr → Expr) (e : reader.Part) (ts us : List Token) → joint_of ts ≡ joins n l op → k ≤ n → l ≤ e.level → us ≡ tail_of ts → reader.more (suc f) k e ts ≡ and_then (reader.expr f (suc n) us) (λ b vs. reader.more f k (reader.part n (op e.it b)) vs)
unfolding reader.goes
more-joins f k n l op e [] us h p m q = let z : ◌≡◌ {A = ℕ} 0 1 = cc in absurd (omega arith)
more-joins f k n l op e (t ∷ ts) us h p m q = turn f k e t ts (joins n l op) h ∙ ap (λ v. cond v (and_then (reader.expr f (suc n) ts) (λ b us. reader.more f k (reader.part n (op e.it b)) us)) (gets e.it (t ∷ ts))) (and_from (leb k n) (leb l e.level) (le-leb k n p) (le-leb l e.level m)) ∙ ap (λ us. and_then (reader.expr f (suc n) us) (λ b vs. reader.more f k (reader.part n (op e.it b)) vs)) (sym q)

pub more-none : (f k : ℕ) (e : reader.Part) (ts : List Token) → f ≡ 0 → reader.more f k e ts ≡ refuses
unfolding reader.expr
more-none zero k e ts h = refl
more-none (suc f) k e ts h = absurd (omega arith)

-- a test for null that fails ends the turns
pub tested-refused : (b : List ℕ) (t u : Nodes) (us : List Token) (a : Parsed Operand) (k f : ℕ) → ((e : reader.Part) → a.value.level ≡ e.level → reader.more (suc f) k e (tokens_at b a.after) ≡ and_then (null_test us) (λ c vs. reader.more f k (reader.part 3 (tested c e.it)) vs)) →
    Tested b t u us a.value None → Further b t u k f a None
tested-refused b t u us a k f is h = λ e v. is e v ∙ then-refused (null_test us) _ h

-- a test for null is one turn
pub tested-further : (b : List ℕ) (t u : Nodes) (us : List Token) (a p : Parsed Operand) (k f : ℕ) → ((e : reader.Part) → a.value.level ≡ e.level → reader.more (suc f) k e (tokens_at b a.after) ≡ and_then (null_test us) (λ c vs. reader.more f k (reader.part 3 (tested c e.it)) vs)) →
    length (tokens_at b a.after) ≡ length us + 1 → Tested b t u us a.value (Some p) → Further b t u k f a (Some (Some p))
tested-further b t u us a p k f is l h = record {
  grown = h.2.grown;
  few = omega (arith, h.2.few);
  goes = λ e s. let g = h.2.goes e s in (g.0, is e s.level ∙ then_is (λ c vs. reader.more f k (reader.part 3 (tested c e.it)) vs) h.1 (ap (λ d. reader.more f k d (tokens_at b p.after)) (sym g.1)), g.2);
}

pub turns-left : (n : ℕ) → 0 < n → suc (n - 1) ≡ n
turns-left n l = omega arith
