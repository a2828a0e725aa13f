-- What the grammar derives of operands, the reader finds. Assumes nothing.
use Rattle.std.proofs.Common.{◌≡◌, ℕ, zero, suc, ◌<◌, ◌≤◌, true, false, cond, T, List, [], ◌∷◌, ◌++◌, length, pos, refl, ap, ◌∙◌, append_assoc, arith, length-append}
use Rattle.std.proofs.lemmas.Bool.{lt-ltb, le-leb}
use Rattle.meaning.specs.Value as Value
use Rattle.meaning.specs.Value.{Num}
use Rattle.meaning.specs.Tree as tree
use Rattle.meaning.specs.Tree.{Name, Source, Limit, Expr, Exprs, Keys, Query, query, aggregates_any, aggregates_key}
use Rattle.meaning.specs.Meaning.{same_name, some}
use Rattle.meaning.specs.Text.{Token, Word, Number, Quoted, Sign, plain_name, k_select, k_distinct, k_not, k_null, k_exists, k_count}
use Rattle.meaning.specs.Grammar as g
use Rattle.meaning.specs.Grammar.{X, Xs, Q, Sources, Limits, Distinct, Wheres, Havings, KeyList, Orders, Aggregates}
use Rattle.grammar.specs.Reader.{refuses, gets, Reader, and_then, choose, head_is, past, is_sign, is_word, joint_in, joint, Part, part, one, one_column, bracket, folded, keyed, column, operand, expr, more, exprs, keys, asks}
use Rattle.grammar.proofs.Tools.{T_true, then_is, choose_yes, choose_no, name-fine, plain_other}
use Rattle.grammar.proofs.Climb.{Stops, idle-two, idle-six, Fine, done}
use Rattle.grammar.proofs.Marks.{After, Quiet, whole, close_mark}

-- what an operand is read as
abbrev pub Opens : ℕ → List Token → Expr → Type 0
Opens n ts e = (k : ℕ) → k ≤ n → (r : List Token) → Stops n r → (f : ℕ) → length (ts ++ r) ≤ f → operand (expr f) (exprs f) (keys f) f k (ts ++ r) ≡ gets (part n e) r

pub fine-opens : (n : ℕ) (ts : List Token) (e : Expr) → 1 ≤ length ts → Opens n ts e → Fine n ts e
unfolding expr
fine-opens n ts e some opens k l r s zero m = absurd (omega arith)
fine-opens n ts e some opens k l r s (suc f) m = (f, omega (arith, length-append ts r), then_is (more f k) (opens k l r s f (omega arith)) refl)

pub opens_not : (ts : List Token) (a : Expr) → Fine 2 ts a → Opens 2 (Word k_not ∷ ts) (tree.not' a)
unfolding operand keyed choose is_word same_name some
opens_not ts a fa k l r s f m = ap (λ v. cond v (and_then (expr f 2 (ts ++ r)) (λ a vs. gets (part 2 (tree.not' a)) vs)) refuses) (le-leb k 2 l)
    ∙ then_is (λ a vs. gets (part 2 (tree.not' a)) vs) (done 2 ts a fa r s (idle-two r s) f (omega arith)) refl

pub opens-minus : (ts : List Token) (a : Expr) → Fine 6 ts a → Opens 6 (Sign 45 ∷ ts) (tree.negated a)
unfolding operand
opens-minus ts a fa k l r s f m = then_is (λ a vs. gets (part 6 (tree.negated a)) vs) (done 6 ts a fa r s (idle-six r) f (omega arith)) refl

pub opens-number : (n : ℕ) → n < 9223372036854775808 → Opens 7 (Number n ∷ []) (tree.lit (Num (pos n)))
unfolding operand
opens-number n h k l r s f m = ap (λ b. cond b (gets (part 7 (tree.lit (Num (pos n)))) r) refuses) (lt-ltb n 9223372036854775808 h)

pub plain-operand : (n : Name) (ts : List Token) (f k : ℕ) → T (plain_name n) → operand (expr f) (exprs f) (keys f) f k (Word n ∷ ts) ≡ column n ts
unfolding operand
plain-operand n ts f k p = ap (λ b. cond b (column n ts) (keyed (expr f) (exprs f) (keys f) f k (Word n ∷ ts))) (T_true _ p)

pub no-dot : (r : List Token) → Stops 7 r → head_is (is_sign 46) r ≡ false
no-dot [] s = refl
no-dot (t ∷ r) s = s.1

pub opens-column : (n : Name) → T (plain_name n) → Opens 7 (Word n ∷ []) (tree.col [] n)
opens-column n p k l r s f m = plain-operand n r f k p ∙ choose_no (is_sign 46) _ _ r (no-dot r s)

pub opens-its : (q n : Name) → T (plain_name q) → T (plain_name n) → Opens 7 (Word q ∷ Sign 46 ∷ Word n ∷ []) (tree.col q n)
unfolding choose is_sign
opens-its q n p h k l r s f m = plain-operand q _ f k p ∙ then_is (λ m vs. gets (part 7 (tree.col q m)) vs) (name-fine n r h) refl

-- what an expression begins with: not with what would be taken for something else
abbrev pub Starts : List Token → Type 0
Starts [] = ⊥
Starts (t ∷ ts) = (is_word k_select t ≡ false) × (is_word k_distinct t ≡ false) × (is_sign 42 t ≡ false)

pub starts-on : (ts us : List Token) → Starts ts → Starts (ts ++ us)
starts-on [] us h = absurd h
starts-on (t ∷ ts) us h = h

pub starts-name : (n : Name) (ts : List Token) → T (plain_name n) → Starts (Word n ∷ ts)
unfolding is_word is_sign same_name some
starts-name n ts p = (plain_other n k_select p refl, plain_other n k_distinct p refl, refl)

pub starts-aggregate : {gs : List Token} {a : Value.Aggregate} (ts : List Token) → Aggregates gs a → Starts (gs ++ ts)
unfolding is_word is_sign same_name
starts-aggregate ts g.counts = (refl, refl, refl)
starts-aggregate ts g.sums = (refl, refl, refl)
starts-aggregate ts g.mins = (refl, refl, refl)
starts-aggregate ts g.maxes = (refl, refl, refl)

pub starts : {n : ℕ} {ts : List Token} {e : Expr} → X n ts e → Starts ts
unfolding is_word is_sign same_name
starts (g.deeper l d) = starts d
starts (g.ors {ts = ts} d b) = starts-on ts _ (starts d)
starts (g.ands {ts = ts} d b) = starts-on ts _ (starts d)
starts (g.nots d) = (refl, refl, refl)
starts (g.equals {ts = ts} d b) = starts-on ts _ (starts d)
starts (g.differs {ts = ts} d b) = starts-on ts _ (starts d)
starts (g.belows {ts = ts} d b) = starts-on ts _ (starts d)
starts (g.aboves {ts = ts} d b) = starts-on ts _ (starts d)
starts (g.at_mosts {ts = ts} d b) = starts-on ts _ (starts d)
starts (g.at_leasts {ts = ts} d b) = starts-on ts _ (starts d)
starts (g.null_test {ts = ts} d) = starts-on ts _ (starts d)
starts (g.no_null_test {ts = ts} d) = starts-on ts _ (starts d)
starts (g.adds {ts = ts} d b) = starts-on ts _ (starts d)
starts (g.subs {ts = ts} d b) = starts-on ts _ (starts d)
starts (g.concats {ts = ts} d b) = starts-on ts _ (starts d)
starts (g.muls {ts = ts} d b) = starts-on ts _ (starts d)
starts (g.negs d) = (refl, refl, refl)
starts (g.number n l) = (refl, refl, refl)
starts (g.text t) = (refl, refl, refl)
starts g.null = (refl, refl, refl)
starts (g.column n p) = starts-name n [] p
starts (g.its_column q n p h) = starts-name q (Sign 46 ∷ Word n ∷ []) p
starts (g.bracketed d) = (refl, refl, refl)
starts g.count_rows = (refl, refl, refl)
starts (g.aggregated a d) = starts-aggregate _ a
starts (g.any_row d) = (refl, refl, refl)
starts (g.one_value d) = (refl, refl, refl)

pub starts-head : (ts us : List Token) → Starts ts → (head_is (is_word k_select) (ts ++ us) ≡ false) × (head_is (is_word k_distinct) (ts ++ us) ≡ false) × (head_is (is_sign 42) (ts ++ us) ≡ false)
starts-head [] us h = absurd h
starts-head (t ∷ ts) us h = h

-- brackets and keywords
pub close : {A : Type 0} (a : A) (r : List Token) → choose (is_sign 41) (gets a) (λ us. refuses) (Sign 41 ∷ r) ≡ gets a r
unfolding choose is_sign
close a r = refl

pub quiet-close : (r : List Token) → Quiet (Sign 41 ∷ r)
unfolding joint joint_in is_word is_sign
quiet-close r = (refl, refl)

pub opens-bracket : (ts : List Token) (e : Expr) → Starts ts → Fine 0 ts e → Opens 7 (Sign 40 ∷ (ts ++ Sign 41 ∷ [])) e
unfolding operand bracket
opens-bracket ts e st fe k l r s f m =
    let same = append_assoc ts (Sign 41 ∷ []) r in
    let v = (ts ++ Sign 41 ∷ []) ++ r in
    choose_no (is_word k_select) _ _ v (ap (head_is (is_word k_select)) same ∙ (starts-head ts (Sign 41 ∷ r) st).0)
    ∙ then_is (λ a vs. past (is_sign 41) (gets (part 7 a)) vs) (whole ts e fe v (Sign 41 ∷ r) same (quiet-close r) f (omega arith)) (close (part 7 e) r)

pub opens-folded : (ts : List Token) (e : Expr) (a : Value.Aggregate) → Fine 0 ts e → (r : List Token) (f : ℕ) → length ((ts ++ Sign 41 ∷ []) ++ r) < f → folded a (expr f) ((ts ++ Sign 41 ∷ []) ++ r) ≡ gets (part 7 (tree.aggregate a e)) r
opens-folded ts e a fe r f m = then_is (λ e vs. past (is_sign 41) (gets (part 7 (tree.aggregate a e))) vs) (whole ts e fe _ (Sign 41 ∷ r) (append_assoc ts (Sign 41 ∷ []) r) (quiet-close r) f m) (close (part 7 (tree.aggregate a e)) r)

pub opens-aggregate : {gs : List Token} {a : Value.Aggregate} (ts : List Token) (e : Expr) → Aggregates gs a → Starts ts → Fine 0 ts e → Opens 7 (gs ++ Sign 40 ∷ (ts ++ Sign 41 ∷ [])) (tree.aggregate a e)
unfolding operand keyed choose is_word is_sign same_name some
opens-aggregate ts e g.counts st fe k l r s f m =
    let v = (ts ++ Sign 41 ∷ []) ++ r in
    choose_no (is_sign 42) _ (folded Value.Count (expr f)) v (ap (head_is (is_sign 42)) (append_assoc ts (Sign 41 ∷ []) r) ∙ (starts-head ts (Sign 41 ∷ r) st).2) ∙ opens-folded ts e _ fe r f (omega arith)
opens-aggregate ts e g.sums st fe k l r s f m = opens-folded ts e _ fe r f (omega arith)
opens-aggregate ts e g.mins st fe k l r s f m = opens-folded ts e _ fe r f (omega arith)
opens-aggregate ts e g.maxes st fe k l r s f m = opens-folded ts e _ fe r f (omega arith)

pub opens-count : Opens 7 (Word k_count ∷ Sign 40 ∷ Sign 42 ∷ Sign 41 ∷ []) tree.row_count
unfolding operand keyed choose is_word is_sign same_name some
opens-count k l r s f m = refl

pub opens-null : Opens 7 (Word k_null ∷ []) (tree.lit Value.Null)
unfolding operand keyed choose is_word same_name some
opens-null k l r s f m = refl

pub opens-text : (t : List ℕ) → Opens 7 (Quoted t ∷ []) (tree.lit (Value.Text t))
unfolding operand
opens-text t k l r s f m = refl

abbrev pub FineQ : List Token → Query → Type 0
FineQ ts q = (r : List Token) → After 6 r → (f : ℕ) → length (ts ++ r) < f → asks f (ts ++ r) ≡ gets q r

pub opens-exists : (ts : List Token) (q : Query) → FineQ ts q → Opens 7 (Word k_exists ∷ Sign 40 ∷ (ts ++ Sign 41 ∷ [])) (tree.exists q)
unfolding operand keyed choose is_word is_sign same_name some
opens-exists ts q fq k l r s f m =
    let same = append_assoc ts (Sign 41 ∷ []) r in
    let long = ap length same in
    ap (λ v. and_then (asks f v) (λ q vs. past (is_sign 41) (gets (part 7 (tree.exists q))) vs)) same
    ∙ then_is (λ q vs. past (is_sign 41) (gets (part 7 (tree.exists q))) vs) (fq (Sign 41 ∷ r) (6, omega arith, close_mark) f (omega arith)) (close (part 7 (tree.exists q)) r)

-- a query begins with select
abbrev pub Selects : List Token → Type 0
Selects [] = ⊥
Selects (t ∷ ts) = t ≡ Word k_select

pub selects : {ts : List Token} {q : Query} → Q ts q → Selects ts
selects (g.simple a b c d e f) = refl
selects (g.grouped a b c d e f h i) = refl

pub selects-head : (ts us : List Token) → Selects ts → head_is (is_word k_select) (ts ++ us) ≡ true
unfolding is_word same_name
selects-head [] us h = absurd h
selects-head (t ∷ ts) us h = ap (is_word k_select) h

pub opens-scalar : (ts : List Token) (q : Query) → Selects ts → one_column q ≡ true → FineQ ts q → Opens 7 (Sign 40 ∷ (ts ++ Sign 41 ∷ [])) (tree.scalar q)
unfolding operand bracket choose is_sign
opens-scalar ts q sel one fq k l r s f m =
    let same = append_assoc ts (Sign 41 ∷ []) r in
    let v = (ts ++ Sign 41 ∷ []) ++ r in
    let long = ap length same in
    let next : Query → Reader Part = λ q vs. past (is_sign 41) (λ ws. cond (one_column q) (gets (part 7 (tree.scalar q)) ws) refuses) vs in
    choose_yes (is_word k_select) (λ us. and_then (asks f v) next) (λ us. and_then (expr f 0 us) (λ a vs. past (is_sign 41) (gets (part 7 a)) vs)) v _ (ap (head_is (is_word k_select)) same ∙ selects-head ts (Sign 41 ∷ r) sel) refl
    ∙ ap (λ v. and_then (asks f v) next) same
    ∙ then_is next (fq (Sign 41 ∷ r) (6, omega arith, close_mark) f (omega arith)) (ap (λ b. cond b (gets (part 7 (tree.scalar q)) r) refuses) one)
