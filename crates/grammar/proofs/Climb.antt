-- How an expression that the grammar derives is climbed over. Assumes nothing.
use Rattle.std.proofs.Common.{◌≡◌, ℕ, zero, suc, ◌<◌, ◌≤◌, Bool, true, false, cond, ◌&&◌, leb, List, [], ◌∷◌, ◌++◌, length, sym, refl, ap, ◌∙◌, subst, append_assoc, le_refl, arith, length-append}
use Rattle.std.proofs.lemmas.Bool.{le-leb, lt-leb}
use Rattle.meaning.specs.Tree.{Expr}
use Rattle.meaning.specs.Meaning.{same_name}
use Rattle.meaning.specs.Text.{Token, Word, k_not, k_is, k_null}
use Rattle.grammar.specs.Reader.{gets, and_then, choose, is_sign, is_word, Joint, ends, tests, joins, Operator, operators, joint_in, joint, part, null_test, tested, goes, more_of, expr, more}
use Rattle.grammar.proofs.Tools.{then_is}

-- the level that a left side of a joint has to have
abbrev pub binds : Joint → ℕ
binds ends = 0
binds tests = 4
binds (joins n l op) = l

-- one more than the level of a joint, or 0
abbrev pub above : Joint → ℕ
above ends = 0
above tests = 4
above (joins n l op) = suc n

-- r goes on after an expression of level n, if at all
abbrev pub Stops : ℕ → List Token → Type 0
Stops n [] = Unit {0}
Stops n (t ∷ ts) = (binds (joint t) ≤ n) × (is_sign 46 t ≡ false)

-- r does not go on at level n or deeper
abbrev pub Idle : ℕ → List Token → Type 0
Idle n [] = Unit {0}
Idle n (t ∷ ts) = above (joint t) ≤ n

pub stops-more : (n m : ℕ) (r : List Token) → n ≤ m → Stops n r → Stops m r
stops-more n m [] l h = tt
stops-more n m (t ∷ r) l h = (omega (arith, h.0), h.1)

-- what holds of every operator
abbrev pub Sound : ℕ → ℕ → Type 0
Sound n l = (n ≤ l) × (l ≤ 5) × (l ≤ 2 → n ≤ 1)

abbrev pub Sound-joint : Joint → Type 0
Sound-joint ends = Unit {0}
Sound-joint tests = Unit {0}
Sound-joint (joins n l op) = Sound n l

abbrev pub Each : List Operator → Type 0
Each [] = Unit {0}
Each (o ∷ os) = Sound o.level o.left × Each os

pub in-sound : (os : List Operator) (t : Token) → Each os → Sound-joint (joint_in os t)
unfolding joint_in
in-sound [] t h = tt
in-sound (o ∷ os) t h = go (o.sign t) (in-sound os t h.1)
  where
    go : (b : Bool) → Sound-joint (joint_in os t) → Sound-joint (cond b (joins o.level o.left o.op) (joint_in os t))
    go true k = h.0
    go false k = k

pub each : Each operators
each = (s, (s1, (c, (c, (c, (c, (c, (c, (p, (p, (p, (m, tt))))))))))))
  where
    s : Sound 0 0
    s = (omega arith, omega arith, λ h. omega arith)

    s1 : Sound 1 1
    s1 = (omega arith, omega arith, λ h. omega arith)

    c : Sound 3 4
    c = (omega arith, omega arith, λ h. absurd (omega arith))

    p : Sound 4 4
    p = (omega arith, omega arith, λ h. absurd (omega arith))

    m : Sound 5 5
    m = (omega arith, omega arith, λ h. absurd (omega arith))

pub joint-sound : (t : Token) → Sound-joint (joint t)
unfolding joint
joint-sound t = go (is_word k_is t)
  where
    go : (b : Bool) → Sound-joint (cond b tests (joint_in operators t))
    go true = tt
    go false = in-sound operators t each

pub idle-of : (n m : ℕ) (j : Joint) → Sound-joint j → n < m → binds j ≤ n → above j ≤ m
idle-of n m ends h l k = omega arith
idle-of n m tests h l k = omega arith
idle-of n m (joins p q op) h l k = omega (arith, h.0)

pub idle-next : (n m : ℕ) (r : List Token) → n < m → Stops n r → Idle m r
idle-next n m [] l h = tt
idle-next n m (t ∷ r) l h = idle-of n m (joint t) (joint-sound t) l h.0

pub idle-two : (r : List Token) → Stops 2 r → Idle 2 r
idle-two [] h = tt
idle-two (t ∷ r) h = go (joint t) (joint-sound t) h.0
  where
    go : (j : Joint) → Sound-joint j → binds j ≤ 2 → above j ≤ 2
    go ends h l = omega arith
    go tests h l = absurd (omega arith)
    go (joins p q op) h l = omega (arith, h.2 l)

pub idle-six : (r : List Token) → Idle 6 r
idle-six [] = tt
idle-six (t ∷ r) = go (joint t) (joint-sound t)
  where
    go : (j : Joint) → Sound-joint j → above j ≤ 6
    go ends h = omega arith
    go tests h = omega arith
    go (joins p q op) h = omega (arith, h.0, h.1)

-- nothing more is joined
pub not-above : (k n : ℕ) (b : Bool) → suc n ≤ k → (leb k n && b) ≡ false
not-above k n b l = ap (λ v. v && b) (lt-leb k n l)

pub more-stops : (n : ℕ) (e : Expr) (r : List Token) → Idle n r → (f : ℕ) → 1 ≤ f → more f n (part n e) r ≡ gets e r
unfolding expr more_of goes
more-stops n e r h zero l = absurd (omega arith)
more-stops n e [] h (suc f) l = refl
more-stops n e (t ∷ r) h (suc f) l = go (joint t) h
  where
    go : (j : Joint) → above j ≤ n → goes (expr f) (more f) n (part n e) t r j ≡ gets e (t ∷ r)
    go ends h = refl
    go tests h = ap (λ v. cond v (and_then (null_test r) (λ b us. more f n (part 3 (tested b e)) us)) (gets e (t ∷ r))) (not-above n 3 _ h)
    go (joins p l op) h = ap (λ v. cond v (and_then (expr f (suc p) r) (λ b us. more f n (part p (op e b)) us)) (gets e (t ∷ r))) (not-above n p _ h)

-- a part of a level is one of the level above, where nothing needs more
pub more-level : (f k n : ℕ) (e : Expr) (r : List Token) → Stops n r → more f k (part (suc n) e) r ≡ more f k (part n e) r
unfolding expr more_of goes
more-level zero k n e r h = refl
more-level (suc f) k n e [] h = refl
more-level (suc f) k n e (t ∷ r) h = go (joint t) h.0
  where
    both : (l : ℕ) → l ≤ n → leb l (suc n) ≡ leb l n
    both l h = le-leb l (suc n) (omega arith) ∙ sym (le-leb l n h)

    go : (j : Joint) → binds j ≤ n → goes (expr f) (more f) k (part (suc n) e) t r j ≡ goes (expr f) (more f) k (part n e) t r j
    go ends h = refl
    go tests h = ap (λ v. cond (leb k 3 && v) (and_then (null_test r) (λ b us. more f k (part 3 (tested b e)) us)) (gets e (t ∷ r))) (both 4 h)
    go (joins p l op) h = ap (λ v. cond (leb k p && v) (and_then (expr f (suc p) r) (λ b us. more f k (part p (op e b)) us)) (gets e (t ∷ r))) (both l h)

-- the front ts of level n is read as e, whatever goes on after it
abbrev pub Fine : ℕ → List Token → Expr → Type 0
Fine n ts e = (k : ℕ) → k ≤ n → (r : List Token) → Stops n r → (f : ℕ) → length (ts ++ r) < f → (h : ℕ) × (length r < h) × (expr f k (ts ++ r) ≡ more h k (part n e) r)

pub done : (n : ℕ) (ts : List Token) (e : Expr) → Fine n ts e → (r : List Token) → Stops n r → Idle n r → (f : ℕ) → length (ts ++ r) < f → expr f n (ts ++ r) ≡ gets e r
done n ts e fine r s i f l = let it = fine n (le_refl n) r s f l in it.2 ∙ more-stops n e r i it.0 (omega (arith, it.1))

pub fine-deeper : (n : ℕ) (ts : List Token) (e : Expr) → Fine (suc n) ts e → Fine n ts e
fine-deeper n ts e fine k l r s f m = let it = fine k (omega arith) r (stops-more n (suc n) r (omega arith) s) f m in (it.0, it.1, it.2 ∙ more-level it.0 k n e r s)

pub both-leb : (k n l : ℕ) → k ≤ n → (leb k n && leb l l) ≡ true
both-leb k n l h = ap (λ v. v && leb l l) (le-leb k n h) ∙ le-leb l l (le_refl l)

pub fine-join : (n l : ℕ) (t : Token) (op : Expr → Expr → Expr) (ts us : List Token) (a b : Expr) → joint t ≡ joins n l op → is_sign 46 t ≡ false → n ≤ l → Fine l ts a → Fine (suc n) us b → Fine n (ts ++ t ∷ us) (op a b)
unfolding expr more_of goes
fine-join n l t op ts us a b is dot under fa fb k kn r s f m =
    let same = append_assoc ts (t ∷ us) r in
    let first = fa k (omega arith) (t ∷ (us ++ r)) (subst (λ j. binds j ≤ l) (sym is) (le_refl l), dot) f (rw append_assoc at m) in
    go first.0 first.1 (ap (expr f k) same ∙ first.2)
  where
    go : (h : ℕ) → length (t ∷ (us ++ r)) < h → expr f k ((ts ++ t ∷ us) ++ r) ≡ more h k (part l a) (t ∷ (us ++ r)) → (h : ℕ) × (length r < h) × (expr f k ((ts ++ t ∷ us) ++ r) ≡ more h k (part n (op a b)) r)
    go zero q p = absurd (omega arith)
    go (suc h) q p = (
      h,
      omega (arith, length-append us r),
      p
          ∙ ap (goes (expr h) (more h) k (part l a) t (us ++ r)) is
          ∙ ap (λ v. cond v (and_then (expr h (suc n) (us ++ r)) (λ b us. more h k (part n (op a b)) us)) (gets a (t ∷ (us ++ r)))) (both-leb k n l kn)
          ∙ then_is (λ b us. more h k (part n (op a b)) us) (done (suc n) us b fb r (stops-more n (suc n) r (omega arith) s) (idle-next n (suc n) r (omega arith) s) h (omega arith)) refl,
    )

pub is-joint : joint (Word k_is) ≡ tests
unfolding joint is_word same_name
is-joint = refl

pub is-dot : is_sign 46 (Word k_is) ≡ false
unfolding is_sign
is-dot = refl

pub fine-test : (ts us : List Token) (a : Expr) (b : Bool) → ((r : List Token) → null_test (us ++ r) ≡ gets b r) → Fine 4 ts a → Fine 3 (ts ++ Word k_is ∷ us) (tested b a)
unfolding expr more_of goes
fine-test ts us a b test fa k kn r s f m =
    let same = append_assoc ts (Word k_is ∷ us) r in
    let first = fa k (omega arith) (Word k_is ∷ (us ++ r)) (subst (λ j. binds j ≤ 4) (sym is-joint) (le_refl 4), is-dot) f (rw append_assoc at m) in
    go first.0 first.1 (ap (expr f k) same ∙ first.2)
  where
    go : (h : ℕ) → length (Word k_is ∷ (us ++ r)) < h → expr f k ((ts ++ Word k_is ∷ us) ++ r) ≡ more h k (part 4 a) (Word k_is ∷ (us ++ r)) → (h : ℕ) × (length r < h) × (expr f k ((ts ++ Word k_is ∷ us) ++ r) ≡ more h k (part 3 (tested b a)) r)
    go zero q p = absurd (omega arith)
    go (suc h) q p = (
      h,
      omega (arith, length-append us r),
      p
          ∙ ap (goes (expr h) (more h) k (part 4 a) (Word k_is) (us ++ r)) is-joint
          ∙ ap (λ v. cond v (and_then (null_test (us ++ r)) (λ b us. more h k (part 3 (tested b a)) us)) (gets a (Word k_is ∷ (us ++ r)))) (both-leb k 3 4 kn)
          ∙ then_is (λ b us. more h k (part 3 (tested b a)) us) (test r) refl,
    )

pub is-null : (r : List Token) → null_test (Word k_null ∷ r) ≡ gets false r
unfolding choose is_word same_name
is-null r = refl

pub is-no-null : (r : List Token) → null_test (Word k_not ∷ Word k_null ∷ r) ≡ gets true r
unfolding choose is_word same_name
is-no-null r = refl
