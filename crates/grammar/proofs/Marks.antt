-- What ends a list or a clause. Assumes nothing.
use Rattle.std.proofs.Common.{◌≡◌, ℕ, ◌<◌, ◌≤◌, false, List, [], ◌∷◌, ◌++◌, length, sym, refl, ap, ◌∙◌, subst, le_refl, arith}
use Rattle.meaning.specs.Tree.{Expr}
use Rattle.meaning.specs.Meaning.{same_name, some}
use Rattle.meaning.specs.Text.{Token, Word, Sign, k_from, k_where, k_group, k_having, k_order, k_asc, k_desc, k_limit, k_offset}
use Rattle.grammar.specs.Reader.{refuses, gets, head_is, is_sign, is_word, a_name, ends, joint_in, joint, expr}
use Rattle.grammar.proofs.Climb.{binds, above, Stops, Idle, Fine, done}

-- the words and signs that end a list or a clause, in the order of the clauses of a query
pub data Mark : ℕ → Token → Type 0 where
  from_mark : Mark 0 (Word k_from)
  where_mark : Mark 1 (Word k_where)
  group_mark : Mark 2 (Word k_group)
  having_mark : Mark 3 (Word k_having)
  order_mark : Mark 4 (Word k_order)
  limit_mark : Mark 5 (Word k_limit)
  close_mark : Mark 6 (Sign 41)

abbrev pub After : ℕ → List Token → Type 0
After n [] = Unit {0}
After n (t ∷ ts) = (m : ℕ) × (n ≤ m) × Mark m t

pub after_more : (n m : ℕ) (r : List Token) → n ≤ m → After m r → After n r
after_more n m [] l h = tt
after_more n m (t ∷ r) l h = (h.0, omega (arith, h.1), h.2)

pub mark-ends : {m : ℕ} {t : Token} → Mark m t → joint t ≡ ends
unfolding joint joint_in is_word is_sign same_name
mark-ends from_mark = refl
mark-ends where_mark = refl
mark-ends group_mark = refl
mark-ends having_mark = refl
mark-ends order_mark = refl
mark-ends limit_mark = refl
mark-ends close_mark = refl

pub mark-sign : {m : ℕ} {t : Token} → Mark m t → (is_sign 46 t ≡ false) × (is_sign 44 t ≡ false)
unfolding is_sign
mark-sign from_mark = (refl, refl)
mark-sign where_mark = (refl, refl)
mark-sign group_mark = (refl, refl)
mark-sign having_mark = (refl, refl)
mark-sign order_mark = (refl, refl)
mark-sign limit_mark = (refl, refl)
mark-sign close_mark = (refl, refl)

pub mark-way : {m : ℕ} {t : Token} → Mark m t → (is_word k_asc t ≡ false) × (is_word k_desc t ≡ false)
unfolding is_word same_name
mark-way from_mark = (refl, refl)
mark-way where_mark = (refl, refl)
mark-way group_mark = (refl, refl)
mark-way having_mark = (refl, refl)
mark-way order_mark = (refl, refl)
mark-way limit_mark = (refl, refl)
mark-way close_mark = (refl, refl)

pub mark-name : {m : ℕ} {t : Token} (ts : List Token) → Mark m t → a_name (t ∷ ts) ≡ refuses
unfolding a_name same_name some
mark-name ts from_mark = refl
mark-name ts where_mark = refl
mark-name ts group_mark = refl
mark-name ts having_mark = refl
mark-name ts order_mark = refl
mark-name ts limit_mark = refl
mark-name ts close_mark = refl

pub mark-where : {m : ℕ} {t : Token} → 2 ≤ m → Mark m t → is_word k_where t ≡ false
unfolding is_word same_name
mark-where l from_mark = absurd (omega arith)
mark-where l where_mark = absurd (omega arith)
mark-where l group_mark = refl
mark-where l having_mark = refl
mark-where l order_mark = refl
mark-where l limit_mark = refl
mark-where l close_mark = refl

pub mark-group : {m : ℕ} {t : Token} → 3 ≤ m → Mark m t → is_word k_group t ≡ false
unfolding is_word same_name
mark-group l from_mark = absurd (omega arith)
mark-group l where_mark = absurd (omega arith)
mark-group l group_mark = absurd (omega arith)
mark-group l having_mark = refl
mark-group l order_mark = refl
mark-group l limit_mark = refl
mark-group l close_mark = refl

pub mark-having : {m : ℕ} {t : Token} → 4 ≤ m → Mark m t → is_word k_having t ≡ false
unfolding is_word same_name
mark-having l from_mark = absurd (omega arith)
mark-having l where_mark = absurd (omega arith)
mark-having l group_mark = absurd (omega arith)
mark-having l having_mark = absurd (omega arith)
mark-having l order_mark = refl
mark-having l limit_mark = refl
mark-having l close_mark = refl

pub mark-order : {m : ℕ} {t : Token} → 5 ≤ m → Mark m t → is_word k_order t ≡ false
unfolding is_word same_name
mark-order l from_mark = absurd (omega arith)
mark-order l where_mark = absurd (omega arith)
mark-order l group_mark = absurd (omega arith)
mark-order l having_mark = absurd (omega arith)
mark-order l order_mark = absurd (omega arith)
mark-order l limit_mark = refl
mark-order l close_mark = refl

pub mark-limit : {m : ℕ} {t : Token} → 6 ≤ m → Mark m t → (is_word k_limit t ≡ false) × (is_word k_offset t ≡ false)
unfolding is_word same_name
mark-limit l from_mark = absurd (omega arith)
mark-limit l where_mark = absurd (omega arith)
mark-limit l group_mark = absurd (omega arith)
mark-limit l having_mark = absurd (omega arith)
mark-limit l order_mark = absurd (omega arith)
mark-limit l limit_mark = absurd (omega arith)
mark-limit l close_mark = (refl, refl)

-- nothing goes on after an expression there
abbrev pub Quiet : List Token → Type 0
Quiet [] = Unit {0}
Quiet (t ∷ ts) = (joint t ≡ ends) × (is_sign 46 t ≡ false)

pub quiet-after : (n : ℕ) (r : List Token) → After n r → Quiet r
quiet-after n [] h = tt
quiet-after n (t ∷ r) h = (mark-ends h.2, (mark-sign h.2).0)

pub after-comma : (n : ℕ) (r : List Token) → After n r → head_is (is_sign 44) r ≡ false
after-comma n [] h = refl
after-comma n (t ∷ r) h = (mark-sign h.2).1

pub quiet-stops : (r : List Token) → Quiet r → Stops 0 r × Idle 0 r
quiet-stops [] h = (tt, tt)
quiet-stops (t ∷ r) h = ((subst (λ j. binds j ≤ 0) (sym h.0) (le_refl 0), h.1), subst (λ j. above j ≤ 0) (sym h.0) (le_refl 0))

pub quiet-comma : (r : List Token) → Quiet (Sign 44 ∷ r)
unfolding joint joint_in is_word is_sign
quiet-comma r = (refl, refl)

pub quiet-asc : (r : List Token) → Quiet (Word k_asc ∷ r)
unfolding joint joint_in is_word is_sign same_name
quiet-asc r = (refl, refl)

pub quiet-desc : (r : List Token) → Quiet (Word k_desc ∷ r)
unfolding joint joint_in is_word is_sign same_name
quiet-desc r = (refl, refl)

-- a whole expression
pub whole : (ts : List Token) (e : Expr) → Fine 0 ts e → (v r : List Token) → v ≡ ts ++ r → Quiet r → (f : ℕ) → length v < f → expr f 0 v ≡ gets e r
whole ts e fine v r same q f l = let s = quiet-stops r q in ap (expr f 0) same ∙ done 0 ts e fine r s.0 s.1 f (subst (λ u. length u < f) same l)
