-- What the reader finds of expressions and queries, the grammar derives. Assumes nothing.
use Rattle.std.proofs.Common.{◌≡◌, ℕ, suc, ◌<◌, ◌≤◌, Bool, true, false, cond, ◌&&◌, leb, ◌⊎◌, List, [], ◌∷◌, ◌++◌, sym, refl, ap, ◌∙◌, subst, inl, inr, append_assoc, append-nil, arith}
use native.Mathlib.Decide.{le_ind}
use Rattle.std.proofs.lemmas.Bool.{leb-true, and_parts}
use Rattle.meaning.specs.Tree as tree
use Rattle.meaning.specs.Tree.{Name, Source, Limit, Expr, Exprs, Keys, Query, query, aggregates_any, aggregates_key}
use Rattle.meaning.specs.Text.{Token, Word, Sign, differs_sign, at_most_sign, at_least_sign, joined_sign, k_asc, k_desc, k_and, k_or, k_not, k_is, k_null}
use Rattle.meaning.specs.Grammar as g
use Rattle.meaning.specs.Grammar.{X, Xs, Q, Sources, Limits, Distinct, Wheres, Havings, KeyList, Orders, Aggregates}
use Rattle.grammar.specs.Reader.{gets, Reader, and_then, choose, past, is_sign, is_word, listed, to_exprs, Key, to_keys, Joint, ends, tests, joins, Operator, operators, joint_in, joint, Part, part, Level, More, null_test, tested, goes, more_of, direction, a_key}
use Rattle.grammar.proofs.Tools.{then-inv, gets-inv, choose-inv, past_word, sign-is, word-is}

-- the front of ts before r is what P says
abbrev pub Front : {A : Type 0} → (List Token → A → Type 0) → List Token → A → List Token → Type 0
Front P ts a r = (us : List Token) × (ts ≡ us ++ r) × P us a

-- an expression of a level is one of each level above
pub lower : (k l : ℕ) {us : List Token} {a : Expr} → k ≤ l → l < 8 → X l us a → X k us a
lower k l {us} {a} h = le_ind {n = k} (λ m. m < 8 → X m us a → X k us a) (λ m d. d) (λ m hk on s d. on (omega arith) (g.deeper {n = m} (omega arith) d)) l h

-- one item, and the rest after a comma
pub listed-inv : {A : Type 0} (item : Reader A) (rest : Reader (List A)) (ts : List Token) {l : List A} {r : List Token} → listed item rest ts ≡ gets l r →
    (a : A) × (us : List Token) × (item ts ≡ gets a us) × (((us ≡ r) × (a ∷ [] ≡ l)) ⊎ ((vs : List Token) × (as' : List A) × (us ≡ Sign 44 ∷ vs) × (rest vs ≡ gets as' r) × (a ∷ as' ≡ l)))
listed-inv {A} item rest ts {l} {r} h =
    let i = then-inv (item ts) _ h in (
      i.0,
      i.1,
      i.2,
      elim (choose-inv (is_sign 44) (λ vs. and_then (rest vs) (λ as' ws. gets (i.0 ∷ as') ws)) (gets (i.0 ∷ [])) i.1 i.3) [
        | inl c ↦ (let o = then-inv (rest c.1) _ c.4 in let e = gets-inv o.3 in inr (c.1, o.0, c.2 ∙ ap (λ t. t ∷ c.1) (sign-is 44 c.0 c.3), o.2 ∙ ap (gets o.0) e.1, e.0))
        | inr c ↦ (let e = gets-inv c.1 in inl (e.1, e.0))
      ],
    )

-- the operators by the grammar's rules
abbrev RuleFor : Token → ℕ → ℕ → (Expr → Expr → Expr) → Type 0
RuleFor t n l op = (n ≤ 5) × ((us vs : List Token) (a b : Expr) → X l us a → X (suc n) vs b → X n (us ++ t ∷ vs) (op a b))

abbrev Rule : Token → Joint → Type 0
Rule t ends = Unit {0}
Rule t tests = t ≡ Word k_is
Rule t (joins n l op) = RuleFor t n l op

abbrev Rules : List Operator → Type 0
Rules [] = Unit {0}
Rules (o ∷ os) = ((t : Token) → o.sign t ≡ true → RuleFor t o.level o.left o.op) × Rules os

in-rules : (os : List Operator) (t : Token) → Rules os → Rule t (joint_in os t)
unfolding joint_in
in-rules [] t h = tt
in-rules (o ∷ os) t h = go (o.sign t) refl (in-rules os t h.1)
  where
    go : (b : Bool) → o.sign t ≡ b → Rule t (joint_in os t) → Rule t (cond b (joins o.level o.left o.op) (joint_in os t))
    go true e k = h.0 t e
    go false e k = k

by_sign : (c n l : ℕ) (op : Expr → Expr → Expr) → RuleFor (Sign c) n l op → (t : Token) → is_sign c t ≡ true → RuleFor t n l op
by_sign c n l op h t e = subst (λ t. RuleFor t n l op) (sym (sign-is c t e)) h

by_word : (c : Name) (n l : ℕ) (op : Expr → Expr → Expr) → RuleFor (Word c) n l op → (t : Token) → is_word c t ≡ true → RuleFor t n l op
by_word c n l op h t e = subst (λ t. RuleFor t n l op) (sym (word-is c t e)) h

rules : Rules operators
rules = (
  by_word k_or 0 0 tree.or (omega arith, λ us vs a b x y. g.ors x y),
  (
    by_word k_and 1 1 tree.and (omega arith, λ us vs a b x y. g.ands x y),
    (
      by_sign 61 3 4 tree.equal (omega arith, λ us vs a b x y. g.equals x y),
      (
        by_sign differs_sign 3 4 (λ a b. tree.not' (tree.equal a b)) (omega arith, λ us vs a b x y. g.differs x y),
        (
          by_sign 60 3 4 tree.below (omega arith, λ us vs a b x y. g.belows x y),
          (
            by_sign 62 3 4 (λ a b. tree.below b a) (omega arith, λ us vs a b x y. g.aboves x y),
            (
              by_sign at_most_sign 3 4 tree.at_most (omega arith, λ us vs a b x y. g.at_mosts x y),
              (
                by_sign at_least_sign 3 4 (λ a b. tree.at_most b a) (omega arith, λ us vs a b x y. g.at_leasts x y),
                (
                  by_sign 43 4 4 tree.plus (omega arith, λ us vs a b x y. g.adds x y),
                  (
                    by_sign 45 4 4 tree.minus (omega arith, λ us vs a b x y. g.subs x y),
                    (
                      by_sign joined_sign 4 4 tree.concat (omega arith, λ us vs a b x y. g.concats x y),
                      (by_sign 42 5 5 tree.times (omega arith, λ us vs a b x y. g.muls x y), tt),
                    ),
                  ),
                ),
              ),
            ),
          ),
        ),
      ),
    ),
  ),
)

joint-rule : (t : Token) → Rule t (joint t)
unfolding joint
joint-rule t = go (is_word k_is t) refl
  where
    go : (b : Bool) → is_word k_is t ≡ b → Rule t (cond b tests (joint_in operators t))
    go true e = word-is k_is t e
    go false e = in-rules operators t rules

null-inv : (ts : List Token) {b : Bool} {r : List Token} → null_test ts ≡ gets b r → (us : List Token) × (ts ≡ us ++ r) × ((vs : List Token) (a : Expr) → X 4 vs a → X 3 (vs ++ Word k_is ∷ us) (tested b a))
null-inv ts {b} {r} h = elim (choose-inv (is_word k_not) (past (is_word k_null) (gets true)) (past (is_word k_null) (gets false)) ts h) [
  | inl c ↦ (let p = past_word k_null (gets true) c.1 c.4 in let e = gets-inv p.2 in
      (Word k_not ∷ Word k_null ∷ [], c.2 ∙ (λ j. word-is k_not c.0 c.3 j ∷ p.1 j) ∙ ap (λ z. Word k_not ∷ Word k_null ∷ z) e.1, λ vs a x. subst (λ b. X 3 (vs ++ Word k_is ∷ Word k_not ∷ Word k_null ∷ []) (tested b a)) e.0 (g.no_null_test x)))
  | inr c ↦ (let p = past_word k_null (gets false) ts c.1 in let e = gets-inv p.2 in
      (Word k_null ∷ [], p.1 ∙ ap (λ z. Word k_null ∷ z) e.1, λ vs a x. subst (λ b. X 3 (vs ++ Word k_is ∷ Word k_null ∷ []) (tested b a)) e.0 (g.null_test x)))
]

abbrev pub SoundX : Level → Type 0
SoundX x = (n : ℕ) (ts : List Token) (e : Expr) (r : List Token) → n < 7 → x n ts ≡ gets e r → Front (X n) ts e r

abbrev pub SoundM : More → Type 0
SoundM m = (k : ℕ) (a : Part) (us ts : List Token) (e : Expr) (r : List Token) → k < 7 → k ≤ a.level → a.level < 8 → X a.level us a.it → m k a ts ≡ gets e r → (vs : List Token) × (ts ≡ vs ++ r) × X k (us ++ vs) e

abbrev pub SoundXs : Reader (List Expr) → Type 0
SoundXs xs = (ts : List Token) (es : List Expr) (r : List Token) → xs ts ≡ gets es r → Front Xs ts (to_exprs es) r

abbrev pub SoundKs : Reader (List Key) → Type 0
SoundKs ks = (ts : List Token) (l : List Key) (r : List Token) → ks ts ≡ gets l r → Front KeyList ts (to_keys l) r

module _ (x : Level) (m : More) (sx : SoundX x) (sm : SoundM m) where
  pub sound_more : SoundM (more_of x m)
  unfolding more_of goes
  sound_more k a us [] e r l u v d h =
      let i = gets-inv h in
      ([], i.1, subst (X k (us ++ [])) i.0 (rw append-nil (lower k a.level u v d)))
  sound_more k a us (t ∷ ts) e r l u v d h = go (joint t) (joint-rule t) h
    where
      stop : gets a.it (t ∷ ts) ≡ gets e r → (vs : List Token) × (t ∷ ts ≡ vs ++ r) × X k (us ++ vs) e
      stop h = let i = gets-inv h in ([], i.1, subst (X k (us ++ [])) i.0 (rw append-nil (lower k a.level u v d)))

      -- on with a longer part
      on : (ws : List Token) (n : ℕ) (b : Expr) (rest : List Token) → t ∷ ts ≡ ws ++ rest → k ≤ n → n < 8 → X n (us ++ ws) b → m k (part n b) rest ≡ gets e r → (vs : List Token) × (t ∷ ts ≡ vs ++ r) × X k (us ++ vs) e
      on ws n b rest same kn nl x' h =
          let o = sm k (part n b) (us ++ ws) rest e r l kn nl x' h in
          (ws ++ o.0, same ∙ ap (λ z. ws ++ z) o.1 ∙ sym (append_assoc ws o.0 r), rw append_assoc at o.2)

      go : (j : Joint) → Rule t j → goes x m k a t ts j ≡ gets e r → (vs : List Token) × (t ∷ ts ≡ vs ++ r) × X k (us ++ vs) e
      go ends q h = stop h
      go tests q h = if-tests (leb k 3 && leb 4 a.level) refl h
        where
          if-tests : (b : Bool) → (leb k 3 && leb 4 a.level) ≡ b → cond b (and_then (null_test ts) (λ b us. m k (part 3 (tested b a.it)) us)) (gets a.it (t ∷ ts)) ≡ gets e r → (vs : List Token) × (t ∷ ts ≡ vs ++ r) × X k (us ++ vs) e
          if-tests true w h =
              let p = and_parts (leb k 3) (leb 4 a.level) w in
              let i = then-inv (null_test ts) _ h in
              let n = null-inv ts i.2 in
              on (Word k_is ∷ n.0) 3 (tested i.0 a.it) i.1 (λ j. q j ∷ n.1 j) (leb-true k 3 p.0) (omega arith) (n.2 us a.it (lower 4 a.level (leb-true 4 a.level p.1) v d)) i.3
          if-tests false w h = stop h
      go (joins n o op) q h = if-joins (leb k n && leb o a.level) refl h
        where
          if-joins : (b : Bool) → (leb k n && leb o a.level) ≡ b → cond b (and_then (x (suc n) ts) (λ b us. m k (part n (op a.it b)) us)) (gets a.it (t ∷ ts)) ≡ gets e r → (vs : List Token) × (t ∷ ts ≡ vs ++ r) × X k (us ++ vs) e
          if-joins true w h =
              let p = and_parts (leb k n) (leb o a.level) w in
              let i = then-inv (x (suc n) ts) _ h in
              let f = sx (suc n) ts i.0 i.1 (omega (arith, q.0)) i.2 in
              on (t ∷ f.0) n (op a.it i.0) i.1 (ap (λ z. t ∷ z) f.1) (leb-true k n p.0) (omega (arith, q.0)) (q.1 us f.0 a.it i.0 (lower o a.level (leb-true o a.level p.1) v d) f.2) i.3
          if-joins false w h = stop h

-- lists of expressions and of keys
module _ (x : Reader Expr) (sx : (ts : List Token) (e : Expr) (r : List Token) → x ts ≡ gets e r → Front (X 0) ts e r) where
  pub sound-exprs : (xs : Reader (List Expr)) → SoundXs xs → SoundXs (listed x xs)
  unfolding to_exprs
  sound-exprs xs so ts l r h =
      let i = listed-inv x xs ts h in
      let f = sx ts i.0 i.1 i.2 in
      elim i.3 [
        | inl c ↦ (f.0, f.1 ∙ ap (λ z. f.0 ++ z) c.0, subst (λ l. Xs f.0 (to_exprs l)) c.1 (g.one f.2))
        | inr c ↦ (let o = so c.0 c.1 r c.3 in
            (f.0 ++ Sign 44 ∷ o.0, f.1 ∙ ap (λ z. f.0 ++ z) (c.2 ∙ ap (λ z. Sign 44 ∷ z) o.1) ∙ sym (append_assoc f.0 (Sign 44 ∷ o.0) r), subst (λ l. Xs (f.0 ++ Sign 44 ∷ o.0) (to_exprs l)) c.4 (g.next f.2 o.2)))
      ]

  direction-inv : (ts : List Token) {d : Bool} {r : List Token} → direction ts ≡ gets d r → ((ts ≡ r) × (false ≡ d)) ⊎ (((ts ≡ Word k_asc ∷ r) × (false ≡ d)) ⊎ ((ts ≡ Word k_desc ∷ r) × (true ≡ d)))
  direction-inv ts {d} {r} h = elim (choose-inv (is_word k_asc) (gets false) (choose (is_word k_desc) (gets true) (gets false)) ts h) [
    | inl c ↦ (let e = gets-inv c.4 in inr (inl (c.2 ∙ (λ j. word-is k_asc c.0 c.3 j ∷ e.1 j), e.0)))
    | inr c ↦ (elim (choose-inv (is_word k_desc) (gets true) (gets false) ts c.1) [
      | inl o ↦ (let e = gets-inv o.4 in inr (inr (o.2 ∙ (λ j. word-is k_desc o.0 o.3 j ∷ e.1 j), e.0)))
      | inr o ↦ (let e = gets-inv o.1 in inl (e.1, e.0))
    ])
  ]

  -- a key, alone and before others
  pub record KeyFront (ts : List Token) (k : Key) (r : List Token) : Type 0 where
    pub us : List Token
    pub same : ts ≡ us ++ r
    pub alone : KeyList us (tree.key k.by k.down tree.unsorted)
    pub before : (vs : List Token) (ks : Keys) → KeyList vs ks → KeyList (us ++ Sign 44 ∷ vs) (tree.key k.by k.down ks)

  key-front : (ts : List Token) {k : Key} {r : List Token} → a_key x ts ≡ gets k r → KeyFront ts k r
  key-front ts {k} {r} h =
      let i = then-inv (x ts) _ h in
      let f = sx ts i.0 i.1 i.2 in
      let o = then-inv (direction i.1) _ i.3 in
      let e = gets-inv o.3 in
      let d = direction-inv i.1 o.2 in
      elim d [
        | inl c ↦ subst (λ k. KeyFront ts k r) ((λ j. record { by = i.0; down = c.1 j }) ∙ e.0) (record { us = f.0; same = f.1 ∙ ap (λ z. f.0 ++ z) (c.0 ∙ e.1); alone = g.last_up f.2; before = λ vs ks y. g.more_up f.2 y })
        | inr d ↦ (elim d [
          | inl c ↦ subst (λ k. KeyFront ts k r) ((λ j. record { by = i.0; down = c.1 j }) ∙ e.0) (record {
            us = f.0 ++ Word k_asc ∷ [];
            same = f.1 ∙ ap (λ z. f.0 ++ z) (c.0 ∙ ap (λ z. Word k_asc ∷ z) e.1) ∙ sym (append_assoc f.0 (Word k_asc ∷ []) r);
            alone = g.last_asc f.2;
            before = λ vs ks y. subst (λ v. KeyList v (tree.key i.0 false ks)) (sym (append_assoc f.0 (Word k_asc ∷ []) (Sign 44 ∷ vs))) (g.more_asc f.2 y);
          })
          | inr c ↦ subst (λ k. KeyFront ts k r) ((λ j. record { by = i.0; down = c.1 j }) ∙ e.0) (record {
            us = f.0 ++ Word k_desc ∷ [];
            same = f.1 ∙ ap (λ z. f.0 ++ z) (c.0 ∙ ap (λ z. Word k_desc ∷ z) e.1) ∙ sym (append_assoc f.0 (Word k_desc ∷ []) r);
            alone = g.last_down f.2;
            before = λ vs ks y. subst (λ v. KeyList v (tree.key i.0 true ks)) (sym (append_assoc f.0 (Word k_desc ∷ []) (Sign 44 ∷ vs))) (g.more_down f.2 y);
          })
        ])
      ]

  pub sound-keys : (ks : Reader (List Key)) → SoundKs ks → SoundKs (listed (a_key x) ks)
  unfolding to_keys
  sound-keys ks so ts l r h =
      let i = listed-inv (a_key x) ks ts h in
      let f = key-front ts i.2 in
      elim i.3 [
        | inl c ↦ (f.us, f.same ∙ ap (λ z. f.us ++ z) c.0, subst (λ l. KeyList f.us (to_keys l)) c.1 f.alone)
        | inr c ↦ (let o = so c.0 c.1 r c.3 in
            (f.us ++ Sign 44 ∷ o.0, f.same ∙ ap (λ z. f.us ++ z) (c.2 ∙ ap (λ z. Sign 44 ∷ z) o.1) ∙ sym (append_assoc f.us (Sign 44 ∷ o.0) r), subst (λ l. KeyList (f.us ++ Sign 44 ∷ o.0) (to_keys l)) c.4 (f.before o.0 _ o.2)))
      ]
