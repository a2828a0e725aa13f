-- What the reader finds of operands and queries, the grammar derives. Assumes nothing.
use Rattle.std.proofs.Common.{◌≡◌, ℕ, zero, suc, ◌<◌, ◌≤◌, Bool, true, false, cond, T, eqb, ltb, leb, ◌⊎◌, List, [], ◌∷◌, ◌++◌, pos, sym, refl, ap, ◌∙◌, subst, inl, inr, append_assoc, arith}
use Rattle.std.proofs.lemmas.Bool.{leb-true, ltb-true, eqb-true}
use Rattle.meaning.specs.Value as Value
use Rattle.meaning.specs.Value.{Num}
use Rattle.meaning.specs.Tree as tree
use Rattle.meaning.specs.Tree.{Name, Source, Limit, Expr, Exprs, Keys, Query, query, aggregates_any, aggregates_key}
use Rattle.meaning.specs.Text.{Token, Word, Number, Quoted, Sign, Wrong, plain_name, k_select, k_distinct, k_from, k_where, k_group, k_by, k_having, k_order, k_limit, k_offset, k_not, k_null, k_exists, k_count, k_sum, k_min, k_max}
use Rattle.meaning.specs.Grammar as g
use Rattle.meaning.specs.Grammar.{X, Xs, Q, Sources, Limits, Distinct, Wheres, Havings, KeyList, Orders, Aggregates}
use Rattle.grammar.specs.Reader.{Got, refuses, gets, Reader, and_then, choose, past, is_sign, is_word, a_name, a_number, list_of, to_exprs, Key, to_keys, Part, part, one, Level, condition, called, a_source, sources, Groups, groups, orders, limits, asked, filtered, question, single, one_column, bracket, folded, keyed, column, operand, expr, more, exprs, keys}
use Rattle.grammar.proofs.Tools.{never, clash, true-T, then-inv, cond-inv, gets-inv, choose-inv, past-sign, past_word, sign-is, word-is, name-inv, number-inv}
use Rattle.grammar.proofs.Sound.{Front, listed-inv, SoundX, SoundM, SoundXs, SoundKs, sound_more, sound-exprs, sound-keys}

regroup : (a b c d r : List Token) → Word k_select ∷ (a ++ (b ++ Word k_from ∷ (c ++ (d ++ r)))) ≡ (Word k_select ∷ (a ++ b ++ Word k_from ∷ (c ++ d))) ++ r
regroup a b c d r = simp append_assoc

-- sources
abbrev SourceFront : List Token → Source → List Token → Type 0
SourceFront ts so r = (n : Name) × T (plain_name n) × (((ts ≡ Word n ∷ r) × (record { table = n; alias = n } ≡ so)) ⊎ ((a : Name) × T (plain_name a) × (ts ≡ Word n ∷ Word a ∷ r) × (record { table = n; alias = a } ≡ so)))

called-inv : (ts us : List Token) (n : Name) {so : Source} {r : List Token} (q : Got Name) → ts ≡ Word n ∷ us → T (plain_name n) → a_name us ≡ q → called n us q ≡ gets so r → SourceFront ts so r
called-inv ts us n refuses same p e h = let i = gets-inv h in (n, p, inl (same ∙ ap (λ z. Word n ∷ z) i.1, i.0))
called-inv ts us n (gets a vs) same p e h =
    let i = gets-inv h in
    let o = name-inv us e in
    (n, p, inr (a, o.1, same ∙ ap (λ z. Word n ∷ z) o.0 ∙ ap (λ z. Word n ∷ Word a ∷ z) i.1, i.0))

source-inv : (ts : List Token) {so : Source} {r : List Token} → a_source ts ≡ gets so r → SourceFront ts so r
source-inv ts {so} {r} h =
    let i = then-inv (a_name ts) _ h in
    let n = name-inv ts i.2 in
    called-inv ts i.1 i.0 (a_name i.1) n.0 n.1 refl i.3

sound-sources : (f : ℕ) (ts : List Token) (ss : List Source) (r : List Token) → sources f ts ≡ gets ss r → Front Sources ts ss r
unfolding list_of
sound-sources zero ts ss r h = never h
sound-sources (suc f) ts ss r h =
    let i = listed-inv a_source (sources f) ts h in
    go i.0 i.1 (source-inv ts i.2) (elim i.3 [ inl c ↦ inl c | inr c ↦ inr (c.0, c.1, c.2, sound-sources f c.0 c.1 r c.3, c.4) ])
  where
    go : (so : Source) (us : List Token) → SourceFront ts so us → ((us ≡ r) × (so ∷ [] ≡ ss)) ⊎ ((vs : List Token) × (as' : List Source) × (us ≡ Sign 44 ∷ vs) × Front Sources vs as' r × (so ∷ as' ≡ ss)) → Front Sources ts ss r
    go so us (n, p, inl s) (inl c) = (Word n ∷ [], s.0 ∙ ap (λ z. Word n ∷ z) c.0, subst (Sources (Word n ∷ [])) (ap (λ s. s ∷ []) s.1 ∙ c.1) (g.one_named n p))
    go so us (n, p, inr s) (inl c) = (Word n ∷ Word s.0 ∷ [], s.2 ∙ ap (λ z. Word n ∷ Word s.0 ∷ z) c.0, subst (Sources (Word n ∷ Word s.0 ∷ [])) (ap (λ s. s ∷ []) s.3 ∙ c.1) (g.one_called n s.0 p s.1))
    go so us (n, p, inl s) (inr c) = (Word n ∷ Sign 44 ∷ c.3.0, s.0 ∙ ap (λ z. Word n ∷ z) c.2 ∙ ap (λ z. Word n ∷ Sign 44 ∷ z) c.3.1, subst (Sources (Word n ∷ Sign 44 ∷ c.3.0)) (ap (λ s. s ∷ c.1) s.1 ∙ c.4) (g.more_named n p c.3.2))
    go so us (n, p, inr s) (inr c) = (Word n ∷ Word s.0 ∷ Sign 44 ∷ c.3.0, s.2 ∙ ap (λ z. Word n ∷ Word s.0 ∷ z) c.2 ∙ ap (λ z. Word n ∷ Word s.0 ∷ Sign 44 ∷ z) c.3.1, subst (Sources (Word n ∷ Word s.0 ∷ Sign 44 ∷ c.3.0)) (ap (λ s. s ∷ c.1) s.3 ∙ c.4) (g.more_called n s.0 p s.1 c.3.2))

sound-distinct : (ts : List Token) {d : Bool} {r : List Token} → choose (is_word k_distinct) (gets true) (gets false) ts ≡ gets d r → Front Distinct ts d r
sound-distinct ts {d} {r} h = elim (choose-inv (is_word k_distinct) (gets true) (gets false) ts h) [
  | inl c ↦ (let e = gets-inv c.4 in (Word k_distinct ∷ [], c.2 ∙ (λ j. word-is k_distinct c.0 c.3 j ∷ e.1 j), subst (Distinct (Word k_distinct ∷ [])) e.0 g.once))
  | inr c ↦ (let e = gets-inv c.1 in ([], e.1, subst (Distinct []) e.0 g.any))
]

offset-inv : (n : ℕ) → n < 9223372036854775808 → (ts : List Token) {l : Limit} {r : List Token} → choose (is_word k_offset) (λ ws. and_then (a_number ws) (λ m zs. gets (tree.up_to n m) zs)) (gets (tree.up_to n 0)) ts ≡ gets l r →
    (us : List Token) × (ts ≡ us ++ r) × Limits (Word k_limit ∷ Number n ∷ us) l
offset-inv n p ts {l} {r} h = elim (choose-inv (is_word k_offset) (λ ws. and_then (a_number ws) (λ m zs. gets (tree.up_to n m) zs)) (gets (tree.up_to n 0)) ts h) [
  | inl c ↦ (let i = then-inv (a_number c.1) _ c.4 in let m = number-inv c.1 i.2 in let e = gets-inv i.3 in
      (Word k_offset ∷ Number i.0 ∷ [], c.2 ∙ (λ j. word-is k_offset c.0 c.3 j ∷ m.0 j) ∙ ap (λ z. Word k_offset ∷ Number i.0 ∷ z) e.1, subst (Limits (Word k_limit ∷ Number n ∷ Word k_offset ∷ Number i.0 ∷ [])) e.0 (g.most_from n i.0 p m.1)))
  | inr c ↦ (let e = gets-inv c.1 in ([], e.1, subst (Limits (Word k_limit ∷ Number n ∷ [])) e.0 (g.most n p)))
]

sound-limits : (ts : List Token) {l : Limit} {r : List Token} → limits ts ≡ gets l r → Front Limits ts l r
sound-limits ts {l} {r} h = elim (choose-inv (is_word k_limit) _ (gets tree.all) ts h) [
  | inl c ↦ (let i = then-inv (a_number c.1) _ c.4 in let n = number-inv c.1 i.2 in let o = offset-inv i.0 n.1 i.1 i.3 in
      (Word k_limit ∷ Number i.0 ∷ o.0, c.2 ∙ (λ j. word-is k_limit c.0 c.3 j ∷ n.0 j) ∙ ap (λ z. Word k_limit ∷ Number i.0 ∷ z) o.1, o.2))
  | inr c ↦ (let e = gets-inv c.1 in ([], e.1, subst (Limits []) e.0 g.no_limit))
]

sound-orders : (ks : Reader (List Key)) → SoundKs ks → (ts : List Token) {o : List Key} {r : List Token} → orders ks ts ≡ gets o r → Front Orders ts (to_keys o) r
unfolding to_keys
sound-orders ks so ts {o} {r} h = elim (choose-inv (is_word k_order) (past (is_word k_by) ks) (gets []) ts h) [
  | inl c ↦ (let p = past_word k_by ks c.1 c.4 in let f = so p.0 o r p.2 in
      (Word k_order ∷ Word k_by ∷ f.0, c.2 ∙ (λ j. word-is k_order c.0 c.3 j ∷ p.1 j) ∙ ap (λ z. Word k_order ∷ Word k_by ∷ z) f.1, g.ordered f.2))
  | inr c ↦ (let e = gets-inv c.1 in ([], e.1, subst (λ o. Orders [] (to_keys o)) e.0 g.as_they_come))
]

module _ (x : Level) (xs : Reader (List Expr)) (ks : Reader (List Key)) (sx : SoundX x) (sxs : SoundXs xs) (sks : SoundKs ks) where
  pub sound-where : (ts : List Token) {c : Expr} {r : List Token} → condition k_where x ts ≡ gets c r → Front Wheres ts c r
  sound-where ts {c} {r} h = elim (choose-inv (is_word k_where) (x 0) (gets one) ts h) [
    | inl i ↦ (let f = sx 0 i.1 c r (omega arith) i.4 in (Word k_where ∷ f.0, i.2 ∙ (λ j. word-is k_where i.0 i.3 j ∷ f.1 j), g.where' f.2))
    | inr i ↦ (let e = gets-inv i.1 in ([], e.1, subst (Wheres []) e.0 g.always))
  ]

  sound-having : (ts : List Token) {c : Expr} {r : List Token} → condition k_having x ts ≡ gets c r → Front Havings ts c r
  sound-having ts {c} {r} h = elim (choose-inv (is_word k_having) (x 0) (gets one) ts h) [
    | inl i ↦ (let f = sx 0 i.1 c r (omega arith) i.4 in (Word k_having ∷ f.0, i.2 ∙ (λ j. word-is k_having i.0 i.3 j ∷ f.1 j), g.having' f.2))
    | inr i ↦ (let e = gets-inv i.1 in ([], e.1, subst (Havings []) e.0 g.all_groups))
  ]

  -- with groups, or without
  abbrev GroupFront : List Token → Groups → List Token → Type 0
  GroupFront ts gr r = ((ts ≡ r) × (record { are = false; by = []; having = one } ≡ gr)) ⊎ ((gs hs : List Token) × (es : List Expr) × (h : Expr) × (ts ≡ Word k_group ∷ Word k_by ∷ (gs ++ hs ++ r)) × Xs gs (to_exprs es) × Havings hs h × (record { are = true; by = es; having = h } ≡ gr))

  groups-inv : (ts : List Token) {gr : Groups} {r : List Token} → groups x xs ts ≡ gets gr r → GroupFront ts gr r
  groups-inv ts {gr} {r} h = elim (choose-inv (is_word k_group) _ (gets (record { are = false; by = []; having = one })) ts h) [
    | inl c ↦ (let p = past_word k_by _ c.1 c.4 in
        let i = then-inv (xs p.0) _ p.2 in
        let f = sxs p.0 i.0 i.1 i.2 in
        let o = then-inv (condition k_having x i.1) _ i.3 in
        let v = sound-having i.1 o.2 in
        let e = gets-inv o.3 in
        inr (f.0, v.0, i.0, o.0, c.2 ∙ (λ j. word-is k_group c.0 c.3 j ∷ p.1 j) ∙ ap (λ z. Word k_group ∷ Word k_by ∷ z) (f.1 ∙ ap (λ z. f.0 ++ z) (v.1 ∙ ap (λ z. v.0 ++ z) e.1) ∙ sym (append_assoc f.0 v.0 r)), f.2, v.2, e.0))
    | inr c ↦ (let e = gets-inv c.1 in inl (e.1, e.0))
  ]

  -- what stands after the sources makes a query of any front
  abbrev TailFront : Bool → List Expr → List Source → List Token → Query → List Token → Type 0
  TailFront d es from ts q r = (tl : List Token) × (ts ≡ tl ++ r) × ((ds xs' fs : List Token) → Distinct ds d → Xs xs' (to_exprs es) → Sources fs from → Q (Word k_select ∷ (ds ++ xs' ++ Word k_from ∷ (fs ++ tl))) q)

  sound-filtered : (d : Bool) (es : List Expr) (from : List Source) (ts : List Token) {q : Query} {r : List Token} → filtered x xs ks d es from ts ≡ gets q r → TailFront d es from ts q r
  unfolding filtered to_exprs
  sound-filtered d es from ts {q} {r} h =
      let i1 = then-inv (condition k_where x ts) _ h in
      let w' = sound-where ts i1.2 in
      let i2 = then-inv (groups x xs i1.1) _ i1.3 in
      let i3 = then-inv (orders ks i2.1) _ i2.3 in
      let o = sound-orders ks sks i2.1 i3.2 in
      let i4 = then-inv (limits i3.1) _ i3.3 in
      let l = sound-limits i3.1 i4.2 in
      let e = gets-inv i4.3 in
      let end : i2.1 ≡ o.0 ++ (l.0 ++ r) = o.1 ∙ ap (λ z. o.0 ++ z) (l.1 ∙ ap (λ z. l.0 ++ z) e.1) in
      elim (groups-inv i1.1 i2.2) [
        | inl c ↦ (
          w'.0 ++ o.0 ++ l.0,
          (let long : w'.0 ++ (o.0 ++ (l.0 ++ r)) ≡ (w'.0 ++ o.0 ++ l.0) ++ r = simp append_assoc in w'.1 ∙ ap (λ z. w'.0 ++ z) (c.0 ∙ end) ∙ long),
          (λ ds xs' fs a b s. let same : fs ++ w'.0 ++ o.0 ++ l.0 ≡ fs ++ (w'.0 ++ o.0 ++ l.0) = simp append_assoc in
              subst (Q (Word k_select ∷ (ds ++ xs' ++ Word k_from ∷ (fs ++ (w'.0 ++ o.0 ++ l.0))))) (ap (λ gr. asked d es from i1.0 gr i3.0 i4.0) c.1 ∙ e.0)
              (subst (λ v. Q (Word k_select ∷ (ds ++ xs' ++ Word k_from ∷ v)) (asked d es from i1.0 (record { are = false; by = []; having = one }) i3.0 i4.0)) same (g.simple a b s w'.2 o.2 l.2))),
        )
        | inr c ↦ (let tl = Word k_group ∷ Word k_by ∷ (c.0 ++ c.1 ++ o.0 ++ l.0) in (
          w'.0 ++ tl,
          (let long : w'.0 ++ Word k_group ∷ Word k_by ∷ (c.0 ++ c.1 ++ (o.0 ++ (l.0 ++ r))) ≡ (w'.0 ++ tl) ++ r = simp append_assoc in w'.1 ∙ ap (λ z. w'.0 ++ z) (c.4 ∙ ap (λ z. Word k_group ∷ Word k_by ∷ (c.0 ++ c.1 ++ z)) end) ∙ long),
          (λ ds xs' fs a b s. let same : fs ++ w'.0 ++ tl ≡ fs ++ (w'.0 ++ tl) = simp append_assoc in
              subst (Q (Word k_select ∷ (ds ++ xs' ++ Word k_from ∷ (fs ++ (w'.0 ++ tl))))) (ap (λ gr. asked d es from i1.0 gr i3.0 i4.0) c.7 ∙ e.0)
              (subst (λ v. Q (Word k_select ∷ (ds ++ xs' ++ Word k_from ∷ v)) (asked d es from i1.0 (record { are = true; by = c.2; having = c.3 }) i3.0 i4.0)) same (g.grouped a b s w'.2 c.5 c.6 o.2 l.2))),
        ))
      ]

  pub sound-question : (f : ℕ) (ts : List Token) {q : Query} {r : List Token} → question x xs ks f ts ≡ gets q r → Front Q ts q r
  unfolding question
  sound-question f ts {q} {r} h =
      let p = past_word k_select _ ts h in
      let i1 = then-inv (choose (is_word k_distinct) (gets true) (gets false) p.0) _ p.2 in
      let d = sound-distinct p.0 i1.2 in
      let i2 = then-inv (xs i1.1) _ i1.3 in
      let f' = sxs i1.1 i2.0 i2.1 i2.2 in
      let o = past_word k_from _ i2.1 i2.3 in
      let i3 = then-inv (sources f o.0) _ o.2 in
      let s = sound-sources f o.0 i3.0 i3.1 i3.2 in
      let t = sound-filtered i1.0 i2.0 i3.0 i3.1 i3.3 in
      let all = Word k_select ∷ (d.0 ++ f'.0 ++ Word k_from ∷ (s.0 ++ t.0)) in
      let long : Word k_select ∷ (d.0 ++ (f'.0 ++ Word k_from ∷ (s.0 ++ (t.0 ++ r)))) ≡ all ++ r = regroup d.0 f'.0 s.0 t.0 r in
      (all, p.1 ∙ ap (λ z. Word k_select ∷ z) (d.1 ∙ ap (λ z. d.0 ++ z) (f'.1 ∙ ap (λ z. f'.0 ++ z) (o.1 ∙ ap (λ z. Word k_from ∷ z) (s.1 ∙ ap (λ z. s.0 ++ z) t.1)))) ∙ long, t.2 d.0 f'.0 s.0 d.2 f'.2 s.2)

  -- operands
  abbrev pub PartFront : ℕ → List Token → Part → List Token → Type 0
  PartFront k ts p r = (us : List Token) × (ts ≡ us ++ r) × X p.level us p.it × (k ≤ p.level) × (p.level < 8)

  -- as an operand of level 7
  seven : (k : ℕ) → k < 7 → (ts us : List Token) (e : Expr) (p : Part) (r : List Token) → ts ≡ us ++ r → X 7 us e → part 7 e ≡ p → PartFront k ts p r
  seven k l ts us e p r same d is = subst (λ p. PartFront k ts p r) is (us, same, d, omega arith, omega arith)

  close-inv : (p : Part) (us r : List Token) {q : Part} → past (is_sign 41) (gets p) us ≡ gets q r → (us ≡ Sign 41 ∷ r) × (p ≡ q)
  close-inv p us r h = let c = past-sign 41 (gets p) us h in let e = gets-inv c.2 in (c.1 ∙ ap (λ z. Sign 41 ∷ z) e.1, e.0)

  -- something in brackets
  inside : (a us r : List Token) (v : List Token) → v ≡ us ++ Sign 41 ∷ r → a ++ v ≡ (a ++ (us ++ Sign 41 ∷ [])) ++ r
  inside a us r v same = ap (λ z. a ++ z) (same ∙ sym (append_assoc us (Sign 41 ∷ []) r)) ∙ sym (append_assoc a (us ++ Sign 41 ∷ []) r)

  single-is : (es : Exprs) → single es ≡ true → (e : Expr) × (tree.more e tree.none ≡ es)
  single-is tree.none h = clash h
  single-is (tree.more e tree.none) h = (e, refl)
  single-is (tree.more e (tree.more d es)) h = clash h

  scalar-rule : (us : List Token) (q : Query) → Q us q → one_column q ≡ true → X 7 (Sign 40 ∷ (us ++ Sign 41 ∷ [])) (tree.scalar q)
  scalar-rule us (query d es from c gr grp hv ks' l) x' h =
      let o = single-is es h in
      subst (λ es. X 7 (Sign 40 ∷ (us ++ Sign 41 ∷ [])) (tree.scalar (query d es from c gr grp hv ks' l))) o.1 (g.one_value (subst (λ es. Q us (query d es from c gr grp hv ks' l)) (sym o.1) x'))

  sound-bracket : (f k : ℕ) → k < 7 → (ts : List Token) (p : Part) (r : List Token) → bracket x xs ks f ts ≡ gets p r → PartFront k (Sign 40 ∷ ts) p r
  unfolding bracket
  sound-bracket f k l ts p r h = elim (choose-inv (is_word k_select) (λ us. and_then (question x xs ks f ts) (λ q vs. past (is_sign 41) (λ ws. cond (one_column q) (gets (part 7 (tree.scalar q)) ws) refuses) vs)) (λ us. and_then (x 0 us) (λ a vs. past (is_sign 41) (gets (part 7 a)) vs)) ts h) [
    | inl c ↦ (let i = then-inv (question x xs ks f ts) _ c.4 in
        let q = sound-question f ts i.2 in
        let o = past-sign 41 _ i.1 i.3 in
        let w' = cond-inv (one_column i.0) _ o.2 in
        let e = gets-inv w'.1 in
        seven k l (Sign 40 ∷ ts) (Sign 40 ∷ (q.0 ++ Sign 41 ∷ [])) (tree.scalar i.0) p r (inside (Sign 40 ∷ []) q.0 r ts (q.1 ∙ ap (λ z. q.0 ++ z) (o.1 ∙ ap (λ z. Sign 41 ∷ z) e.1))) (scalar-rule q.0 i.0 q.2 w'.0) e.0)
    | inr c ↦ (let i = then-inv (x 0 ts) _ c.1 in
        let f' = sx 0 ts i.0 i.1 (omega arith) i.2 in
        let o = close-inv (part 7 i.0) i.1 r i.3 in
        seven k l (Sign 40 ∷ ts) (Sign 40 ∷ (f'.0 ++ Sign 41 ∷ [])) i.0 p r (inside (Sign 40 ∷ []) f'.0 r ts (f'.1 ∙ ap (λ z. f'.0 ++ z) o.0)) (g.bracketed f'.2) o.1)
  ]

  sound-folded : (gs : List Token) (a : Value.Aggregate) → Aggregates gs a → (k : ℕ) → k < 7 → (ts : List Token) (p : Part) (r : List Token) → folded a x ts ≡ gets p r → PartFront k (gs ++ Sign 40 ∷ ts) p r
  sound-folded gs a ag k l ts p r h =
      let i = then-inv (x 0 ts) _ h in
      let f' = sx 0 ts i.0 i.1 (omega arith) i.2 in
      let o = close-inv (part 7 (tree.aggregate a i.0)) i.1 r i.3 in
      seven k l (gs ++ Sign 40 ∷ ts) (gs ++ Sign 40 ∷ (f'.0 ++ Sign 41 ∷ [])) (tree.aggregate a i.0) p r
      (ap (λ z. gs ++ z) (inside (Sign 40 ∷ []) f'.0 r ts (f'.1 ∙ ap (λ z. f'.0 ++ z) o.0)) ∙ sym (append_assoc gs (Sign 40 ∷ (f'.0 ++ Sign 41 ∷ [])) r))
      (g.aggregated ag f'.2) o.1

  -- an aggregate after its word
  folds : (w' : Name) (a : Value.Aggregate) → Aggregates (Word w' ∷ []) a → (k : ℕ) → k < 7 → (ts : List Token) (t : Token) (us : List Token) (p : Part) (r : List Token) → ts ≡ t ∷ us → is_word w' t ≡ true → past (is_sign 40) (folded a x) us ≡ gets p r → PartFront k ts p r
  folds w' a ag k l ts t us p r same is h =
      let o = past-sign 40 (folded a x) us h in
      subst (λ v. PartFront k v p r) (sym (same ∙ (λ j. word-is w' t is j ∷ o.1 j))) (sound-folded (Word w' ∷ []) a ag k l o.0 p r o.2)

  sound-count : (k : ℕ) → k < 7 → (ts : List Token) (p : Part) (r : List Token) → choose (is_sign 42) (past (is_sign 41) (gets (part 7 tree.row_count))) (folded Value.Count x) ts ≡ gets p r → PartFront k (Word k_count ∷ Sign 40 ∷ ts) p r
  sound-count k l ts p r h = elim (choose-inv (is_sign 42) (past (is_sign 41) (gets (part 7 tree.row_count))) (folded Value.Count x) ts h) [
    | inl c ↦ (let o = close-inv (part 7 tree.row_count) c.1 r c.4 in
        seven k l (Word k_count ∷ Sign 40 ∷ ts) (Word k_count ∷ Sign 40 ∷ Sign 42 ∷ Sign 41 ∷ []) tree.row_count p r (ap (λ z. Word k_count ∷ Sign 40 ∷ z) (c.2 ∙ (λ j. sign-is 42 c.0 c.3 j ∷ o.0 j))) g.count_rows o.1)
    | inr c ↦ sound-folded (Word k_count ∷ []) Value.Count g.counts k l ts p r c.1
  ]

  sound-keyed : (f k : ℕ) → k < 7 → (ts : List Token) (p : Part) (r : List Token) → keyed x xs ks f k ts ≡ gets p r → PartFront k ts p r
  unfolding keyed
  sound-keyed f k l ts p r h = elim (choose-inv (is_word k_null) _ _ ts h) [
    | inl c ↦ (let e = gets-inv c.4 in seven k l ts (Word k_null ∷ []) (tree.lit Value.Null) p r (c.2 ∙ (λ j. word-is k_null c.0 c.3 j ∷ e.1 j)) g.null e.0)
    | inr c ↦ (elim (choose-inv (is_word k_not) _ _ ts c.1) [
      | inl c ↦ (let w' = cond-inv (leb k 2) _ c.4 in
          let i = then-inv (x 2 c.1) _ w'.1 in
          let f' = sx 2 c.1 i.0 i.1 (omega arith) i.2 in
          let e = gets-inv i.3 in
          subst (λ p. PartFront k ts p r) e.0 (Word k_not ∷ f'.0, c.2 ∙ (λ j. word-is k_not c.0 c.3 j ∷ f'.1 j) ∙ ap (λ z. Word k_not ∷ (f'.0 ++ z)) e.1, g.nots f'.2, leb-true k 2 w'.0, omega arith))
      | inr c ↦ (elim (choose-inv (is_word k_exists) _ _ ts c.1) [
        | inl c ↦ (let o = past-sign 40 _ c.1 c.4 in
            let i = then-inv (question x xs ks f o.0) _ o.2 in
            let q = sound-question f o.0 i.2 in
            let e = close-inv (part 7 (tree.exists i.0)) i.1 r i.3 in
            seven k l ts (Word k_exists ∷ Sign 40 ∷ (q.0 ++ Sign 41 ∷ [])) (tree.exists i.0) p r (c.2 ∙ (λ j. word-is k_exists c.0 c.3 j ∷ o.1 j) ∙ inside (Word k_exists ∷ Sign 40 ∷ []) q.0 r o.0 (q.1 ∙ ap (λ z. q.0 ++ z) e.0)) (g.any_row q.2) e.1)
        | inr c ↦ (elim (choose-inv (is_word k_count) _ _ ts c.1) [
          | inl c ↦ (let o = past-sign 40 _ c.1 c.4 in subst (λ v. PartFront k v p r) (sym (c.2 ∙ (λ j. word-is k_count c.0 c.3 j ∷ o.1 j))) (sound-count k l o.0 p r o.2))
          | inr c ↦ (elim (choose-inv (is_word k_sum) _ _ ts c.1) [
            | inl c ↦ folds k_sum Value.Sum g.sums k l ts c.0 c.1 p r c.2 c.3 c.4
            | inr c ↦ (elim (choose-inv (is_word k_min) _ _ ts c.1) [
              | inl c ↦ folds k_min Value.Min g.mins k l ts c.0 c.1 p r c.2 c.3 c.4
              | inr c ↦ (elim (choose-inv (is_word k_max) _ _ ts c.1) [
                | inl c ↦ folds k_max Value.Max g.maxes k l ts c.0 c.1 p r c.2 c.3 c.4
                | inr c ↦ never c.1
              ])
            ])
          ])
        ])
      ])
    ])
  ]

  sound-column : (k : ℕ) → k < 7 → (n : Name) → T (plain_name n) → (ts : List Token) (p : Part) (r : List Token) → column n ts ≡ gets p r → PartFront k (Word n ∷ ts) p r
  sound-column k l n pl ts p r h = elim (choose-inv (is_sign 46) (λ us. and_then (a_name us) (λ m vs. gets (part 7 (tree.col n m)) vs)) (gets (part 7 (tree.col [] n))) ts h) [
    | inl c ↦ (let i = then-inv (a_name c.1) _ c.4 in let o = name-inv c.1 i.2 in let e = gets-inv i.3 in
        seven k l (Word n ∷ ts) (Word n ∷ Sign 46 ∷ Word i.0 ∷ []) (tree.col n i.0) p r (ap (λ z. Word n ∷ z) (c.2 ∙ (λ j. sign-is 46 c.0 c.3 j ∷ o.0 j) ∙ ap (λ z. Sign 46 ∷ Word i.0 ∷ z) e.1)) (g.its_column n i.0 pl o.1) e.0)
    | inr c ↦ (let e = gets-inv c.1 in seven k l (Word n ∷ ts) (Word n ∷ []) (tree.col [] n) p r (ap (λ z. Word n ∷ z) e.1) (g.column n pl) e.0)
  ]

  pub sound-operand : (f k : ℕ) → k < 7 → (ts : List Token) (p : Part) (r : List Token) → operand x xs ks f k ts ≡ gets p r → PartFront k ts p r
  unfolding operand
  sound-operand f k l [] p r h = never h
  sound-operand f k l (Word n ∷ ts) p r h = go (plain_name n) refl h
    where
      go : (b : Bool) → plain_name n ≡ b → cond b (column n ts) (keyed x xs ks f k (Word n ∷ ts)) ≡ gets p r → PartFront k (Word n ∷ ts) p r
      go true e h = sound-column k l n (true-T _ e) ts p r h
      go false e h = sound-keyed f k l (Word n ∷ ts) p r h
  sound-operand f k l (Number n ∷ ts) p r h =
      let c = cond-inv (ltb n 9223372036854775808) _ h in
      let e = gets-inv c.1 in
      seven k l (Number n ∷ ts) (Number n ∷ []) (tree.lit (Num (pos n))) p r (ap (λ z. Number n ∷ z) e.1) (g.number n (ltb-true n 9223372036854775808 c.0)) e.0
  sound-operand f k l (Quoted t ∷ ts) p r h = let e = gets-inv h in seven k l (Quoted t ∷ ts) (Quoted t ∷ []) (tree.lit (Value.Text t)) p r (ap (λ z. Quoted t ∷ z) e.1) (g.text t) e.0
  sound-operand f k l (Sign b ∷ ts) p r h = go (eqb b 40) refl h
    where
      go : (c : Bool) → eqb b 40 ≡ c → cond c (bracket x xs ks f ts) (cond (eqb b 45) (and_then (x 6 ts) (λ a us. gets (part 6 (tree.negated a)) us)) refuses) ≡ gets p r → PartFront k (Sign b ∷ ts) p r
      go true e h = subst (λ b. PartFront k (Sign b ∷ ts) p r) (sym (eqb-true b 40 e)) (sound-bracket f k l ts p r h)
      go false e h =
          let c = cond-inv (eqb b 45) _ h in
          let i = then-inv (x 6 ts) _ c.1 in
          let f' = sx 6 ts i.0 i.1 (omega arith) i.2 in
          let e = gets-inv i.3 in
          subst (λ p. PartFront k (Sign b ∷ ts) p r) e.0 (Sign 45 ∷ f'.0, (λ j. Sign (eqb-true b 45 c.0 j) ∷ f'.1 j) ∙ ap (λ z. Sign 45 ∷ (f'.0 ++ z)) e.1, g.negs f'.2, omega arith, omega arith)
  sound-operand f k l (Wrong ∷ ts) p r h = never h

pub sound : (f : ℕ) → SoundX (expr f) × SoundM (more f) × SoundXs (exprs f) × SoundKs (keys f)
unfolding expr
sound zero = ((λ n ts e r l h. never h), (λ k a us ts e r l u v d h. never h), (λ ts es r h. never h), (λ ts es r h. never h))
sound (suc f) =
    let i = sound f in (
      (λ n ts e r l h.
          let o = then-inv (operand (expr f) (exprs f) (keys f) f n ts) _ h in
          let p = sound-operand (expr f) (exprs f) (keys f) i.0 i.2 i.3 f n l ts o.0 o.1 o.2 in
          let m = i.1 n o.0 p.0 o.1 e r l p.3 p.4 p.2 o.3 in
          (p.0 ++ m.0, p.1 ∙ ap (λ z. p.0 ++ z) m.1 ∙ sym (append_assoc p.0 m.0 r), m.2)),
      sound_more (expr f) (more f) i.0 i.1,
      sound-exprs (expr f 0) (λ ts e r h. i.0 0 ts e r (omega arith) h) (exprs f) i.2,
      sound-keys (expr f 0) (λ ts e r h. i.0 0 ts e r (omega arith) h) (keys f) i.3,
    )
