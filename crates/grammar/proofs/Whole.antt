-- Whole texts: what the reader finds is a statement, there are no more tokens than bytes, and so the theorems. Assumes nothing.
use Rattle.std.proofs.Common.{◌≡◌, ℕ, zero, suc, ◌+◌, ◌*◌, ◌≤◌, Bool, true, false, cond, ◌||◌, T, eqb, ltb, ◌⊎◌, List, [], ◌∷◌, ◌++◌, length, sym, refl, ap, ◌∙◌, subst, inl, inr, append_assoc, append-nil, arith, length-append}
use Rattle.std.proofs.lemmas.Bool.Decides.{nat_tests}
use Rattle.meaning.specs.Tree as tree
use Rattle.meaning.specs.Tree.{Name, Col, Set, Expr, Exprs, Query, Statement}
use Rattle.meaning.specs.Text as text
use Rattle.meaning.specs.Text.{Token, Word, Sign, Mode, Between, InWord, InNumber, InQuotes, AfterQuote, AfterLess, AfterMore, AfterBar, tokens, emits, after, ends, enters, gives, letter, digit, is_in, plain_name, k_select, k_from, k_where, k_not, k_null, k_create, k_table, k_unique, k_index, k_on, k_drop, k_insert, k_into, k_values, k_update, k_set, k_delete, k_begin, k_commit, k_rollback, k_to, k_savepoint, k_release, k_int, k_text}
use Rattle.meaning.specs.Grammar as g
use Rattle.meaning.specs.Grammar.{S, Cols, OneCol, Names, RowList, SetList, Wheres, Xs, Reads}
use Rattle.grammar.specs.Reader.{Got, refuses, gets, Reader, and_then, past, is_word, a_name, list_of, condition, expr, exprs, keys, asks, must, a_col, a_row, a_set, named, in_brackets, create_table, create_index, create, drop, insert, update, delete, rollback, statement}
use Rattle.grammar.specs.Readings.{OneReading, CanTell}
use Rattle.grammar.proofs.Tools.{never, then-inv, gets-inv, choose-inv, past-sign, past_word, word-is, name-inv}
use Rattle.grammar.proofs.Sound.{Front, listed-inv}
use Rattle.grammar.proofs.Queries.{sound, sound-question, sound-where}
use Rattle.grammar.proofs.Statements.{complete}

must-inv : (ts : List Token) {b : Bool} {r : List Token} → must ts ≡ gets b r → ((ts ≡ Word k_not ∷ Word k_null ∷ r) × (true ≡ b)) ⊎ ((ts ≡ r) × (false ≡ b))
must-inv ts {b} {r} h = elim (choose-inv (is_word k_not) (past (is_word k_null) (gets true)) (gets false) ts h) [
  | inl c ↦ (let p = past_word k_null (gets true) c.1 c.4 in let e = gets-inv p.2 in inl (c.2 ∙ (λ j. word-is k_not c.0 c.3 j ∷ p.1 j) ∙ ap (λ z. Word k_not ∷ Word k_null ∷ z) e.1, e.0))
  | inr c ↦ (let e = gets-inv c.1 in inr (e.1, e.0))
]

-- a column's kind and whether it has to be there
kind-inv : (n : Name) (w : Name) (t : Bool) → OneCol (Word n ∷ Word w ∷ []) (record { name = n; text = t; must = false }) → OneCol (Word n ∷ Word w ∷ Word k_not ∷ Word k_null ∷ []) (record { name = n; text = t; must = true }) →
    (ts us : List Token) {c : Col} {r : List Token} → ts ≡ Word n ∷ Word w ∷ us → and_then (must us) (λ b ws. gets (record { name = n; text = t; must = b }) ws) ≡ gets c r → Front OneCol ts c r
kind-inv n w t some all ts us {c} {r} same h =
    let i = then-inv (must us) _ h in
    let e = gets-inv i.3 in
    elim (must-inv us i.2) [
      | inl m ↦ (Word n ∷ Word w ∷ Word k_not ∷ Word k_null ∷ [], same ∙ ap (λ z. Word n ∷ Word w ∷ z) m.0 ∙ ap (λ z. Word n ∷ Word w ∷ Word k_not ∷ Word k_null ∷ z) e.1, subst (OneCol (Word n ∷ Word w ∷ Word k_not ∷ Word k_null ∷ [])) (ap (λ b. record { name = n; text = t; must = b }) m.1 ∙ e.0) all)
      | inr m ↦ (Word n ∷ Word w ∷ [], same ∙ ap (λ z. Word n ∷ Word w ∷ z) (m.0 ∙ e.1), subst (OneCol (Word n ∷ Word w ∷ [])) (ap (λ b. record { name = n; text = t; must = b }) m.1 ∙ e.0) some)
    ]

col-inv : (ts : List Token) {c : Col} {r : List Token} → a_col ts ≡ gets c r → Front OneCol ts c r
col-inv ts {c} {r} h =
    let i = then-inv (a_name ts) _ h in
    let n = name-inv ts i.2 in
    elim (choose-inv (is_word k_int) _ _ i.1 i.3) [
      | inl o ↦ kind-inv i.0 k_int false (g.int i.0 n.1) (g.int_must i.0 n.1) ts o.1 (n.0 ∙ ap (λ z. Word i.0 ∷ z) (o.2 ∙ ap (λ t. t ∷ o.1) (word-is k_int o.0 o.3))) o.4
      | inr o ↦ (let p = past_word k_text _ i.1 o.1 in kind-inv i.0 k_text true (g.txt i.0 n.1) (g.txt_must i.0 n.1) ts p.0 (n.0 ∙ ap (λ z. Word i.0 ∷ z) p.1) p.2)
    ]

row-inv : (f : ℕ) (ts : List Token) {es : Exprs} {r : List Token} → a_row f ts ≡ gets es r → (us : List Token) × (ts ≡ Sign 40 ∷ (us ++ Sign 41 ∷ r)) × Xs us es
row-inv f ts {es} {r} h =
    let o = past-sign 40 _ ts h in
    let i = then-inv (exprs f o.0) _ o.2 in
    let x = (sound f).2 o.0 i.0 i.1 i.2 in
    let c = past-sign 41 _ i.1 i.3 in
    let e = gets-inv c.2 in
    (x.0, o.1 ∙ ap (λ z. Sign 40 ∷ z) (x.1 ∙ ap (λ z. x.0 ++ z) (c.1 ∙ ap (λ z. Sign 41 ∷ z) e.1)), subst (Xs x.0) e.0 x.2)

set-inv : (f : ℕ) (ts : List Token) {s : Set} {r : List Token} → a_set f ts ≡ gets s r → (n : Name) × (us : List Token) × (e : Expr) × T (plain_name n) × (ts ≡ Word n ∷ Sign 61 ∷ (us ++ r)) × g.X 0 us e × (record { col = n; to = e } ≡ s)
set-inv f ts {s} {r} h =
    let i = then-inv (a_name ts) _ h in
    let n = name-inv ts i.2 in
    let o = past-sign 61 _ i.1 i.3 in
    let v = then-inv (expr f 0 o.0) _ o.2 in
    let x = (sound f).0 0 o.0 v.0 v.1 (omega arith) v.2 in
    let e = gets-inv v.3 in
    (i.0, x.0, v.0, n.1, n.0 ∙ ap (λ z. Word i.0 ∷ z) (o.1 ∙ ap (λ z. Sign 61 ∷ z) (x.1 ∙ ap (λ z. x.0 ++ z) e.1)), x.2, e.0)

-- lists, by their items
sound-cols : (f : ℕ) (ts : List Token) (cs : List Col) (r : List Token) → list_of a_col f ts ≡ gets cs r → Front Cols ts cs r
unfolding list_of
sound-cols zero ts cs r h = never h
sound-cols (suc f) ts cs r h =
    let i = listed-inv a_col (list_of a_col f) ts h in
    let x = col-inv ts i.2 in
    elim i.3 [
      | inl c ↦ (x.0, x.1 ∙ ap (λ z. x.0 ++ z) c.0, subst (Cols x.0) c.1 (g.Cols.one x.2))
      | inr c ↦ (let o = sound-cols f c.0 c.1 r c.3 in (x.0 ++ Sign 44 ∷ o.0, x.1 ∙ ap (λ z. x.0 ++ z) (c.2 ∙ ap (λ z. Sign 44 ∷ z) o.1) ∙ sym (append_assoc x.0 (Sign 44 ∷ o.0) r), subst (Cols (x.0 ++ Sign 44 ∷ o.0)) c.4 (g.Cols.next x.2 o.2)))
    ]

sound-names : (f : ℕ) (ts : List Token) (cs : List Name) (r : List Token) → list_of a_name f ts ≡ gets cs r → Front Names ts cs r
unfolding list_of
sound-names zero ts cs r h = never h
sound-names (suc f) ts cs r h =
    let i = listed-inv a_name (list_of a_name f) ts h in
    let x = name-inv ts i.2 in
    elim i.3 [
      | inl c ↦ (Word i.0 ∷ [], x.0 ∙ ap (λ z. Word i.0 ∷ z) c.0, subst (Names (Word i.0 ∷ [])) c.1 (g.Names.one i.0 x.1))
      | inr c ↦ (let o = sound-names f c.0 c.1 r c.3 in (Word i.0 ∷ Sign 44 ∷ o.0, x.0 ∙ ap (λ z. Word i.0 ∷ z) (c.2 ∙ ap (λ z. Sign 44 ∷ z) o.1), subst (Names (Word i.0 ∷ Sign 44 ∷ o.0)) c.4 (g.Names.next i.0 x.1 o.2)))
    ]

sound-rows : (f h : ℕ) (ts : List Token) (cs : List Exprs) (r : List Token) → list_of (a_row f) h ts ≡ gets cs r → Front RowList ts cs r
unfolding list_of
sound-rows f zero ts cs r h = never h
sound-rows f (suc n) ts cs r h =
    let i = listed-inv (a_row f) (list_of (a_row f) n) ts h in
    let x = row-inv f ts i.2 in
    elim i.3 [
      | inl c ↦ (Sign 40 ∷ (x.0 ++ Sign 41 ∷ []), x.1 ∙ ap (λ z. Sign 40 ∷ z) (ap (λ z. x.0 ++ Sign 41 ∷ z) c.0 ∙ sym (append_assoc x.0 (Sign 41 ∷ []) r)), subst (RowList (Sign 40 ∷ (x.0 ++ Sign 41 ∷ []))) c.1 (g.RowList.one x.2))
      | inr c ↦ (let o = sound-rows f n c.0 c.1 r c.3 in (Sign 40 ∷ (x.0 ++ Sign 41 ∷ Sign 44 ∷ o.0), x.1 ∙ ap (λ z. Sign 40 ∷ z) (ap (λ z. x.0 ++ Sign 41 ∷ z) (c.2 ∙ ap (λ z. Sign 44 ∷ z) o.1) ∙ sym (append_assoc x.0 (Sign 41 ∷ Sign 44 ∷ o.0) r)), subst (RowList (Sign 40 ∷ (x.0 ++ Sign 41 ∷ Sign 44 ∷ o.0))) c.4 (g.RowList.next x.2 o.2)))
    ]

sound-sets : (f h : ℕ) (ts : List Token) (cs : List Set) (r : List Token) → list_of (a_set f) h ts ≡ gets cs r → Front SetList ts cs r
unfolding list_of
sound-sets f zero ts cs r h = never h
sound-sets f (suc n) ts cs r h =
    let i = listed-inv (a_set f) (list_of (a_set f) n) ts h in
    let x = set-inv f ts i.2 in
    elim i.3 [
      | inl c ↦ (Word x.0 ∷ Sign 61 ∷ x.1, x.4 ∙ ap (λ z. Word x.0 ∷ Sign 61 ∷ (x.1 ++ z)) c.0, subst (SetList (Word x.0 ∷ Sign 61 ∷ x.1)) (ap (λ s. s ∷ []) x.6 ∙ c.1) (g.SetList.one x.0 x.3 x.5))
      | inr c ↦ (let o = sound-sets f n c.0 c.1 r c.3 in (Word x.0 ∷ Sign 61 ∷ (x.1 ++ Sign 44 ∷ o.0), x.4 ∙ ap (λ z. Word x.0 ∷ Sign 61 ∷ z) (ap (λ z. x.1 ++ z) (c.2 ∙ ap (λ z. Sign 44 ∷ z) o.1) ∙ sym (append_assoc x.1 (Sign 44 ∷ o.0) r)), subst (SetList (Word x.0 ∷ Sign 61 ∷ (x.1 ++ Sign 44 ∷ o.0))) (ap (λ s. s ∷ c.1) x.6 ∙ c.4) (g.SetList.next x.0 x.3 x.5 o.2)))
    ]

-- a statement of one name
named-inv : (st : Name → Statement) (ts : List Token) {s : Statement} → named st ts ≡ gets s [] → (n : Name) × (ts ≡ Word n ∷ []) × T (plain_name n) × (st n ≡ s)
named-inv st ts {s} h =
    let i = then-inv (a_name ts) _ h in
    let n = name-inv ts i.2 in
    let e = gets-inv i.3 in
    (i.0, n.0 ∙ ap (λ z. Word i.0 ∷ z) e.1, n.1, e.0)

by_name : (w : List Token) (st : Name → Statement) → ((n : Name) → T (plain_name n) → S (w ++ Word n ∷ []) (st n)) → (ts us : List Token) (s : Statement) → ts ≡ w ++ us → named st us ≡ gets s [] → S ts s
by_name w st rule ts us s same h = let n = named-inv st us h in subst (λ v. S v s) (sym (same ∙ ap (λ z. w ++ z) n.1)) (subst (S (w ++ Word n.0 ∷ [])) n.3 (rule n.0 n.2))

brackets-inv : {A : Type 0} (P : List Token → List A → Type 0) (l : Reader (List A)) (st : List A → Statement) → ((ts : List Token) (as' : List A) (r : List Token) → l ts ≡ gets as' r → Front P ts as' r) →
    (ts : List Token) {s : Statement} → in_brackets l st ts ≡ gets s [] → (us : List Token) × (as' : List A) × (ts ≡ Sign 40 ∷ (us ++ Sign 41 ∷ [])) × P us as' × (st as' ≡ s)
brackets-inv P l st so ts {s} h =
    let o = past-sign 40 _ ts h in
    let i = then-inv (l o.0) _ o.2 in
    let x = so o.0 i.0 i.1 i.2 in
    let c = past-sign 41 _ i.1 i.3 in
    let e = gets-inv c.2 in
    (x.0, i.0, o.1 ∙ ap (λ z. Sign 40 ∷ z) (x.1 ∙ ap (λ z. x.0 ++ z) (c.1 ∙ ap (λ z. Sign 41 ∷ z) e.1)), x.2, e.0)

sound-table : (f : ℕ) (ts : List Token) (s : Statement) → create_table f ts ≡ gets s [] → S (Word k_create ∷ Word k_table ∷ ts) s
sound-table f ts s h =
    let i = then-inv (a_name ts) _ h in
    let n = name-inv ts i.2 in
    let b = brackets-inv Cols (list_of a_col f) (tree.create_table i.0) (sound-cols f) i.1 i.3 in
    subst (λ v. S (Word k_create ∷ Word k_table ∷ v) s) (sym (n.0 ∙ ap (λ z. Word i.0 ∷ z) b.2)) (subst (S (Word k_create ∷ Word k_table ∷ Word i.0 ∷ Sign 40 ∷ (b.0 ++ Sign 41 ∷ []))) b.4 (g.make_table i.0 n.1 b.3))

sound-index : (f : ℕ) (u : Bool) (w : List Token) → ((ts : List Token) (ns : List Name) (n t : Name) → T (plain_name n) → T (plain_name t) → Names ts ns → S (w ++ Word n ∷ Word k_on ∷ Word t ∷ Sign 40 ∷ (ts ++ Sign 41 ∷ [])) (tree.create_index u n t ns)) →
    (ts : List Token) (s : Statement) → create_index f u ts ≡ gets s [] → S (w ++ ts) s
sound-index f u w rule ts s h =
    let i = then-inv (a_name ts) _ h in
    let n = name-inv ts i.2 in
    let o = past_word k_on _ i.1 i.3 in
    let v = then-inv (a_name o.0) _ o.2 in
    let m = name-inv o.0 v.2 in
    let b = brackets-inv Names (list_of a_name f) (tree.create_index u i.0 v.0) (sound-names f) v.1 v.3 in
    subst (λ z. S (w ++ z) s) (sym (n.0 ∙ ap (λ z. Word i.0 ∷ z) (o.1 ∙ ap (λ z. Word k_on ∷ z) (m.0 ∙ ap (λ z. Word v.0 ∷ z) b.2))))
    (subst (S (w ++ Word i.0 ∷ Word k_on ∷ Word v.0 ∷ Sign 40 ∷ (b.0 ++ Sign 41 ∷ []))) b.4 (rule b.0 b.1 i.0 v.0 n.1 m.1 b.3))

sound-create : (f : ℕ) (ts : List Token) (s : Statement) → create f ts ≡ gets s [] → S (Word k_create ∷ ts) s
unfolding create
sound-create f ts s h = elim (choose-inv (is_word k_table) _ _ ts h) [
  | inl c ↦ subst (λ v. S (Word k_create ∷ v) s) (sym (c.2 ∙ ap (λ t. t ∷ c.1) (word-is k_table c.0 c.3))) (sound-table f c.1 s c.4)
  | inr c ↦ (elim (choose-inv (is_word k_index) _ _ ts c.1) [
    | inl c ↦ subst (λ v. S (Word k_create ∷ v) s) (sym (c.2 ∙ ap (λ t. t ∷ c.1) (word-is k_index c.0 c.3))) (sound-index f false (Word k_create ∷ Word k_index ∷ []) (λ ts ns n t p q x. g.make_index n t p q x) c.1 s c.4)
    | inr c ↦ (let o = past_word k_unique _ ts c.1 in let i = past_word k_index _ o.0 o.2 in
        subst (λ v. S (Word k_create ∷ v) s) (sym (o.1 ∙ ap (λ z. Word k_unique ∷ z) i.1)) (sound-index f true (Word k_create ∷ Word k_unique ∷ Word k_index ∷ []) (λ ts ns n t p q x. g.make_unique n t p q x) i.0 s i.2))
  ])
]

sound-drop : (ts : List Token) (s : Statement) → drop ts ≡ gets s [] → S (Word k_drop ∷ ts) s
unfolding drop
sound-drop ts s h = elim (choose-inv (is_word k_table) _ _ ts h) [
  | inl c ↦ by_name (Word k_drop ∷ Word k_table ∷ []) tree.drop_table (λ n p. g.unmake_table n p) (Word k_drop ∷ ts) c.1 s (ap (λ z. Word k_drop ∷ z) (c.2 ∙ ap (λ t. t ∷ c.1) (word-is k_table c.0 c.3))) c.4
  | inr c ↦ (let o = past_word k_index _ ts c.1 in by_name (Word k_drop ∷ Word k_index ∷ []) tree.drop_index (λ n p. g.unmake_index n p) (Word k_drop ∷ ts) o.0 s (ap (λ z. Word k_drop ∷ z) o.1) o.2)
]

asks-inv : (f : ℕ) (ts : List Token) (q : Query) → asks f ts ≡ gets q [] → g.Q ts q
asks-inv f ts q h =
    let i = sound f in
    let a = sound-question (expr f) (exprs f) (keys f) i.0 i.2 i.3 f ts h in
    subst (λ ts. g.Q ts q) (sym (a.1 ∙ append-nil a.0)) a.2

where-inv : (f : ℕ) (ts : List Token) (c : Expr) → condition k_where (expr f) ts ≡ gets c [] → Wheres ts c
where-inv f ts c h =
    let i = sound f in
    let a = sound-where (expr f) (exprs f) (keys f) i.0 i.2 i.3 ts h in
    subst (λ ts. Wheres ts c) (sym (a.1 ∙ append-nil a.0)) a.2

sound-insert : (f : ℕ) (ts : List Token) (s : Statement) → insert f ts ≡ gets s [] → S (Word k_insert ∷ ts) s
unfolding insert
sound-insert f ts s h =
    let o = past_word k_into _ ts h in
    let i = then-inv (a_name o.0) _ o.2 in
    let n = name-inv o.0 i.2 in
    let same = o.1 ∙ ap (λ z. Word k_into ∷ z) n.0 in
    elim (choose-inv (is_word k_values) _ _ i.1 i.3) [
      | inl c ↦ (let v = then-inv (list_of (a_row f) f c.1) _ c.4 in
          let x = sound-rows f f c.1 v.0 v.1 v.2 in
          let e = gets-inv v.3 in
          let all : c.1 ≡ x.0 = x.1 ∙ ap (λ z. x.0 ++ z) e.1 ∙ append-nil x.0 in
          subst (λ z. S (Word k_insert ∷ z) s) (sym (same ∙ ap (λ z. Word k_into ∷ Word i.0 ∷ z) (c.2 ∙ (λ j. word-is k_values c.0 c.3 j ∷ all j)))) (subst (S (Word k_insert ∷ Word k_into ∷ Word i.0 ∷ Word k_values ∷ x.0)) e.0 (g.inserts i.0 n.1 x.2)))
      | inr c ↦ (let v = then-inv (asks f i.1) _ c.1 in
          let e = gets-inv v.3 in
          subst (λ z. S (Word k_insert ∷ z) s) (sym same) (subst (S (Word k_insert ∷ Word k_into ∷ Word i.0 ∷ i.1)) e.0 (g.inserts_from i.0 n.1 (asks-inv f i.1 v.0 (v.2 ∙ ap (gets v.0) e.1)))))
    ]

sound-update : (f : ℕ) (ts : List Token) (s : Statement) → update f ts ≡ gets s [] → S (Word k_update ∷ ts) s
unfolding update
sound-update f ts s h =
    let i = then-inv (a_name ts) _ h in
    let n = name-inv ts i.2 in
    let o = past_word k_set _ i.1 i.3 in
    let v = then-inv (list_of (a_set f) f o.0) _ o.2 in
    let x = sound-sets f f o.0 v.0 v.1 v.2 in
    let w = then-inv (condition k_where (expr f) v.1) _ v.3 in
    let e = gets-inv w.3 in
    subst (λ z. S (Word k_update ∷ z) s) (sym (n.0 ∙ ap (λ z. Word i.0 ∷ z) (o.1 ∙ ap (λ z. Word k_set ∷ z) x.1))) (subst (S (Word k_update ∷ Word i.0 ∷ Word k_set ∷ (x.0 ++ v.1))) e.0 (g.updates i.0 n.1 x.2 (where-inv f v.1 w.0 (w.2 ∙ ap (gets w.0) e.1))))

sound-delete : (f : ℕ) (ts : List Token) (s : Statement) → delete f ts ≡ gets s [] → S (Word k_delete ∷ ts) s
unfolding delete
sound-delete f ts s h =
    let o = past_word k_from _ ts h in
    let i = then-inv (a_name o.0) _ o.2 in
    let n = name-inv o.0 i.2 in
    let w = then-inv (condition k_where (expr f) i.1) _ i.3 in
    let e = gets-inv w.3 in
    subst (λ z. S (Word k_delete ∷ z) s) (sym (o.1 ∙ ap (λ z. Word k_from ∷ z) n.0)) (subst (S (Word k_delete ∷ Word k_from ∷ Word i.0 ∷ i.1)) e.0 (g.deletes i.0 n.1 (where-inv f i.1 w.0 (w.2 ∙ ap (gets w.0) e.1))))

sound-rollback : (ts : List Token) (s : Statement) → rollback ts ≡ gets s [] → S (Word k_rollback ∷ ts) s
sound-rollback ts s h = elim (choose-inv (is_word k_to) (named tree.rollback_to) (gets tree.rollback) ts h) [
  | inl c ↦ by_name (Word k_rollback ∷ Word k_to ∷ []) tree.rollback_to (λ n p. g.goes_back n p) (Word k_rollback ∷ ts) c.1 s (ap (λ z. Word k_rollback ∷ z) (c.2 ∙ ap (λ t. t ∷ c.1) (word-is k_to c.0 c.3))) c.4
  | inr c ↦ (let e = gets-inv c.1 in subst (λ z. S (Word k_rollback ∷ z) s) (sym e.1) (subst (S (Word k_rollback ∷ [])) e.0 g.rolls_back))
]

-- after its first word
first : (w : Name) (ts : List Token) (t : Token) (us : List Token) (s : Statement) → ts ≡ t ∷ us → is_word w t ≡ true → S (Word w ∷ us) s → S ts s
first w ts t us s same is x = subst (λ v. S v s) (sym (same ∙ ap (λ t. t ∷ us) (word-is w t is))) x

pub sound-all : (f : ℕ) (ts : List Token) (s : Statement) → statement f ts ≡ gets s [] → S ts s
unfolding statement
sound-all f ts s h = elim (choose-inv (is_word k_create) _ _ ts h) [
  | inl c ↦ first k_create ts c.0 c.1 s c.2 c.3 (sound-create f c.1 s c.4)
  | inr c ↦ (elim (choose-inv (is_word k_drop) _ _ ts c.1) [
    | inl c ↦ first k_drop ts c.0 c.1 s c.2 c.3 (sound-drop c.1 s c.4)
    | inr c ↦ (elim (choose-inv (is_word k_insert) _ _ ts c.1) [
      | inl c ↦ first k_insert ts c.0 c.1 s c.2 c.3 (sound-insert f c.1 s c.4)
      | inr c ↦ (elim (choose-inv (is_word k_update) _ _ ts c.1) [
        | inl c ↦ first k_update ts c.0 c.1 s c.2 c.3 (sound-update f c.1 s c.4)
        | inr c ↦ (elim (choose-inv (is_word k_delete) _ _ ts c.1) [
          | inl c ↦ first k_delete ts c.0 c.1 s c.2 c.3 (sound-delete f c.1 s c.4)
          | inr c ↦ (elim (choose-inv (is_word k_begin) _ _ ts c.1) [
            | inl c ↦ (let e = gets-inv c.4 in first k_begin ts c.0 c.1 s c.2 c.3 (subst (λ z. S (Word k_begin ∷ z) s) (sym e.1) (subst (S (Word k_begin ∷ [])) e.0 g.begins)))
            | inr c ↦ (elim (choose-inv (is_word k_commit) _ _ ts c.1) [
              | inl c ↦ (let e = gets-inv c.4 in first k_commit ts c.0 c.1 s c.2 c.3 (subst (λ z. S (Word k_commit ∷ z) s) (sym e.1) (subst (S (Word k_commit ∷ [])) e.0 g.commits)))
              | inr c ↦ (elim (choose-inv (is_word k_rollback) _ _ ts c.1) [
                | inl c ↦ first k_rollback ts c.0 c.1 s c.2 c.3 (sound-rollback c.1 s c.4)
                | inr c ↦ (elim (choose-inv (is_word k_savepoint) _ _ ts c.1) [
                  | inl c ↦ first k_savepoint ts c.0 c.1 s c.2 c.3 (by_name (Word k_savepoint ∷ []) tree.savepoint (λ n p. g.marks n p) (Word k_savepoint ∷ c.1) c.1 s refl c.4)
                  | inr c ↦ (elim (choose-inv (is_word k_release) _ _ ts c.1) [
                    | inl c ↦ first k_release ts c.0 c.1 s c.2 c.3 (by_name (Word k_release ∷ []) tree.release (λ n p. g.lets n p) (Word k_release ∷ c.1) c.1 s refl c.4)
                    | inr c ↦ (let i = then-inv (asks f ts) _ c.1 in let e = gets-inv i.3 in subst (S ts) e.0 (g.asks (asks-inv f ts i.0 (i.2 ∙ ap (gets i.0) e.1))))
                  ])
                ])
              ])
            ])
          ])
        ])
      ])
    ])
  ])
]

-- no more tokens than bytes
abbrev pending : Mode → ℕ
pending Between = 0
pending (InWord w) = 1
pending (InNumber n) = 1
pending (InQuotes t) = 1
pending (AfterQuote t) = 1
pending AfterLess = 1
pending AfterMore = 1
pending AfterBar = 1

fresh : (b : ℕ) → length (gives b) + pending (enters b) ≤ 1
unfolding gives enters is_in
fresh b = grind (arith, nat_tests)

pend : (m : Mode) → pending m ≤ 1
pend Between = omega arith
pend (InWord w) = omega arith
pend (InNumber w) = omega arith
pend (InQuotes w) = omega arith
pend (AfterQuote w) = omega arith
pend AfterLess = omega arith
pend AfterMore = omega arith
pend AfterBar = omega arith

step : (m : Mode) (b : ℕ) → length (emits m b) + pending (after m b) ≤ 1 + pending m
unfolding emits after
step Between b = omega (arith, fresh b)
step (InWord w) b = go (letter b || digit b)
  where
    go : (t : Bool) → length (cond t [] (text.Word w ∷ gives b)) + pending (cond t (InWord (w ++ (text.small b ∷ []))) (enters b)) ≤ 1 + 1
    go true = omega arith
    go false = omega (arith, fresh b)
step (InNumber n) b = go (digit b) (letter b)
  where
    go : (t l : Bool) → length (cond t [] (cond l (text.Wrong ∷ []) (text.Number n ∷ gives b))) + pending (cond t (InNumber (10 * n + text.less_by 48 b)) (enters b)) ≤ 1 + 1
    go true l = omega arith
    go false true = omega (arith, pend (enters b))
    go false false = omega (arith, fresh b)
step (InQuotes t) b = go (ltb b 256) (eqb b 39)
  where
    go : (l q : Bool) → length (cond l [] (text.Wrong ∷ [])) + pending (cond q (AfterQuote t) (InQuotes (t ++ (b ∷ [])))) ≤ 1 + 1
    go true true = omega arith
    go true false = omega arith
    go false true = omega arith
    go false false = omega arith
step (AfterQuote t) b = go (eqb b 39)
  where
    go : (q : Bool) → length (cond q [] (text.Quoted t ∷ gives b)) + pending (cond q (InQuotes (t ++ (39 ∷ []))) (enters b)) ≤ 1 + 1
    go true = omega arith
    go false = omega (arith, fresh b)
step AfterLess b = go (eqb b 61) (eqb b 62)
  where
    go : (q p : Bool) → length (cond q (Sign text.at_most_sign ∷ []) (cond p (Sign text.differs_sign ∷ []) (Sign 60 ∷ gives b))) + pending (cond (q || p) Between (enters b)) ≤ 1 + 1
    go true p = omega arith
    go false true = omega arith
    go false false = omega (arith, fresh b)
step AfterMore b = go (eqb b 61)
  where
    go : (q : Bool) → length (cond q (Sign text.at_least_sign ∷ []) (Sign 62 ∷ gives b)) + pending (cond q Between (enters b)) ≤ 1 + 1
    go true = omega arith
    go false = omega (arith, fresh b)
step AfterBar b = go (eqb b 124)
  where
    go : (q : Bool) → length (cond q (Sign text.joined_sign ∷ []) (text.Wrong ∷ gives b)) + pending (cond q Between (enters b)) ≤ 1 + 1
    go true = omega arith
    go false = omega (arith, fresh b)

few : (m : Mode) (bs : List ℕ) → length (tokens m bs) ≤ length bs + pending m
unfolding tokens ends
few Between [] = omega arith
few (InWord w) [] = omega arith
few (InNumber n) [] = omega arith
few (InQuotes t) [] = omega arith
few (AfterQuote t) [] = omega arith
few AfterLess [] = omega arith
few AfterMore [] = omega arith
few AfterBar [] = omega arith
few m (b ∷ bs) = omega (arith, step m b, few (after m b) bs, length-append (emits m b) (tokens (after m b) bs))

pub few-tokens : (bs : List ℕ) → length (tokens Between bs) ≤ length bs
few-tokens bs = omega (arith, few Between bs)

-- the theorems
abbrev statement_of : Got Statement → Statement → Statement
statement_of refuses d = d
statement_of (gets q ts) d = q

pub one : OneReading
one bytes p q x y = let f = suc (length (tokens Between bytes)) in ap (λ g. statement_of g p) (sym (complete x f (omega arith)) ∙ complete y f (omega arith))

pub tell : CanTell
tell bytes = go (statement (suc (length (tokens Between bytes))) (tokens Between bytes)) refl
  where
    no : (g : Got Statement) → statement (suc (length (tokens Between bytes))) (tokens Between bytes) ≡ g → ((q : Statement) → g ≡ gets q [] → ⊥) → (q : Statement) → Reads bytes q → ⊥
    no g e h q x = h q (sym e ∙ complete x _ (omega arith))

    go : (g : Got Statement) → statement (suc (length (tokens Between bytes))) (tokens Between bytes) ≡ g → ((q : Statement) × Reads bytes q) ⊎ ((q : Statement) → Reads bytes q → ⊥)
    go refuses e = inr (no refuses e (λ q h. never h))
    go (gets q []) e = inl (q, sound-all (suc (length (tokens Between bytes))) (tokens Between bytes) q e)
    go (gets q (t ∷ ts)) e = inr (no (gets q (t ∷ ts)) e (λ p h. let z : ◌≡◌ {A = ℕ} 0 1 = cc in omega arith))
