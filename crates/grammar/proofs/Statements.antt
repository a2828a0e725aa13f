-- What the grammar derives of statements, the reader finds. Assumes nothing.
use Rattle.std.proofs.Common.{◌≡◌, ℕ, zero, suc, ◌+◌, ◌<◌, true, false, T, List, [], ◌∷◌, ◌++◌, length, sym, refl, ap, ◌∙◌, subst, append_assoc, append-nil, arith, length-append}
use Rattle.meaning.specs.Tree as tree
use Rattle.meaning.specs.Tree.{Name, Col, Set, Expr, Exprs, Query, Statement}
use Rattle.meaning.specs.Meaning.{same_name}
use Rattle.meaning.specs.Text.{Token, Word, Sign, plain_name, k_where, k_not, k_values}
use Rattle.meaning.specs.Grammar as g
use Rattle.meaning.specs.Grammar.{X, Xs, Q, S, OneCol, Cols, Names, RowList, SetList, Wheres}
use Rattle.grammar.specs.Reader.{gets, Reader, and_then, choose, head_is, past, is_sign, is_word, a_name, list_of, to_exprs, condition, expr, asks, must, a_col, a_row, a_set, named, in_brackets, create, drop, insert, update, delete, statement}
use Rattle.grammar.proofs.Tools.{then_is, choose_no, listed-one, listed_next, name-fine}
use Rattle.grammar.proofs.Marks.{After, close_mark, Quiet, whole, quiet-comma, quiet-after, after-comma}
use Rattle.grammar.proofs.Operands.{Selects, selects}
use Rattle.grammar.proofs.Complete.{fine, fine_xs, fine_w, fine_q}

comma-next : (r : List Token) → Quiet (Sign 44 ∷ r) × (head_is (is_word k_not) (Sign 44 ∷ r) ≡ false)
unfolding is_word
comma-next r = (quiet-comma r, refl)

must-none : (r : List Token) → head_is (is_word k_not) r ≡ false → must r ≡ gets false r
must-none r h = choose_no (is_word k_not) _ _ r h

col-fine : {ts : List Token} {c : Col} → OneCol ts c → (r : List Token) → head_is (is_word k_not) r ≡ false → a_col (ts ++ r) ≡ gets c r
unfolding choose is_word same_name
col-fine (g.int n p) r h = then_is _ (name-fine n _ p) (then_is (λ b ws. gets (record { name = n; text = false; must = b }) ws) (must-none r h) refl)
col-fine (g.int_must n p) r h = then_is _ (name-fine n _ p) refl
col-fine (g.txt n p) r h = then_is _ (name-fine n _ p) (then_is (λ b ws. gets (record { name = n; text = true; must = b }) ws) (must-none r h) refl)
col-fine (g.txt_must n p) r h = then_is _ (name-fine n _ p) refl

-- before a closing bracket
close-not : (r : List Token) → head_is (is_word k_not) (Sign 41 ∷ r) ≡ false
unfolding is_word
close-not r = refl

close-comma : (r : List Token) → head_is (is_sign 44) (Sign 41 ∷ r) ≡ false
unfolding is_sign
close-comma r = refl

cols-fine : {ts : List Token} {cs : List Col} → Cols ts cs → (r : List Token) (f : ℕ) → length (ts ++ Sign 41 ∷ r) < f → list_of a_col f (ts ++ Sign 41 ∷ r) ≡ gets cs (Sign 41 ∷ r)
unfolding list_of
cols-fine c r zero l = absurd (omega arith)
cols-fine (g.one c) r (suc f) l = listed-one a_col (list_of a_col f) _ _ _ (col-fine c _ (close-not r)) (close-comma r)
cols-fine (g.next {ts} {us} c cs) r (suc f) l =
    let same = append_assoc ts (Sign 44 ∷ us) (Sign 41 ∷ r) in
    let long = ap length same in
    let parts = length-append ts (Sign 44 ∷ (us ++ Sign 41 ∷ r)) in
    ap (list_of a_col (suc f)) same ∙ listed_next a_col (list_of a_col f) _ (us ++ Sign 41 ∷ r) _ _ _ (col-fine c _ (comma-next (us ++ Sign 41 ∷ r)).1) (cols-fine cs r f (omega arith))

names-fine : {ts : List Token} {ns : List Name} → Names ts ns → (r : List Token) (f : ℕ) → length (ts ++ Sign 41 ∷ r) < f → list_of a_name f (ts ++ Sign 41 ∷ r) ≡ gets ns (Sign 41 ∷ r)
unfolding list_of
names-fine c r zero l = absurd (omega arith)
names-fine (g.one n p) r (suc f) l = listed-one a_name (list_of a_name f) _ _ _ (name-fine n _ p) (close-comma r)
names-fine (g.next {ts} n p ns) r (suc f) l = listed_next a_name (list_of a_name f) _ (ts ++ Sign 41 ∷ r) _ _ _ (name-fine n _ p) (names-fine ns r f (omega arith))

row_fine : {ts : List Token} {es : Exprs} → Xs ts es → (v r : List Token) → v ≡ ts ++ Sign 41 ∷ r → (f : ℕ) → length v + 1 < f → a_row f (Sign 40 ∷ v) ≡ gets es r
unfolding choose is_sign
row_fine {ts} {es} x v r same f l =
    let fx = fine_xs x in
    then_is (λ es vs. past (is_sign 41) (gets (to_exprs es)) vs) (fx.2 v (Sign 41 ∷ r) same 6 (6, omega arith, close_mark) f l) (ap (λ e. gets e r) fx.1)

-- f: the turns of the items, h: those of the list
rows-fine : {ts : List Token} {rs : List Exprs} → RowList ts rs → (f h : ℕ) → length ts < f → length ts < h → list_of (a_row f) h ts ≡ gets rs []
unfolding list_of
rows-fine c f zero l m = absurd (omega arith)
rows-fine (g.one {ts} x) f (suc h) l m = listed-one (a_row f) (list_of (a_row f) h) _ [] _ (row_fine x (ts ++ Sign 41 ∷ []) [] refl f (omega arith)) refl
rows-fine (g.next {ts} {us} x rs) f (suc h) l m =
    let parts = length-append ts (Sign 41 ∷ Sign 44 ∷ us) in
    listed_next (a_row f) (list_of (a_row f) h) _ us [] _ _ (row_fine x (ts ++ Sign 41 ∷ Sign 44 ∷ us) (Sign 44 ∷ us) refl f (omega arith)) (rows-fine rs f h (omega arith) (omega arith))

set-fine : {ts : List Token} {e : Expr} (n : Name) → T (plain_name n) → X 0 ts e → (v r : List Token) → v ≡ ts ++ r → Quiet r → (f : ℕ) → length v < f → a_set f (Word n ∷ Sign 61 ∷ v) ≡ gets (record { col = n; to = e }) r
unfolding choose is_sign
set-fine {ts} {e} n p x v r same q f l = then_is _ (name-fine n _ p) (then_is (λ e ws. gets (record { col = n; to = e }) ws) (whole ts e (fine x) v r same q f l) refl)

sets-fine : {ts : List Token} {ss : List Set} → SetList ts ss → (v r : List Token) → v ≡ ts ++ r → After 1 r → (f h : ℕ) → length v < f → length v < h → list_of (a_set f) h v ≡ gets ss r
unfolding list_of
sets-fine c v r same a f zero l m = absurd (omega arith)
sets-fine (g.one {ts} n p x) v r same a f (suc h) l m =
    let long = ap length same in
    ap (list_of (a_set f) (suc h)) same ∙ listed-one (a_set f) (list_of (a_set f) h) _ r _ (set-fine n p x (ts ++ r) r refl (quiet-after 1 r a) f (omega arith)) (after-comma 1 r a)
sets-fine (g.next {ts} {us} n p x ss) v r same a f (suc h) l m =
    let as' = same ∙ ap (λ u. Word n ∷ Sign 61 ∷ u) (append_assoc ts (Sign 44 ∷ us) r) in
    let long = ap length as' in
    let parts = length-append ts (Sign 44 ∷ (us ++ r)) in
    ap (list_of (a_set f) (suc h)) as' ∙ listed_next (a_set f) (list_of (a_set f) h) _ (us ++ r) r _ _ (set-fine n p x (ts ++ Sign 44 ∷ (us ++ r)) (Sign 44 ∷ (us ++ r)) refl (quiet-comma (us ++ r)) f (omega arith)) (sets-fine ss (us ++ r) r refl a f h (omega arith) (omega arith))

where-fine : {ts : List Token} {e : Expr} → Wheres ts e → (f : ℕ) → length ts < f → (condition k_where (expr f) ts ≡ gets e []) × After 1 ts
where-fine {ts} w' f l =
    let it = fine_w w' [] tt f (subst (λ v. length v < f) (sym (append-nil ts)) l) in
    (ap (condition k_where (expr f)) (sym (append-nil ts)) ∙ it.0, subst (After 1) (append-nil ts) it.1)

asks-fine : {ts : List Token} {q : Query} → Q ts q → (f : ℕ) → length ts < f → asks f ts ≡ gets q []
asks-fine {ts} d f l = ap (asks f) (sym (append-nil ts)) ∙ fine_q d [] tt f (subst (λ v. length v < f) (sym (append-nil ts)) l)

brackets-fine : {A : Type 0} (l : Reader (List A)) (st : List A → Statement) (ts : List Token) (as' : List A) → l (ts ++ Sign 41 ∷ []) ≡ gets as' (Sign 41 ∷ []) → in_brackets l st (Sign 40 ∷ (ts ++ Sign 41 ∷ [])) ≡ gets (st as') []
unfolding choose is_sign
brackets-fine l st ts as' h = then_is (λ as' vs. past (is_sign 41) (gets (st as')) vs) h refl

named-fine : (st : Name → Statement) (n : Name) → T (plain_name n) → named st (Word n ∷ []) ≡ gets (st n) []
named-fine st n p = then_is (λ n us. gets (st n) us) (name-fine n [] p) refl

select-statement : (ts : List Token) (q : Query) (f : ℕ) → Selects ts → asks f ts ≡ gets q [] → statement f ts ≡ gets (tree.select q) []
unfolding statement choose is_word same_name
select-statement [] q f s h = absurd s
select-statement (t ∷ ts) q f s h =
    ap (λ t. statement f (t ∷ ts)) s ∙ then_is (λ q vs. gets (tree.select q) vs) (ap (λ t. asks f (t ∷ ts)) (sym s) ∙ h) refl

from-values : (ts : List Token) (q : Query) (n : Name) (f : ℕ) → Selects ts → asks f ts ≡ gets q [] → choose (is_word k_values) (λ ws. and_then (list_of (a_row f) f ws) (λ rs zs. gets (tree.insert n rs) zs)) (λ ws. and_then (asks f ws) (λ q zs. gets (tree.insert_from n q) zs)) ts ≡ gets (tree.insert_from n q) []
unfolding choose is_word same_name
from-values [] q n f s h = absurd s
from-values (t ∷ ts) q n f s h =
    ap (λ t. choose (is_word k_values) (λ ws. and_then (list_of (a_row f) f ws) (λ rs zs. gets (tree.insert n rs) zs)) (λ ws. and_then (asks f ws) (λ q zs. gets (tree.insert_from n q) zs)) (t ∷ ts)) s
    ∙ then_is (λ q zs. gets (tree.insert_from n q) zs) (ap (λ t. asks f (t ∷ ts)) (sym s) ∙ h) refl

pub complete : {ts : List Token} {st : Statement} → S ts st → (f : ℕ) → length ts < f → statement f ts ≡ gets st []
unfolding statement create drop insert update delete choose is_word same_name
complete (g.make_table {ts} {cs} n p c) f l = then_is _ (name-fine n _ p) (brackets-fine (list_of a_col f) (tree.create_table n) ts cs (cols-fine c [] f (omega arith)))
complete (g.unmake_table n p) f l = named-fine tree.drop_table n p
complete (g.make_index {ts} {ns} n t p q c) f l = then_is _ (name-fine n _ p) (then_is _ (name-fine t _ q) (brackets-fine (list_of a_name f) (tree.create_index false n t) ts ns (names-fine c [] f (omega arith))))
complete (g.make_unique {ts} {ns} n t p q c) f l = then_is _ (name-fine n _ p) (then_is _ (name-fine t _ q) (brackets-fine (list_of a_name f) (tree.create_index true n t) ts ns (names-fine c [] f (omega arith))))
complete (g.unmake_index n p) f l = named-fine tree.drop_index n p
complete (g.inserts {ts} {rs} n p c) f l = then_is _ (name-fine n _ p) (then_is (λ rs zs. gets (tree.insert n rs) zs) (rows-fine c f f (omega arith) (omega arith)) refl)
complete (g.inserts_from {ts} {q} n p c) f l = then_is _ (name-fine n _ p) (from-values ts q n f (selects c) (asks-fine c f (omega arith)))
complete (g.updates {ts} {ws} {ss} {e} n p c w') f l =
    let parts = length-append ts ws in
    let it = where-fine w' f (omega arith) in
    then_is _ (name-fine n _ p) (then_is (λ ss ws. and_then (condition k_where (expr f) ws) (λ c zs. gets (tree.update n ss c) zs)) (sets-fine c (ts ++ ws) ws refl it.1 f f (omega arith) (omega arith)) (then_is (λ c zs. gets (tree.update n ss c) zs) it.0 refl))
complete (g.deletes {ws} {e} n p w') f l = then_is _ (name-fine n _ p) (then_is (λ c ws. gets (tree.delete n c) ws) (where-fine w' f (omega arith)).0 refl)
complete (g.asks {ts} {q} c) f l = select-statement ts q f (selects c) (asks-fine c f l)
complete g.begins f l = refl
complete g.commits f l = refl
complete g.rolls_back f l = refl
complete (g.marks n p) f l = named-fine tree.savepoint n p
complete (g.goes_back n p) f l = named-fine tree.rollback_to n p
complete (g.lets n p) f l = named-fine tree.release n p
