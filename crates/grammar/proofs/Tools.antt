-- The reader's parts, put together and taken apart. Assumes nothing.
use Rattle.std.proofs.Common.{◌≡◌, ℕ, ◌<◌, Bool, true, false, cond, T, ltb, ◌⊎◌, List, [], ◌∷◌, sym, refl, ap, ◌∙◌, subst, inl, inr, arith, rules}
use Rattle.std.proofs.lemmas.Bool.{ltb-true, eqb-true, lt-ltb}
use Rattle.std.proofs.lemmas.Slice.Eq.{compares_Decides}
use Rattle.meaning.specs.Tree.{Name}
use Rattle.meaning.specs.Meaning.{same_name}
use Rattle.meaning.specs.Text.{Token, Word, Number, Quoted, Sign, Wrong, plain_name}
use Rattle.grammar.specs.Reader.{Got, refuses, gets, Reader, and_then, choose, head_is, tail_of, is_sign, is_word, a_name, a_number, listed}

pub never : {A : Type 0} {P : Type 0} {a : A} {r : List Token} → refuses ≡ gets a r → P
never {a} {r} h = let z : ◌≡◌ {A = ℕ} 0 1 = cc in absurd (omega arith)

pub clash : {P : Type 0} → false ≡ true → P
clash h = let z : ◌≡◌ {A = ℕ} 0 1 = cc in absurd (omega arith)

pub T_true : (b : Bool) → T b → b ≡ true
T_true true h = refl
T_true false h = absurd h

pub true-T : (b : Bool) → b ≡ true → T b
true-T true h = tt
true-T false h = clash h

-- putting together
pub then_is : {A B : Type 0} {g : Got A} {a : A} {ts : List Token} (k : A → Reader B) {h : Got B} → g ≡ gets a ts → k a ts ≡ h → and_then g k ≡ h
then_is k e h = ap (λ g. and_then g k) e ∙ h

pub then-refused : {A B : Type 0} (g : Got A) (k : A → Reader B) → g ≡ refuses → and_then g k ≡ refuses
then-refused g k e = ap (λ g. and_then g k) e

pub choose_yes : {A : Type 0} (p : Token → Bool) (y n : Reader A) (ts us : List Token) → head_is p ts ≡ true → us ≡ tail_of ts → choose p y n ts ≡ y us
unfolding choose
choose_yes p y n [] us h e = clash h
choose_yes p y n (t ∷ ts) us h e = ap (λ b. cond b (y ts) (n (t ∷ ts))) h ∙ ap y (sym e)

pub choose_no : {A : Type 0} (p : Token → Bool) (y n : Reader A) (ts : List Token) → head_is p ts ≡ false → choose p y n ts ≡ n ts
unfolding choose
choose_no p y n [] h = refl
choose_no p y n (t ∷ ts) h = ap (λ b. cond b (y ts) (n (t ∷ ts))) h

pub listed-one : {A : Type 0} (item : Reader A) (rest : Reader (List A)) (v r : List Token) (a : A) → item v ≡ gets a r → head_is (is_sign 44) r ≡ false → listed item rest v ≡ gets (a ∷ []) r
listed-one item rest v r a e h = then_is _ e (choose_no (is_sign 44) _ _ r h)

pub listed_next : {A : Type 0} (item : Reader A) (rest : Reader (List A)) (v u r : List Token) (a : A) (as' : List A) → item v ≡ gets a (Sign 44 ∷ u) → rest u ≡ gets as' r → listed item rest v ≡ gets (a ∷ as') r
unfolding choose is_sign
listed_next item rest v u r a as' e h = then_is _ e (then_is (λ as' ws. gets (a ∷ as') ws) h refl)

pub name-fine : (n : Name) (r : List Token) → T (plain_name n) → a_name (Word n ∷ r) ≡ gets n r
unfolding a_name
name-fine n r p = ap (λ b. cond b (gets n r) refuses) (T_true _ p)

pub number-fine : (n : ℕ) (r : List Token) → n < 9223372036854775808 → a_number (Number n ∷ r) ≡ gets n r
unfolding a_number
number-fine n r l = ap (λ b. cond b (gets n r) refuses) (lt-ltb n 9223372036854775808 l)

-- taking apart
pub then-inv : {A B : Type 0} (g : Got A) (k : A → Reader B) {b : B} {r : List Token} → and_then g k ≡ gets b r → (a : A) × (us : List Token) × (g ≡ gets a us) × (k a us ≡ gets b r)
then-inv refuses k h = never h
then-inv (gets a us) k h = (a, us, refl, h)

pub cond-inv : {A : Type 0} (t : Bool) (x : Got A) {b : A} {r : List Token} → cond t x refuses ≡ gets b r → (t ≡ true) × (x ≡ gets b r)
cond-inv true x h = (refl, h)
cond-inv false x h = never h

pub gets-inv : {A : Type 0} {a b : A} {ts us : List Token} → gets a ts ≡ gets b us → (a ≡ b) × (ts ≡ us)
gets-inv {a} {b} {ts} {us} h = (cc, cc)

pub choose-inv : {A : Type 0} (p : Token → Bool) (y n : Reader A) (ts : List Token) {a : A} {r : List Token} → choose p y n ts ≡ gets a r →
    ((t : Token) × (us : List Token) × (ts ≡ t ∷ us) × (p t ≡ true) × (y us ≡ gets a r)) ⊎ ((head_is p ts ≡ false) × (n ts ≡ gets a r))
unfolding choose
choose-inv p y n [] h = inr (refl, h)
choose-inv p y n (t ∷ ts) {a} {r} h = go (p t) refl h
  where
    go : (b : Bool) → p t ≡ b → cond b (y ts) (n (t ∷ ts)) ≡ gets a r → ((t' : Token) × (us : List Token) × (t ∷ ts ≡ t' ∷ us) × (p t' ≡ true) × (y us ≡ gets a r)) ⊎ ((p t ≡ false) × (n (t ∷ ts) ≡ gets a r))
    go true k h = inl (t, ts, refl, k, h)
    go false k h = inr (k, h)

pub name-same : (m n : Name) → same_name m n ≡ true → m ≡ n
unfolding same_name
name-same m n h = (compares_Decides same_name (search rules) m n).0 h

pub sign-is : (b : ℕ) (t : Token) → is_sign b t ≡ true → t ≡ Sign b
unfolding is_sign
sign-is b (Word n) h = clash h
sign-is b (Number n) h = clash h
sign-is b (Quoted n) h = clash h
sign-is b (Sign n) h = ap Sign (eqb-true n b h)
sign-is b Wrong h = clash h

pub word-is : (b : Name) (t : Token) → is_word b t ≡ true → t ≡ Word b
unfolding is_word
word-is b (Word n) h = ap Word (name-same n b h)
word-is b (Number n) h = clash h
word-is b (Quoted n) h = clash h
word-is b (Sign n) h = clash h
word-is b Wrong h = clash h

-- a token that has to stand there stood there
pub past-sign : {A : Type 0} (b : ℕ) (k : Reader A) (ts : List Token) {a : A} {r : List Token} → choose (is_sign b) k (λ us. refuses) ts ≡ gets a r → (us : List Token) × (ts ≡ Sign b ∷ us) × (k us ≡ gets a r)
past-sign b k ts {a} {r} h = elim (choose-inv (is_sign b) k (λ us. refuses) ts h) [ inl i ↦ (i.1, i.2 ∙ ap (λ t. t ∷ i.1) (sign-is b i.0 i.3), i.4) | inr i ↦ never i.1 ]

pub past_word : {A : Type 0} (b : Name) (k : Reader A) (ts : List Token) {a : A} {r : List Token} → choose (is_word b) k (λ us. refuses) ts ≡ gets a r → (us : List Token) × (ts ≡ Word b ∷ us) × (k us ≡ gets a r)
past_word b k ts {a} {r} h = elim (choose-inv (is_word b) k (λ us. refuses) ts h) [ inl i ↦ (i.1, i.2 ∙ ap (λ t. t ∷ i.1) (word-is b i.0 i.3), i.4) | inr i ↦ never i.1 ]

pub name-inv : (ts : List Token) {n : Name} {r : List Token} → a_name ts ≡ gets n r → (ts ≡ Word n ∷ r) × T (plain_name n)
unfolding a_name
name-inv [] h = never h
name-inv (Word m ∷ ts) {n} {r} h =
    let c = cond-inv (plain_name m) (gets m ts) h in
    let g = gets-inv c.1 in
    ((λ i. Word (g.0 i) ∷ g.1 i), subst (λ n. T (plain_name n)) g.0 (true-T _ c.0))
name-inv (Number m ∷ ts) h = never h
name-inv (Quoted m ∷ ts) h = never h
name-inv (Sign m ∷ ts) h = never h
name-inv (Wrong ∷ ts) h = never h

pub number-inv : (ts : List Token) {n : ℕ} {r : List Token} → a_number ts ≡ gets n r → (ts ≡ Number n ∷ r) × (n < 9223372036854775808)
unfolding a_number
number-inv [] h = never h
number-inv (Number m ∷ ts) {n} {r} h =
    let c = cond-inv (ltb m 9223372036854775808) (gets m ts) h in
    let g = gets-inv c.1 in
    ((λ i. Number (g.0 i) ∷ g.1 i), subst (λ n. n < 9223372036854775808) g.0 (ltb-true m 9223372036854775808 c.0))
number-inv (Word m ∷ ts) h = never h
number-inv (Quoted m ∷ ts) h = never h
number-inv (Sign m ∷ ts) h = never h
number-inv (Wrong ∷ ts) h = never h

-- a name that is no keyword differs from each keyword
pub plain_other : (n k : Name) → T (plain_name n) → plain_name k ≡ false → same_name n k ≡ false
plain_other n k p h = go (same_name n k) refl
  where
    go : (b : Bool) → same_name n k ≡ b → b ≡ false
    go true e = clash (sym h ∙ ap plain_name (sym (name-same n k e)) ∙ T_true _ p)
    go false e = refl
