-- What edits do to a list of entries, and to its parts.
use Rattle.std.proofs.Common.{◌≡◌, ℕ, Bool, true, false, cond, ◌||◌, List, [], ◌∷◌, ◌++◌, sym, refl, ap, ◌∙◌, subst}
use Rattle.std.specs.List.{AllByRecursion as All}
use Rattle.std.proofs.lemmas.Bool.{cond_both, or_left, or_right}
use Rattle.meaning.specs.Value.{less_bytes}
use Rattle.tree.specs.Entries.{Entry, enter, take_out, Above, Under, From, Rising, Edit, put, del, Puts, spot, apply, applies, lower, upper}
use Rattle.octets.proofs.Order.{less-trans, less-asym, less-neither, less-from}

-- what holds of every entry
pub enter-all : (P : Entry → Type 0) (e : Entry) (xs : List Entry) → P e → All P xs → All P (enter e xs)
unfolding enter
enter-all P e [] h t = (h, tt)
enter-all P e (x ∷ xs) h t =
    cond_both (less_bytes e.key x.key) (e ∷ x ∷ xs) (cond (less_bytes x.key e.key) (x ∷ enter e xs) (e ∷ xs)) (All P) (λ _. (h, t))
    (λ _. cond_both (less_bytes x.key e.key) (x ∷ enter e xs) (e ∷ xs) (All P) (λ _. (t.0, enter-all P e xs h t.1)) (λ _. (h, t.1)))

pub take_all : (P : Entry → Type 0) (k : List ℕ) (xs : List Entry) → All P xs → All P (take_out k xs)
unfolding take_out
take_all P k [] t = tt
take_all P k (x ∷ xs) t = cond_both (less_bytes k x.key || less_bytes x.key k) (x ∷ take_out k xs) xs (All P) (λ _. (t.0, take_all P k xs t.1)) (λ _. t.1)

pub apply-all : (P : Entry → Type 0) (e : Edit) (xs : List Entry) → Puts P e → All P xs → All P (apply e xs)
unfolding apply
apply-all P (put e) xs h t = enter-all P e xs h t
apply-all P (del k) xs h t = take_all P k xs t

pub applies-all : (P : Entry → Type 0) (es : List Edit) (xs : List Entry) → All (Puts P) es → All P xs → All P (applies es xs)
unfolding applies
applies-all P [] xs h t = t
applies-all P (e ∷ es) xs h t = applies-all P es (apply e xs) h.1 (apply-all P e xs h.0 t)

-- of keys alone
pub keyed : (P : List ℕ → Type 0) (e : Edit) → P (spot e) → Puts (λ (x : Entry). P x.key) e
unfolding spot
keyed P (put e) h = h
keyed P (del k) h = tt

-- an edit passes over what is below it
enter-under : (e : Entry) (a xs : List Entry) → Under e.key a → enter e (a ++ xs) ≡ a ++ enter e xs
unfolding enter
enter-under e [] xs h = refl
enter-under e (x ∷ a) xs h =
    ap (λ t. cond t (e ∷ x ∷ (a ++ xs)) (cond (less_bytes x.key e.key) (x ∷ enter e (a ++ xs)) (e ∷ (a ++ xs)))) (less-asym x.key e.key h.0)
    ∙ ap (λ t. cond t (x ∷ enter e (a ++ xs)) (e ∷ (a ++ xs))) h.0 ∙ ap (λ z. x ∷ z) (enter-under e a xs h.1)

take-under : (k : List ℕ) (a xs : List Entry) → Under k a → take_out k (a ++ xs) ≡ a ++ take_out k xs
unfolding take_out
take-under k [] xs h = refl
take-under k (x ∷ a) xs h = ap (λ t. cond t (x ∷ take_out k (a ++ xs)) (a ++ xs)) (or_right (less_bytes k x.key) (less_bytes x.key k) h.0) ∙ ap (λ z. x ∷ z) (take-under k a xs h.1)

pub apply-under : (e : Edit) (a xs : List Entry) → Under (spot e) a → apply e (a ++ xs) ≡ a ++ apply e xs
unfolding apply spot
apply-under (put e) a xs h = enter-under e a xs h
apply-under (del k) a xs h = take-under k a xs h

-- and stops before what is above it
pub enter-first : (e : Entry) (b : List Entry) → Above e.key b → enter e b ≡ e ∷ b
unfolding enter
enter-first e [] h = refl
enter-first e (y ∷ b) h = ap (λ t. cond t (e ∷ y ∷ b) (cond (less_bytes y.key e.key) (y ∷ enter e b) (e ∷ b))) h.0

enter-cond : (s t : Bool) (e x : Entry) (m b u v : List Entry) → u ≡ v ++ b → cond s (e ∷ x ∷ (m ++ b)) (cond t (x ∷ u) (e ∷ (m ++ b))) ≡ cond s (e ∷ x ∷ m) (cond t (x ∷ v) (e ∷ m)) ++ b
enter-cond true t e x m b u v h = refl
enter-cond false true e x m b u v h = ap (λ z. x ∷ z) h
enter-cond false false e x m b u v h = refl

enter-above : (e : Entry) (m b : List Entry) → Above e.key b → enter e (m ++ b) ≡ enter e m ++ b
unfolding enter
enter-above e [] b h = enter-first e b h
enter-above e (x ∷ m) b h = enter-cond (less_bytes e.key x.key) (less_bytes x.key e.key) e x m b (enter e (m ++ b)) (enter e m) (enter-above e m b h)

take_none : (k : List ℕ) (b : List Entry) → Above k b → take_out k b ≡ b
unfolding take_out
take_none k [] h = refl
take_none k (y ∷ b) h = ap (λ t. cond t (y ∷ take_out k b) b) (or_left (less_bytes k y.key) (less_bytes y.key k) h.0) ∙ ap (λ z. y ∷ z) (take_none k b h.1)

take-cond : (s : Bool) (x : Entry) (m b u v : List Entry) → u ≡ v ++ b → cond s (x ∷ u) (m ++ b) ≡ cond s (x ∷ v) m ++ b
take-cond true x m b u v h = ap (λ z. x ∷ z) h
take-cond false x m b u v h = refl

take-above : (k : List ℕ) (m b : List Entry) → Above k b → take_out k (m ++ b) ≡ take_out k m ++ b
unfolding take_out
take-above k [] b h = take_none k b h
take-above k (x ∷ m) b h = take-cond (less_bytes k x.key || less_bytes x.key k) x m b (take_out k (m ++ b)) (take_out k m) (take-above k m b h)

pub apply-above : (e : Edit) (m b : List Entry) → Above (spot e) b → apply e (m ++ b) ≡ apply e m ++ b
unfolding apply spot
apply-above (put e) m b h = enter-above e m b h
apply-above (del k) m b h = take-above k m b h

-- edits of a middle part
pub applies-mid : (es : List Edit) (a m b : List Entry) → All (λ (e : Edit). Under (spot e) a) es → All (λ (e : Edit). Above (spot e) b) es → applies es (a ++ (m ++ b)) ≡ a ++ (applies es m ++ b)
unfolding applies
applies-mid [] a m b h k = refl
applies-mid (e ∷ es) a m b h k =
    ap (applies es) (apply-under e a (m ++ b) h.0 ∙ ap (λ z. a ++ z) (apply-above e m b k.0)) ∙ applies-mid es a (apply e m) b h.1 k.1

-- CUT: edits of two parts, each part with its own
pub under-above : (k f : List ℕ) (xs : List Entry) → less_bytes k f ≡ true → From f xs → Above k xs
under-above k f [] h t = tt
under-above k f (x ∷ xs) h t = (less-from k f x.key h t.0, under-above k f xs h t.1)

pub under-under : (k f : List ℕ) (xs : List Entry) → less_bytes k f ≡ false → Under f xs → Under k xs
under-under k f [] h t = tt
under-under k f (x ∷ xs) h t = (less-from x.key f k t.0 h, under-under k f xs h t.1)

pub applies-cut : (f : List ℕ) (es : List Edit) (p q : List Entry) → Under f p → From f q → applies es (p ++ q) ≡ applies (lower f es) p ++ applies (upper f es) q
unfolding applies lower upper
applies-cut f [] p q h k = refl
applies-cut f (e ∷ es) p q h k = go (less_bytes (spot e) f) refl (applies-cut f es)
  where
    go : (t : Bool) → less_bytes (spot e) f ≡ t → ((p q : List Entry) → Under f p → From f q → applies es (p ++ q) ≡ applies (lower f es) p ++ applies (upper f es) q) →
        applies es (apply e (p ++ q)) ≡ applies (cond (less_bytes (spot e) f) (e ∷ lower f es) (lower f es)) p ++ applies (cond (less_bytes (spot e) f) (upper f es) (e ∷ upper f es)) q
    go true s ih =
        ap (applies es) (apply-above e p q (under-above (spot e) f q s k))
        ∙ ih (apply e p) q (apply-all (λ (x : Entry). less_bytes x.key f ≡ true) e p (keyed (λ z. less_bytes z f ≡ true) e s) h) k
        ∙ sym (ap (λ t. applies (cond t (e ∷ lower f es) (lower f es)) p ++ applies (cond t (upper f es) (e ∷ upper f es)) q) s)
    go false s ih =
        ap (applies es) (apply-under e p q (under-under (spot e) f p s h))
        ∙ ih p (apply e q) h (apply-all (λ (x : Entry). less_bytes x.key f ≡ false) e q (keyed (λ z. less_bytes z f ≡ false) e s) k)
        ∙ sym (ap (λ t. applies (cond t (e ∷ lower f es) (lower f es)) p ++ applies (cond t (upper f es) (e ∷ upper f es)) q) s)

-- keys stay rising
pub above-trans : (k l : List ℕ) (xs : List Entry) → less_bytes k l ≡ true → Above l xs → Above k xs
above-trans k l [] h t = tt
above-trans k l (x ∷ xs) h t = (less-trans k l x.key h t.0, above-trans k l xs h t.1)

enter-rising : (e : Entry) (xs : List Entry) → Rising xs → Rising (enter e xs)
unfolding enter
enter-rising e [] r = (tt, tt)
enter-rising e (x ∷ xs) r =
    cond_both (less_bytes e.key x.key) (e ∷ x ∷ xs) (cond (less_bytes x.key e.key) (x ∷ enter e xs) (e ∷ xs)) Rising
    (λ h. ((h, above-trans e.key x.key xs h r.0), r))
    (λ h. cond_both (less_bytes x.key e.key) (x ∷ enter e xs) (e ∷ xs) Rising
    (λ k. (enter-all (λ (y : Entry). less_bytes x.key y.key ≡ true) e xs k r.0, enter-rising e xs r.1))
    (λ k. (subst (λ z. Above z xs) (less-neither x.key e.key k h) r.0, r.1)))

take-rising : (k : List ℕ) (xs : List Entry) → Rising xs → Rising (take_out k xs)
unfolding take_out
take-rising k [] r = tt
take-rising k (x ∷ xs) r =
    cond_both (less_bytes k x.key || less_bytes x.key k) (x ∷ take_out k xs) xs Rising (λ _. (take_all (λ (y : Entry). less_bytes x.key y.key ≡ true) k xs r.0, take-rising k xs r.1)) (λ _. r.1)

pub apply-rising : (e : Edit) (xs : List Entry) → Rising xs → Rising (apply e xs)
unfolding apply
apply-rising (put e) xs r = enter-rising e xs r
apply-rising (del k) xs r = take-rising k xs r

pub applies-rising : (es : List Edit) (xs : List Entry) → Rising xs → Rising (applies es xs)
unfolding applies
applies-rising [] xs r = r
applies-rising (e ∷ es) xs r = applies-rising es (apply e xs) (apply-rising e xs r)
