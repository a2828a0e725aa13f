-- Many maps in one list.
use Rattle.std.proofs.Common.{◌≡◌, ℕ, zero, suc, ◌/◌, ◌%◌, ◌<◌, ◌≤◌, Bool, true, false, cond, ◌||◌, List, [], ◌∷◌, ◌++◌, sym, refl, ap, ◌∙◌, subst, inl, inr, arith, eq-eqb, ne_eqb}
use Rattle.std.specs.List.{AllByRecursion as All}
use Rattle.std.proofs.ByRecursion.{All-append}
use Rattle.std.proofs.lemmas.Bool.{cases_lt}
use Rattle.std.proofs.lemmas.Bool.Decides.{nat_tests}
use Rattle.meaning.specs.Value.{less_bytes}
use Rattle.tree.specs.Entries.{Entry, enter, take_out, Reply, Nothing, Found, first_from, last_before, Above, Under, Rising, Edit, put, del, spot, apply}
use Rattle.tree.specs.Look.{or_else}
use Rattle.tree.specs.Many.{prefixed, tag, tagged, together, at, is_of, own, ManyMaps, ManyRise}
use Rattle.tree.proofs.Edits.{apply-under, apply-above}
use Rattle.octets.proofs.Order.{less-asym}

-- keys of one map go by what follows the number, keys of two by the number
less-same-map : (m : ℕ) (a b : List ℕ) → less_bytes (prefixed m a) (prefixed m b) ≡ less_bytes a b
unfolding less_bytes
less-same-map m a b = grind (arith, nat_tests)

less-other-map : (i m : ℕ) (a b : List ℕ) → i < m → m < 65536 → less_bytes (prefixed i a) (prefixed m b) ≡ true
unfolding less_bytes
less-other-map i m a b h l = grind (arith, nat_tests)

-- an entry of a map is its own, and no other's
own-tag : (m : ℕ) (e : Entry) → own m (Found (tag m e)) ≡ Found e
own-tag m e = rw (eq-eqb (m / 256) (m / 256) refl, eq-eqb (m % 256) (m % 256) refl) refl

not_own : (i m : ℕ) (e : Entry) → (i ≡ m → ⊥) → is_of m (tag i e) ≡ false
not_own i m e h = grind (arith, nat_tests)

-- all entries of a map; of the maps below one
all-tagged : (P : Entry → Type 0) (m : ℕ) (es : List Entry) → ((e : Entry) → P (tag m e)) → All P (tagged m es)
unfolding tagged
all-tagged P m [] h = tt
all-tagged P m (e ∷ es) h = (h e, all-tagged P m es h)

all-together : (P : Entry → Type 0) (n : ℕ) (f : ℕ → List Entry) → ((i : ℕ) → i < n → (e : Entry) → P (tag i e)) → All P (together n f)
unfolding together
all-together P zero f h = tt
all-together P (suc n) f h = All-append P (together n f) (tagged n (f n)) (all-together P n f (λ i l. h i (omega arith))) (all-tagged P n (f n) (h n (omega arith)))

under-together : (n m : ℕ) (f : ℕ → List Entry) (k : List ℕ) → n ≤ m → m < 65536 → Under (prefixed m k) (together n f)
under-together n m f k h l = all-together (λ x. less_bytes x.key (prefixed m k) ≡ true) n f (λ i j e. less-other-map i m e.key k (omega arith) l)

above-tagged : (n m : ℕ) (es : List Entry) (k : List ℕ) → m < n → n < 65536 → Above (prefixed m k) (tagged n es)
above-tagged n m es k h l = all-tagged (λ x. less_bytes (prefixed m k) x.key ≡ true) n es (λ e. less-other-map m n k e.key h l)

-- EDITS
spots : ℕ → Edit → Edit
spots m (put e) = put (tag m e)
spots m (del k) = del (prefixed m k)

spot_of : ℕ → Edit → List ℕ
spot_of m (put e) = e.key
spot_of m (del k) = k

spot_is : (m : ℕ) (d : Edit) → spot (spots m d) ≡ prefixed m (spot_of m d)
unfolding spot spots spot_of
spot_is m (put e) = refl
spot_is m (del k) = refl

cond-tagged : (m : ℕ) (t : Bool) (a b : List Entry) → tagged m (cond t a b) ≡ cond t (tagged m a) (tagged m b)
cond-tagged m true a b = refl
cond-tagged m false a b = refl

apply-tagged : (m : ℕ) (d : Edit) (es : List Entry) → apply (spots m d) (tagged m es) ≡ tagged m (apply d es)
unfolding apply spots tagged enter take_out
apply-tagged m (put e) [] = refl
apply-tagged m (put e) (x ∷ xs) =
    let a = less_bytes e.key x.key in
    let b = less_bytes x.key e.key in
    rw (less-same-map m e.key x.key, less-same-map m x.key e.key)
    (ap (λ q. cond a (tag m e ∷ tag m x ∷ tagged m xs) (cond b (tag m x ∷ q) (tag m e ∷ tagged m xs))) (apply-tagged m (put e) xs)
    ∙ ap (λ q. cond a (tag m e ∷ tag m x ∷ tagged m xs) q) (sym (cond-tagged m b (x ∷ enter e xs) (e ∷ xs)))
    ∙ sym (cond-tagged m a (e ∷ x ∷ xs) (cond b (x ∷ enter e xs) (e ∷ xs))))
apply-tagged m (del k) [] = refl
apply-tagged m (del k) (x ∷ xs) =
    let t = less_bytes k x.key || less_bytes x.key k in
    rw (less-same-map m k x.key, less-same-map m x.key k)
    (ap (λ q. cond t (tag m x ∷ q) (tagged m xs)) (apply-tagged m (del k) xs) ∙ sym (cond-tagged m t (x ∷ take_out k xs) xs))

together-same : (n m : ℕ) (es : List Entry) (f : ℕ → List Entry) → n ≤ m → together n (at m es f) ≡ together n f
unfolding together
together-same zero m es f h = refl
together-same (suc n) m es f h = ap (λ xs. xs ++ tagged n (at m es f n)) (together-same n m es f (omega arith)) ∙ ap (λ xs. together n f ++ tagged n xs) (rw (ne_eqb n m (λ e. omega arith)) refl)

under-edit : (n m : ℕ) (d : Edit) (f : ℕ → List Entry) → n ≤ m → m < 65536 → Under (spot (spots m d)) (together n f)
under-edit n m d f h l = subst (λ k. Under k (together n f)) (sym (spot_is m d)) (under-together n m f (spot_of m d) h l)

above-edit : (n m : ℕ) (d : Edit) (es : List Entry) → m < n → n < 65536 → Above (spot (spots m d)) (tagged n es)
above-edit n m d es h l = subst (λ k. Above k (tagged n es)) (sym (spot_is m d)) (above-tagged n m es (spot_of m d) h l)

at_here : (m : ℕ) (es : List Entry) (f : ℕ → List Entry) → at m es f m ≡ es
at_here m es f = rw (eq-eqb m m refl) refl

at_there : (n m : ℕ) (es : List Entry) (f : ℕ → List Entry) → (n ≡ m → ⊥) → at m es f n ≡ f n
at_there n m es f h = rw (ne_eqb n m h) refl

-- the map is the last one, or one before it
apply-last : (n : ℕ) (d : Edit) (f : ℕ → List Entry) → n < 65536 → apply (spots n d) (together n f ++ tagged n (f n)) ≡ together n (at n (apply d (f n)) f) ++ tagged n (at n (apply d (f n)) f n)
apply-last n d f l =
    apply-under (spots n d) (together n f) (tagged n (f n)) (under-edit n n d f (omega arith) l)
    ∙ ap (λ q. together n f ++ q) (apply-tagged n d (f n) ∙ ap (tagged n) (sym (at_here n (apply d (f n)) f)))
    ∙ ap (λ q. q ++ tagged n (at n (apply d (f n)) f n)) (sym (together-same n n (apply d (f n)) f (omega arith)))

apply-before : (n m : ℕ) (d : Edit) (f : ℕ → List Entry) → n < 65536 → m < n → apply (spots m d) (together n f) ≡ together n (at m (apply d (f m)) f) → apply (spots m d) (together n f ++ tagged n (f n)) ≡ together n (at m (apply d (f m)) f) ++ tagged n (at m (apply d (f m)) f n)
apply-before n m d f l h ih =
    apply-above (spots m d) (together n f) (tagged n (f n)) (above-edit n m d (f n) h l)
    ∙ ap (λ q. q ++ tagged n (f n)) ih
    ∙ ap (λ q. together n (at m (apply d (f m)) f) ++ tagged n q) (sym (at_there n m (apply d (f m)) f (λ e. omega arith)))

apply-together : (n m : ℕ) (d : Edit) (f : ℕ → List Entry) → n ≤ 65536 → m < n → apply (spots m d) (together n f) ≡ together n (at m (apply d (f m)) f)
unfolding together
apply-together zero m d f h l = absurd (omega arith)
apply-together (suc n) m d f h l =
    elim (cases_lt m n) [
      | inl p ↦ apply-before n m d f (omega arith) p (apply-together n m d f (omega arith) p)
      | inr p ↦ let e : n ≡ m = omega arith in subst (λ j. apply (spots j d) (together n f ++ tagged n (f n)) ≡ together n (at j (apply d (f j)) f) ++ tagged n (at j (apply d (f j)) f n)) e (apply-last n d f (omega arith))
    ]

-- LOOKING
or-else-cond : (t : Bool) (r s : Reply) (x : Entry) → or_else (cond t r (Found x)) s ≡ cond t (or_else r s) (Found x)
unfolding or_else
or-else-cond true r s x = refl
or-else-cond false r s x = refl

first-append : (k : List ℕ) (a b : List Entry) → first_from k (a ++ b) ≡ or_else (first_from k a) (first_from k b)
unfolding first_from or_else
first-append k [] b = refl
first-append k (x ∷ a) b = ap (λ r. cond (less_bytes x.key k) r (Found x)) (first-append k a b) ∙ sym (or-else-cond (less_bytes x.key k) (first_from k a) (first_from k b) x)

own-cond : (m : ℕ) (t : Bool) (r s : Reply) → own m (cond t r s) ≡ cond t (own m r) (own m s)
own-cond m true r s = refl
own-cond m false r s = refl

-- in a map's own entries
first-tagged : (m : ℕ) (k : List ℕ) (es : List Entry) → own m (first_from (prefixed m k) (tagged m es)) ≡ first_from k es
unfolding first_from tagged
first-tagged m k [] = refl
first-tagged m k (x ∷ xs) =
    own-cond m (less_bytes (prefixed m x.key) (prefixed m k)) (first_from (prefixed m k) (tagged m xs)) (Found (tag m x))
    ∙ ap (λ t. cond t (own m (first_from (prefixed m k) (tagged m xs))) (own m (Found (tag m x)))) (less-same-map m x.key k)
    ∙ ap (λ r. cond (less_bytes x.key k) r (own m (Found (tag m x)))) (first-tagged m k xs)
    ∙ ap (λ r. cond (less_bytes x.key k) (first_from k xs) r) (own-tag m x)

last-tagged : (m : ℕ) (k : List ℕ) (es : List Entry) (r : Reply) → own m (last_before (prefixed m k) (tagged m es) r) ≡ last_before k es (own m r)
unfolding last_before tagged
last-tagged m k [] r = refl
last-tagged m k (x ∷ xs) r =
    own-cond m (less_bytes (prefixed m x.key) (prefixed m k)) (last_before (prefixed m k) (tagged m xs) (Found (tag m x))) r
    ∙ ap (λ t. cond t (own m (last_before (prefixed m k) (tagged m xs) (Found (tag m x)))) (own m r)) (less-same-map m x.key k)
    ∙ ap (λ q. cond (less_bytes x.key k) q (own m r)) (last-tagged m k xs (Found (tag m x)) ∙ ap (last_before k xs) (own-tag m x))

both : (t : Bool) → cond t Nothing Nothing ≡ Nothing
both true = refl
both false = refl

-- in those of others nothing is the map's
Others : ℕ → List Entry → Type 0
Others m = All (λ (x : Entry). is_of m x ≡ false)

own-other : (m : ℕ) (x : Entry) → is_of m x ≡ false → own m (Found x) ≡ Nothing
own-other m x h = rw h refl

first-others : (m : ℕ) (k : List ℕ) (es : List Entry) → Others m es → own m (first_from k es) ≡ Nothing
unfolding first_from Others
first-others m k [] h = refl
first-others m k (x ∷ xs) h =
    own-cond m (less_bytes x.key k) (first_from k xs) (Found x) ∙ ap (λ r. cond (less_bytes x.key k) r (own m (Found x))) (first-others m k xs h.1)
    ∙ ap (λ r. cond (less_bytes x.key k) Nothing r) (own-other m x h.0) ∙ both (less_bytes x.key k)

last-others : (m : ℕ) (k : List ℕ) (es : List Entry) (r : Reply) → Others m es → own m r ≡ Nothing → own m (last_before k es r) ≡ Nothing
unfolding last_before Others
last-others m k [] r h e = e
last-others m k (x ∷ xs) r h e =
    own-cond m (less_bytes x.key k) (last_before k xs (Found x)) r ∙ ap (λ q. cond (less_bytes x.key k) q (own m r)) (last-others m k xs (Found x) h.1 (own-other m x h.0))
    ∙ ap (λ q. cond (less_bytes x.key k) Nothing q) e ∙ both (less_bytes x.key k)

others-together : (n m : ℕ) (f : ℕ → List Entry) → n ≤ m → Others m (together n f)
unfolding Others
others-together n m f h = all-together (λ x. is_of m x ≡ false) n f (λ i l e. not_own i m e (λ z. omega arith))

others-tagged : (n m : ℕ) (es : List Entry) → (n ≡ m → ⊥) → Others m (tagged n es)
unfolding Others
others-tagged n m es h = all-tagged (λ x. is_of m x ≡ false) n es (λ e. not_own n m e h)

own-or-else : (m : ℕ) (r s : Reply) → own m s ≡ Nothing → own m (or_else r s) ≡ own m r
unfolding or_else
own-or-else m Nothing s h = h
own-or-else m (Found x) s h = refl

first_under : (k : List ℕ) (a b : List Entry) → Under k a → first_from k (a ++ b) ≡ first_from k b
unfolding first_from
first_under k [] b h = refl
first_under k (x ∷ a) b h = rw h.0 (first_under k a b h.1)

last_under : (k : List ℕ) (a b : List Entry) (r : Reply) → Under k a → last_before k (a ++ b) r ≡ last_before k b (last_before k a r)
unfolding last_before
last_under k [] b r h = refl
last_under k (x ∷ a) b r h = rw h.0 (last_under k a b (Found x) h.1)

last_none : (k : List ℕ) (b : List Entry) (r : Reply) → Above k b → last_before k b r ≡ r
unfolding last_before
last_none k [] r h = refl
last_none k (x ∷ b) r h = rw (less-asym k x.key h.0) refl

last-above : (k : List ℕ) (a b : List Entry) (r : Reply) → Above k b → last_before k (a ++ b) r ≡ last_before k a r
unfolding last_before
last-above k [] b r h = last_none k b r h
last-above k (x ∷ a) b r h = ap (λ q. cond (less_bytes x.key k) q r) (last-above k a b (Found x) h)

first-together : (n m : ℕ) (f : ℕ → List Entry) (k : List ℕ) → n ≤ 65536 → m < n → own m (first_from (prefixed m k) (together n f)) ≡ first_from k (f m)
unfolding together
first-together zero m f k h l = absurd (omega arith)
first-together (suc n) m f k h l =
    elim (cases_lt m n) [
      | inl p ↦ ap (own m) (first-append (prefixed m k) (together n f) (tagged n (f n))) ∙ own-or-else m (first_from (prefixed m k) (together n f)) (first_from (prefixed m k) (tagged n (f n))) (first-others m (prefixed m k) (tagged n (f n)) (others-tagged n m (f n) (λ z. omega arith))) ∙ first-together n m f k (omega arith) p
      | inr p ↦ let e : n ≡ m = omega arith in subst (λ j. own j (first_from (prefixed j k) (together n f ++ tagged n (f n))) ≡ first_from k (f j)) e (ap (own n) (first_under (prefixed n k) (together n f) (tagged n (f n)) (under-together n n f k (omega arith) (omega arith))) ∙ first-tagged n k (f n))
    ]

last-together : (n m : ℕ) (f : ℕ → List Entry) (k : List ℕ) → n ≤ 65536 → m < n → own m (last_before (prefixed m k) (together n f) Nothing) ≡ last_before k (f m) Nothing
unfolding together
last-together zero m f k h l = absurd (omega arith)
last-together (suc n) m f k h l =
    elim (cases_lt m n) [
      | inl p ↦ ap (own m) (last-above (prefixed m k) (together n f) (tagged n (f n)) Nothing (above-tagged n m (f n) k p (omega arith))) ∙ last-together n m f k (omega arith) p
      | inr p ↦ let e : n ≡ m = omega arith in subst (λ j. own j (last_before (prefixed j k) (together n f ++ tagged n (f n)) Nothing) ≡ last_before k (f j) Nothing) e (ap (own n) (last_under (prefixed n k) (together n f) (tagged n (f n)) Nothing (under-together n n f k (omega arith) (omega arith))) ∙ last-tagged n k (f n) (last_before (prefixed n k) (together n f) Nothing) ∙ ap (last_before k (f n)) (last-others n (prefixed n k) (together n f) Nothing (others-together n n f (omega arith)) refl))
    ]

-- RISING
above-own : (m : ℕ) (k : List ℕ) (es : List Entry) → Above k es → Above (prefixed m k) (tagged m es)
unfolding tagged
above-own m k [] h = tt
above-own m k (x ∷ xs) h = (less-same-map m k x.key ∙ h.0, above-own m k xs h.1)

rising-tagged : (m : ℕ) (es : List Entry) → Rising es → Rising (tagged m es)
unfolding tagged
rising-tagged m [] h = tt
rising-tagged m (x ∷ xs) h = (above-own m x.key xs h.0, rising-tagged m xs h.1)

rising-append : (a b : List Entry) → Rising a → Rising b → All (λ (x : Entry). Above x.key b) a → Rising (a ++ b)
rising-append [] b h k l = k
rising-append (x ∷ a) b h k l = (All-append (λ (y : Entry). less_bytes x.key y.key ≡ true) a b h.0 l.0, rising-append a b h.1 k l.1)

pub many-rise : ManyRise
unfolding together
many-rise zero f h r = tt
many-rise (suc n) f h r =
    rising-append (together n f) (tagged n (f n)) (many-rise n f (omega arith) r) (rising-tagged n (f n) (r n)) (all-together (λ x. Above x.key (tagged n (f n))) n f (λ i l e. above-tagged n i (f n) e.key l (omega arith)))

pub many-maps : ManyMaps
unfolding apply spots
many-maps n m f h l = (λ e. apply-together n m (put e) f h l, λ k. apply-together n m (del k) f h l, λ k. first-together n m f k h l, λ k. last-together n m f k h l)
