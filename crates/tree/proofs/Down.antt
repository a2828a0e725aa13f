-- The whole way down.
use Rattle.std.proofs.Common.{◌≡◌, ℕ, zero, suc, ◌<◌, Bool, true, false, cond, not, List, [], ◌∷◌, ◌++◌, length, sym, refl, ap, ◌∙◌, subst, append_assoc, arith}
use mathlib.Core.List.{nil≢cons, cons≢nil, head-eq_of_cons-eq, tail-eq_of_cons-eq}
use Rattle.std.specs.List.{AllByRecursion as All}
use Rattle.std.proofs.lemmas.Bool.{cond_both, cond-true, cond-false, not_from_false, not_from_true}
use Rattle.meaning.specs.Value.{less_bytes}
use Rattle.tree.specs.Entries.{Entry, first_key, Reply, Nothing, Found, first_from, last_before, Above, Rising}
use Rattle.tree.specs.Pages.{Page, concat}
use Rattle.tree.specs.Tree.{Node, heads, pages, entries}
use Rattle.tree.specs.Look.{lead, either, next_above, next_in, down_next, first_of, or_else, first_at, seek_before, Over, NotUnder, Reached, Chosen, Belongs, ChosenUnder, LastUnder, pick, pick_under, child, down, Stored, InStore, Reaches}
use Rattle.tree.specs.Laws.{DownReaches, DownUnder, DownExact, DownBefore, SeekFrom, SeekBefore, SeekLeaf, NamesApart}
use Rattle.octets.proofs.Order.{never, less-same, less-trans, less-asym, less-from}
use Rattle.tree.proofs.Bound.{all_right}
use Rattle.tree.proofs.Rise.{heads-rising}
use Rattle.tree.proofs.Look.{at-step, under-step, lead-heads, first_found, last_found, none_found}

-- what is chosen in a page
pick-reached : (k : List ℕ) (x : Entry) (xs : List Entry) → less_bytes k x.key ≡ false → less_bytes k (pick k x xs).key ≡ false
unfolding pick
pick-reached k x [] h = h
pick-reached k x (y ∷ ys) h = cond_both (less_bytes k y.key) x (pick k y ys) (λ z. less_bytes k z.key ≡ false) (λ _. h) (λ e. pick-reached k y ys e)

abbrev At : (List ℕ → List Entry → Entry → List Entry → Type 0) → List ℕ → List Entry → Entry → Type 0
At P k ys z = (a : List Entry) × (c : List Entry) × (ys ≡ a ++ (z ∷ c)) × P k a z c

pub under-chosen : (k : List ℕ) (x : Entry) (xs : List Entry) → less_bytes x.key k ≡ true → At ChosenUnder k (x ∷ xs) (pick_under k x xs)
unfolding pick_under lead
under-chosen k x [] h = ([], [], refl, (h, tt))
under-chosen k x (y ∷ ys) h =
    cond_both (less_bytes y.key k) (pick_under k y ys) x (λ z. At ChosenUnder k (x ∷ y ∷ ys) z)
    (λ e. let r = under-chosen k y ys e in (x ∷ r.0, r.1, ap (λ z. x ∷ z) r.2, r.3)) (λ e. ([], y ∷ ys, refl, (h, e)))

-- the last step of a way
down-last : (f : List ℕ → Entry → List Entry → Entry) (store : List ℕ → Page) (k : List ℕ) (h : ℕ) (p : List ℕ) → down f store k (suc h) p ≡ child f k (store (down f store k h p))
unfolding down
down-last f store k zero p = refl
down-last f store k (suc h) p = down-last f store k h (child f k (store p))

some-pages : (store : List ℕ → Page) (ns : List Node) → Stored store ns → All (λ (p : Page). 0 < length p) (pages ns)
unfolding pages
some-pages store [] s = tt
some-pages store (n ∷ ns) s = (s.0.1, some-pages store ns s.1)

stored_last : (store : List ℕ → Page) (a : List Node) (n : Node) (b : List Node) → Stored store (a ++ (n ∷ b)) → Stored store (n ∷ b)
stored_last store a n b s = all_right (λ (n : Node). (n.items ≡ store n.name) × (0 < length n.items)) a (n ∷ b) s

pub stored-level : (store : List ℕ → Page) (root : Node) (below : List Node) (more : List (List Node)) → InStore store root below more → Stored store below
stored-level store root below [] s = s.0
stored-level store root below (ns ∷ more) s = s.0

chosen-next : (k : List ℕ) (x : Entry) (xs : List Entry) → (a : List Entry) × (c : List Entry) × (x ∷ xs ≡ a ++ (pick k x xs ∷ c)) × Chosen k a (pick k x xs) c × (lead c ≡ next_above k xs)
unfolding pick lead next_above
chosen-next k x [] = ([], [], refl, (tt, tt), refl)
chosen-next k x (y ∷ ys) = go (less_bytes k y.key) refl (chosen-next k y ys)
  where
    go : (t : Bool) → less_bytes k y.key ≡ t → ((a : List Entry) × (c : List Entry) × (y ∷ ys ≡ a ++ (pick k y ys ∷ c)) × Chosen k a (pick k y ys) c × (lead c ≡ next_above k ys)) →
        (a : List Entry) × (c : List Entry) × (x ∷ y ∷ ys ≡ a ++ (cond (less_bytes k y.key) x (pick k y ys) ∷ c)) × Chosen k a (cond (less_bytes k y.key) x (pick k y ys)) c × (lead c ≡ cond (less_bytes k y.key) (y.key ∷ []) (next_above k ys))
    go true e r =
        let z : cond (less_bytes k y.key) x (pick k y ys) ≡ x = cond-true (less_bytes k y.key) x (pick k y ys) e in
        ([], y ∷ ys, ap (λ v. v ∷ y ∷ ys) (sym z), (tt, e), sym (cond-true (less_bytes k y.key) (y.key ∷ []) (next_above k ys) e))
    go false e r =
        let z : cond (less_bytes k y.key) x (pick k y ys) ≡ pick k y ys = cond-false (less_bytes k y.key) x (pick k y ys) e in (
          x ∷ r.0,
          r.1,
          ap (λ v. x ∷ v) r.2 ∙ ap (λ v. x ∷ (r.0 ++ (v ∷ r.1))) (sym z),
          (subst (λ v. less_bytes k v.key ≡ false) (sym z) (pick-reached k y ys e), r.3.1),
          r.4 ∙ sym (cond-false (less_bytes k y.key) (y.key ∷ []) (next_above k ys) e),
        )

down-next : (store : List ℕ → Page) (k : List ℕ) (h : ℕ) (p : List ℕ) (next : List (List ℕ)) → down_next store k (suc h) p next ≡ either (next_in k (store (down pick store k h p))) (down_next store k h p next)
unfolding down down_next
down-next store k zero p next = refl
down-next store k (suc h) p next = down-next store k h (child pick k (store p)) (either (next_in k (store p)) next)

at-child : (k : List ℕ) (below ns pre : List Node) (n : Node) (post : List Node) (xs : Page) → n.items ≡ xs → 0 < length xs → All (λ (p : Page). 0 < length p) (pages post) → entries ns ≡ heads below → ns ≡ pre ++ (n ∷ post) → Belongs k pre n post →
    Reaches below (child pick k xs) (λ a m b. Belongs k a m b × (lead (heads b) ≡ either (next_in k xs) (lead (heads post))))
unfolding child next_in
at-child k below ns pre n post [] i l h e w b = absurd (omega arith)
at-child k below ns pre n post (x ∷ xs) i l h e w b =
    let r = chosen-next k x xs in
    let c = at-step k below pre n post r.0 (pick k x xs) r.1 h (ap entries (sym w) ∙ e) (i ∙ r.2) b r.3 in
    record { before = c.before; here = c.here; after = c.after; whole = c.whole; named = ap (λ (z : Entry). z.value) c.named; holds = (c.holds.0, c.holds.1 ∙ ap (λ z. either z (lead (heads post))) r.4) }

under-child : (k : List ℕ) (below ns pre : List Node) (n : Node) (post : List Node) (xs : Page) → n.items ≡ xs → 0 < length xs → All (λ (p : Page). 0 < length p) (pages post) → entries ns ≡ heads below → ns ≡ pre ++ (n ∷ post) → LastUnder k pre n post →
    Reaches below (child pick_under k xs) (LastUnder k)
unfolding child first_key
under-child k below ns pre n post [] i l h e w b = absurd (omega arith)
under-child k below ns pre n post (x ∷ xs) i l h e w b =
    let f : less_bytes x.key k ≡ true = subst (λ z. less_bytes (first_key z) k ≡ true) i b.0 in
    let r = under-chosen k x xs f in
    let c = under-step k below pre n post r.0 (pick_under k x xs) r.1 h (ap entries (sym w) ∙ e) (i ∙ r.2) b r.3 in
    record { before = c.before; here = c.here; after = c.after; whole = c.whole; named = ap (λ (z : Entry). z.value) c.named; holds = c.holds }

pub down-reaches : DownReaches
unfolding down down_next heads lead
down-reaches store k root below [] s = record { before = []; here = root; after = []; whole = s.1; named = refl; holds = ((tt, tt), refl) }
down-reaches store k root below (ns ∷ more) s =
    let u = down-reaches store k root ns more s.2 in
    let t : Stored store (u.here ∷ u.after) = stored_last store u.before u.here u.after (subst (Stored store) u.whole (stored-level store root ns more s.2)) in
    let c = at-child k below ns u.before u.here u.after u.here.items refl t.0.1 (some-pages store u.after t.1) s.1 u.whole u.holds.0 in
    let i : u.here.items ≡ store (down pick store k (length more) root.name) = t.0.0 ∙ ap store u.named in
    record {
      before = c.before;
      here = c.here;
      after = c.after;
      whole = c.whole;
      holds = (c.holds.0, c.holds.1 ∙ ap (λ z. either (next_in k z) (lead (heads u.after))) i ∙ ap (either (next_in k (store (down pick store k (length more) root.name)))) u.holds.1 ∙ sym (down-next store k (length more) root.name []));
      named = c.named ∙ ap (child pick k) (t.0.0 ∙ ap store u.named) ∙ sym (down-last pick store k (length more) root.name);
    }

pub down-under : DownUnder
unfolding down heads lead
down-under store k root below [] s f = record { before = []; here = root; after = []; whole = s.1; named = refl; holds = (f, tt) }
down-under store k root below (ns ∷ more) s f =
    let u = down-under store k root ns more s.2 f in
    let t : Stored store (u.here ∷ u.after) = stored_last store u.before u.here u.after (subst (Stored store) u.whole (stored-level store root ns more s.2)) in
    let c = under-child k below ns u.before u.here u.after u.here.items refl t.0.1 (some-pages store u.after t.1) s.1 u.whole u.holds in
    record {
      before = c.before;
      here = c.here;
      after = c.after;
      whole = c.whole;
      holds = c.holds;
      named = c.named ∙ ap (child pick_under k) (t.0.0 ∙ ap store u.named) ∙ sym (down-last pick_under store k (length more) root.name);
    }

-- a list of pages is cut by a test in one way only
abbrev Starts : (Node → Bool) → List Node → Type 0
Starts t [] = Unit {0}
Starts t (n ∷ ns) = t n ≡ false

cut-unique : (t : Node → Bool) (a b c d : List Node) → All (λ (n : Node). t n ≡ true) a → Starts t b → All (λ (n : Node). t n ≡ true) c → Starts t d → a ++ b ≡ c ++ d → (a ≡ c) × (b ≡ d)
cut-unique t [] b [] d h s k r e = (refl, e)
cut-unique t [] [] (y ∷ c) d h s k r e = absurd (nil≢cons e)
cut-unique t [] (x ∷ b) (y ∷ c) d h s k r e = never (t y) k.0 (subst (λ z. t z ≡ false) (head-eq_of_cons-eq e) s)
cut-unique t (x ∷ a) b [] [] h s k r e = absurd (cons≢nil e)
cut-unique t (x ∷ a) b [] (y ∷ d) h s k r e = never (t x) h.0 (subst (λ z. t z ≡ false) (sym (head-eq_of_cons-eq e)) r)
cut-unique t (x ∷ a) b (y ∷ c) d h s k r e = let u = cut-unique t a b c d h.1 s k.1 r (tail-eq_of_cons-eq e) in (λ i. head-eq_of_cons-eq e i ∷ u.0 i, u.1)

last_of : Node → List Node → Node
last_of d [] = d
last_of d (x ∷ xs) = last_of x xs

last-push : (d : Node) (a : List Node) (x : Node) → last_of d (a ++ (x ∷ [])) ≡ x
unfolding last_of
last-push d [] x = refl
last-push d (y ∷ a) x = last-push y a x

same-last : (a : List Node) (x : Node) (b : List Node) (y : Node) → a ++ (x ∷ []) ≡ b ++ (y ∷ []) → x ≡ y
same-last a x b y e = sym (last-push x a x) ∙ ap (last_of x) e ∙ last-push x b y

-- first keys of pages that rise
above-mid : (k : List ℕ) (pre : List Node) (n : Node) (post : List Node) → Above k (heads (pre ++ (n ∷ post))) → less_bytes k (first_key n.items) ≡ true
unfolding heads
above-mid k [] n post h = h.0
above-mid k (m ∷ pre) n post h = above-mid k pre n post h.1

pub before-first : (pre : List Node) (n : Node) (post : List Node) → Rising (heads (pre ++ (n ∷ post))) → All (λ (m : Node). less_bytes (first_key m.items) (first_key n.items) ≡ true) pre
unfolding heads
before-first [] n post r = tt
before-first (m ∷ pre) n post r = (above-mid (first_key m.items) pre n post r.0, before-first pre n post r.1)

pub after_first : (pre : List Node) (n : Node) (post : List Node) → Rising (heads (pre ++ (n ∷ post))) → Over (first_key n.items) (lead (heads post))
unfolding heads lead
after_first [] n [] r = tt
after_first [] n (q ∷ post) r = r.0.0
after_first (m ∷ pre) n post r = after_first pre n post r.1

lead-root : (store : List ℕ → Page) (root : Node) (below : List Node) (more : List (List Node)) → InStore store root below more → lead (heads below) ≡ first_key root.items ∷ []
unfolding heads lead
lead-root store root below [] s = ap (λ z. lead (heads z)) s.1
lead-root store root below (ns ∷ more) s = ap lead (sym s.1) ∙ lead-heads ns (some-pages store ns (stored-level store root ns more s.2)) ∙ lead-root store root ns more s.2

rising-level : (store : List ℕ → Page) (root : Node) (below : List Node) (more : List (List Node)) → InStore store root below more → Rising (entries below) → Rising (heads below)
rising-level store root below more s r = heads-rising below (some-pages store below (stored-level store root below more s)) r

-- the page itself
exact-test : (f : List ℕ) (m n : Node) → less_bytes (first_key m.items) (first_key n.items) ≡ true → less_bytes f (first_key n.items) ≡ false → not (less_bytes f (first_key m.items)) ≡ true
exact-test f m n h k = not_from_false (less_bytes f (first_key m.items)) (less-asym (first_key m.items) f (less-from (first_key m.items) (first_key n.items) f h k))

exact-front : (f : List ℕ) (a : List Node) (n : Node) → All (λ (m : Node). less_bytes (first_key m.items) (first_key n.items) ≡ true) a → less_bytes f (first_key n.items) ≡ false → All (λ (m : Node). not (less_bytes f (first_key m.items)) ≡ true) (a ++ (n ∷ []))
exact-front f [] n h k = (not_from_false (less_bytes f (first_key n.items)) k, tt)
exact-front f (m ∷ a) n h k = (exact-test f m n h.0 k, exact-front f a n h.1 k)

exact-after : (f : List ℕ) (b : List Node) → Over f (lead (heads b)) → Starts (λ (m : Node). not (less_bytes f (first_key m.items))) b
unfolding heads lead
exact-after f [] h = tt
exact-after f (q ∷ b) h = not_from_true (less_bytes f (first_key q.items)) h

-- the page where a first key of the level belongs begins not above it
exact-here : (f : List ℕ) (a : List Node) (m : Node) (b pre : List Node) (n : Node) (post : List Node) → f ≡ first_key n.items → All (λ (x : Node). less_bytes (first_key x.items) (first_key n.items) ≡ true) pre →
    a ++ (m ∷ b) ≡ pre ++ (n ∷ post) → Reached a (first_key m.items) f → less_bytes f (first_key m.items) ≡ false
exact-here f (x ∷ a) m b pre n post g h e r = r
exact-here f [] m b [] n post g h e r = let z : m ≡ n = head-eq_of_cons-eq e in subst (λ y. less_bytes f y ≡ false) (g ∙ ap (λ (y : Node). first_key y.items) (sym z)) (less-same f)
exact-here f [] m b (x ∷ pre) n post g h e r =
    let z : m ≡ x = head-eq_of_cons-eq e in
    less-asym (first_key m.items) f (subst (λ y. less_bytes (first_key y.items) f ≡ true) (sym z) (subst (λ y. less_bytes (first_key x.items) y ≡ true) (sym g) h.0))

pub down-exact : DownExact
down-exact store root below more pre n post s r w =
    let f : List ℕ = first_key n.items in
    let u = down-reaches store f root below more s in
    let hr = rising-level store root below more s r in
    let e : u.before ++ (u.here ∷ u.after) ≡ pre ++ (n ∷ post) = sym u.whole ∙ w in
    let bn = before-first pre n post (subst (λ z. Rising (heads z)) w hr) in
    let bu = before-first u.before u.here u.after (subst (λ z. Rising (heads z)) u.whole hr) in
    let c = cut-unique (λ (m : Node). not (less_bytes f (first_key m.items))) (u.before ++ (u.here ∷ [])) u.after (pre ++ (n ∷ [])) post
    (exact-front f u.before u.here bu (exact-here f u.before u.here u.after pre n post refl bn e u.holds.0.0))
    (exact-after f u.after u.holds.0.1)
    (exact-front f pre n bn (less-same f))
    (exact-after f post (after_first pre n post (subst (λ z. Rising (heads z)) w hr)))
    (append_assoc u.before (u.here ∷ []) u.after ∙ e ∙ sym (append_assoc pre (n ∷ []) post)) in
    sym u.named ∙ ap (λ (z : Node). z.name) (same-last u.before u.here pre n c.0)

-- the page before
under-front : (f : List ℕ) (a : List Node) (n : Node) → All (λ (m : Node). less_bytes (first_key m.items) (first_key n.items) ≡ true) a → less_bytes (first_key n.items) f ≡ true → All (λ (m : Node). less_bytes (first_key m.items) f ≡ true) (a ++ (n ∷ []))
under-front f [] n h k = (k, tt)
under-front f (m ∷ a) n h k = (less-trans (first_key m.items) (first_key n.items) f h.0 k, under-front f a n h.1 k)

under-after : (f : List ℕ) (b : List Node) → NotUnder f (lead (heads b)) → Starts (λ (m : Node). less_bytes (first_key m.items) f) b
unfolding heads lead
under-after f [] h = tt
under-after f (q ∷ b) h = h

lead-first : (k f : List ℕ) (a : List Node) (n : Node) (b : List Node) → All (λ (m : Node). less_bytes (first_key m.items) f ≡ true) (a ++ (n ∷ [])) → lead (heads (a ++ (n ∷ b))) ≡ k ∷ [] → less_bytes k f ≡ true
unfolding heads lead
lead-first k f [] n b h e = subst (λ z. less_bytes z f ≡ true) (head-eq_of_cons-eq e) h.0
lead-first k f (m ∷ a) n b h e = subst (λ z. less_bytes z f ≡ true) (head-eq_of_cons-eq e) h.0

pub down-before : DownBefore
down-before store root below more pre l n post s r w =
    let f : List ℕ = first_key n.items in
    let hr = rising-level store root below more s r in
    let w₁ : below ≡ (pre ++ (l ∷ [])) ++ (n ∷ post) = w ∙ sym (append_assoc pre (l ∷ []) (n ∷ post)) in
    let bn = before-first (pre ++ (l ∷ [])) n post (subst (λ z. Rising (heads z)) w₁ hr) in
    let low = lead-first (first_key root.items) f pre l (n ∷ post) bn (ap (λ z. lead (heads z)) (sym w) ∙ lead-root store root below more s) in
    let u = down-under store f root below more s low in
    let bu = before-first u.before u.here u.after (subst (λ z. Rising (heads z)) u.whole hr) in
    let c = cut-unique (λ (m : Node). less_bytes (first_key m.items) f) (u.before ++ (u.here ∷ [])) u.after (pre ++ (l ∷ [])) (n ∷ post)
    (under-front f u.before u.here bu u.holds.0) (under-after f u.after u.holds.1) bn (less-same f)
    (append_assoc u.before (u.here ∷ []) u.after ∙ sym u.whole ∙ w₁) in
    sym u.named ∙ ap (λ (z : Node). z.name) (same-last u.before u.here pre l c.0)

-- look-ups
or_nothing : (r : Reply) → or_else r Nothing ≡ r
unfolding or_else
or_nothing Nothing = refl
or_nothing (Found x) = refl

first-page : (p : Page) (ys : List Entry) → 0 < length p → first_of (p ++ ys) ≡ first_of p
unfolding first_of
first-page [] ys h = absurd (omega arith)
first-page (x ∷ p) ys h = refl

next-page : (store : List ℕ → Page) (root : Node) (below : List Node) (more : List (List Node)) (pre : List Node) (n : Node) (post : List Node) → InStore store root below more → Rising (entries below) → below ≡ pre ++ (n ∷ post) →
    first_at store (length more) root.name (lead (heads post)) ≡ first_of (entries post)
unfolding heads lead first_at pages concat
next-page store root below more pre n [] s r w = unfold first_of in refl
next-page store root below more pre n (q ∷ post) s r w =
    let w₁ : below ≡ (pre ++ (n ∷ [])) ++ (q ∷ post) = w ∙ sym (append_assoc pre (n ∷ []) (q ∷ post)) in
    let t : Stored store (q ∷ post) = stored_last store (pre ++ (n ∷ [])) q post (subst (Stored store) w₁ (stored-level store root below more s)) in
    ap (λ z. first_of (store z)) (down-exact store root below more (pre ++ (n ∷ [])) q post s r w₁) ∙ ap first_of (sym t.0.0) ∙ sym (first-page q.items (entries post) t.0.1)

pub seek-from : SeekFrom
seek-from store k root below more s r =
    let u = down-reaches store k root below more s in
    let sp : Stored store (u.before ++ (u.here ∷ u.after)) = subst (Stored store) u.whole (stored-level store root below more s) in
    let t : Stored store (u.here ∷ u.after) = stored_last store u.before u.here u.after sp in
    let i : store (down pick store k (length more) root.name) ≡ u.here.items = ap store (sym u.named) ∙ sym t.0.0 in
    ap (λ z. or_else (first_from k z) (first_at store (length more) root.name (down_next store k (length more) root.name []))) i
    ∙ ap (λ z. or_else (first_from k u.here.items) (first_at store (length more) root.name z)) (sym u.holds.1)
    ∙ ap (or_else (first_from k u.here.items)) (next-page store root below more u.before u.here u.after s r u.whole)
    ∙ sym (first_found k u.before u.here u.after (some-pages store (u.before ++ (u.here ∷ u.after)) sp) (subst (λ z. Rising (entries z)) u.whole r) u.holds.0)
    ∙ ap (λ z. first_from k (entries z)) (sym u.whole)

root-stored : (store : List ℕ → Page) (root : Node) (below : List Node) (more : List (List Node)) → InStore store root below more → root.items ≡ store root.name
root-stored store root below [] s = (subst (Stored store) s.1 s.0).0.0
root-stored store root below (ns ∷ more) s = root-stored store root ns more s.2

pub seek-before : SeekBefore
seek-before store k root below more s r = go (less_bytes (first_key root.items) k) refl
  where
    i : store root.name ≡ root.items
    i = sym (root-stored store root below more s)

    go : (t : Bool) → less_bytes (first_key root.items) k ≡ t → seek_before store k (length more) root.name ≡ last_before k (entries below) Nothing
    go true e =
        let u = down-under store k root below more s e in
        let sp : Stored store (u.before ++ (u.here ∷ u.after)) = subst (Stored store) u.whole (stored-level store root below more s) in
        let t : Stored store (u.here ∷ u.after) = stored_last store u.before u.here u.after sp in
        cond-true (less_bytes (first_key (store root.name)) k) (last_before k (store (down pick_under store k (length more) root.name)) Nothing) Nothing (ap (λ z. less_bytes (first_key z) k) i ∙ e)
        ∙ ap (λ z. last_before k z Nothing) (ap store (sym u.named) ∙ sym t.0.0)
        ∙ sym (last_found k u.before u.here u.after (some-pages store (u.before ++ (u.here ∷ u.after)) sp) (subst (λ z. Rising (entries z)) u.whole r) u.holds)
        ∙ ap (λ z. last_before k (entries z) Nothing) (sym u.whole)
    go false e =
        cond-false (less_bytes (first_key (store root.name)) k) (last_before k (store (down pick_under store k (length more) root.name)) Nothing) Nothing (ap (λ z. less_bytes (first_key z) k) i ∙ e)
        ∙ sym (none_found k (entries below) (subst (NotUnder k) (sym (lead-heads below (some-pages store below (stored-level store root below more s)) ∙ lead-root store root below more s)) e))

leaf-before : (k : List ℕ) (p : Page) → cond (less_bytes (first_key p) k) (last_before k p Nothing) Nothing ≡ last_before k p Nothing
unfolding first_key last_before
leaf-before k [] = cond_both (less_bytes [] k) Nothing Nothing (λ z. z ≡ Nothing) (λ _. refl) (λ _. refl)
leaf-before k (x ∷ p) = go (less_bytes x.key k)
  where
    go : (t : Bool) → cond t (cond t (last_before k p (Found x)) Nothing) Nothing ≡ cond t (last_before k p (Found x)) Nothing
    go true = refl
    go false = refl

pub seek-leaf : SeekLeaf
unfolding down down_next first_at
seek-leaf store k p r = (or_nothing (first_from k (store p)), leaf-before k (store p))

pub names_apart : NamesApart
names_apart store a m b n c s r e =
    let w : a ++ (m ∷ (b ++ (n ∷ c))) ≡ (a ++ (m ∷ b)) ++ (n ∷ c) = sym (append_assoc a (m ∷ b) (n ∷ c)) in
    let hr : Rising (heads (a ++ (m ∷ (b ++ (n ∷ c))))) = heads-rising (a ++ (m ∷ (b ++ (n ∷ c)))) (some-pages store (a ++ (m ∷ (b ++ (n ∷ c)))) s) r in
    let bn = before-first (a ++ (m ∷ b)) n c (subst (λ z. Rising (heads z)) w hr) in
    let less : less_bytes (first_key m.items) (first_key n.items) ≡ true = (all_right (λ (x : Node). less_bytes (first_key x.items) (first_key n.items) ≡ true) a (m ∷ b) bn).0 in
    let sm = stored_last store a m (b ++ (n ∷ c)) s in
    let sn = stored_last store (a ++ (m ∷ b)) n c (subst (Stored store) w s) in
    let same : m.items ≡ n.items = sm.0.0 ∙ ap store e ∙ sym sn.0.0 in
    never (less_bytes (first_key n.items) (first_key n.items)) (subst (λ z. less_bytes (first_key z) (first_key n.items) ≡ true) same less) (less-same (first_key n.items))
