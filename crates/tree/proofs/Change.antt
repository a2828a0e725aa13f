-- A change of a tree, level by level.
use Rattle.std.proofs.Common.{◌≡◌, ℕ, ◌+◌, ◌-◌, ◌*◌, ◌<◌, ◌≤◌, false, cond, ◌||◌, List, [], ◌∷◌, ◌++◌, length, sym, refl, ap, ◌∙◌, subst, ⊎_elim, append-nil, mul-le-mul_right, mul-le-mul_left, arith, length-append}
use mathlib.Core.List.{head-eq_of_cons-eq}
use Rattle.std.specs.List.{AllByRecursion as All}
use Rattle.std.proofs.lemmas.Bool.{cond_both, cases_lt}
use Rattle.std.proofs.ByRecursion.{All-append, All-weaker}
use Rattle.meaning.specs.Value.{less_bytes}
use Rattle.tree.specs.Entries.{Entry, enter, take_out, Under, Above, Rising, Edit, put, del, Puts, spot, apply, applies}
use Rattle.tree.specs.Pages.{Page, weigh, concat, Fits, Apart, ApartFrom, joins, join, Beside, none, one, pieces, spread}
use Rattle.tree.specs.Tree.{heads, pages, entries, top, dels, puts, raised}
use Rattle.tree.specs.Change.{stays, ends, rises, puts_weigh}
use Rattle.tree.specs.Laws.{Edited, ClimbLinks, TopLinks, LeafChange, NewPages, Seventeen, LeafSix, WholeFew, FirstChange, EntersTakes, RunBelongs, Space1226, RaisedPuts, Splice}
use Rattle.tree.proofs.Joins.{weigh-append, concat-append, join-concat, join_apart, joins-apart, joins-begins, join-ends, apart-front, apart-back, apart-tail}
use Rattle.tree.proofs.Bound.{all_left, all_right, leaf-bound, five, weigh-most, space-bound}
use Rattle.tree.proofs.Spread.{level-any, level-edit, drop-run}
use Rattle.tree.proofs.Edits.{under-under}
use Rattle.octets.proofs.Order.{from_less}
use Rattle.tree.proofs.Look.{belongs-parts}
use Rattle.tree.proofs.Rise.{heads-rise, applies-append, dels-run, puts-run}

pub leaf-change : LeafChange
leaf-change w cap es old new f a r d =
    let t = drop-run (Fits w cap) d.before d.left (d.page ∷ d.run) (d.right ++ d.after) (subst (All (Fits w cap)) d.was f) in
    let e = level-any w cap es d.before d.left d.page d.run d.right d.after d.news d.leftmost d.rightmost t.1 (subst (Apart w cap) d.was a) (subst (λ z. Rising (concat z)) d.was r) d.holds d.fits d.low d.high in
    record {
      same = ap concat d.now ∙ e.same ∙ ap (λ z. applies es (concat z)) (sym d.was);
      fit = subst (All (Fits w cap)) (sym d.now) e.fit;
      apart = subst (Apart w cap) (sym d.now) e.apart;
      rising = subst (λ z. Rising (concat z)) (sym d.now) e.rising;
    }

-- what a raised edit puts is a head
dels-put : (P : Entry → Type 0) (xs : List Entry) → All (Puts P) (dels xs)
unfolding dels
dels-put P [] = tt
dels-put P (x ∷ xs) = (tt, dels-put P xs)

puts-put : (P : Entry → Type 0) (xs : List Entry) → All P xs → All (Puts P) (puts xs)
unfolding puts
puts-put P [] h = tt
puts-put P (x ∷ xs) h = (h.0, puts-put P xs h.1)

some_fit : (w : Entry → ℕ) (cap : ℕ) (ps : List Page) → All (Fits w cap) ps → All (λ (p : Page). 0 < length p) ps
some_fit w cap ps h = All-weaker (Fits w cap) (λ (p : Page). 0 < length p) (λ p f. f.1) ps h

pub raised-puts : RaisedPuts
raised-puts w cap m old new l h =
    All-append (Puts (λ (x : Entry). w x ≤ cap)) (dels (heads old)) (puts (heads new)) (dels-put (λ (x : Entry). w x ≤ cap) (heads old))
    (puts-put (λ (x : Entry). w x ≤ cap) (heads new) (All-weaker (λ (x : Entry). w x ≤ m) (λ (x : Entry). w x ≤ cap) (λ x k. omega arith) (heads new) h))

pub splice : Splice
splice old new a b r s =
    applies-append (dels (heads old)) (puts (heads new)) (a ++ (heads old ++ b)) ∙ ap (applies (puts (heads new))) (dels-run a (heads old) b r) ∙ puts-run a (heads new) b s

pub climb-links : ClimbLinks
climb-links w cap m b c more news f g r s (stays d mores) k = k
climb-links w cap m b c more news f g r s (ends d e) k = tt
climb-links w cap m b c more news f g r s (rises pre old new post us vs more' news' h d t) k =
    let e = leaf-change w cap (raised old new) (pages us) (pages vs) k.0.fit k.0.apart k.0.rising d in
    let same : entries vs ≡ heads (pre ++ (new ++ post)) = e.same ∙ ap (applies (raised old new)) k.2 ∙ heads-rise pre old new post f g r s in (
      record { fit = e.fit; apart = e.apart; rising = e.rising },
      subst (All (λ (x : Entry). w x ≤ m)) (sym same) h,
      same,
      climb-links w cap m us vs more' news' (some_fit w cap (pages us) k.0.fit) (some_fit w cap (pages vs) e.fit) k.0.rising e.rising t k.3,
    )

pub top-links : TopLinks
unfolding top
top-links w cap m b ns [] k v s e = ((v, s, e, tt), refl)
top-links w cap m b ns (us ∷ more) k v s e = let r = top-links w cap m us ns more k.3 v s e in ((k.0, k.1, k.2, r.0), r.1)

-- how much edits put
enter-weigh : (w : Entry → ℕ) (e : Entry) (xs : Page) → weigh w (enter e xs) ≤ weigh w xs + w e
unfolding enter weigh
enter-weigh w e [] = omega arith
enter-weigh w e (x ∷ xs) =
    let h = enter-weigh w e xs in
    cond_both (less_bytes e.key x.key) (e ∷ x ∷ xs) (cond (less_bytes x.key e.key) (x ∷ enter e xs) (e ∷ xs)) (λ z. weigh w z ≤ w x + weigh w xs + w e) (λ _. omega arith)
    (λ _. cond_both (less_bytes x.key e.key) (x ∷ enter e xs) (e ∷ xs) (λ z. weigh w z ≤ w x + weigh w xs + w e) (λ _. omega arith) (λ _. omega arith))

take-weigh : (w : Entry → ℕ) (k : List ℕ) (xs : Page) → weigh w (take_out k xs) ≤ weigh w xs
unfolding take_out weigh
take-weigh w k [] = omega arith
take-weigh w k (x ∷ xs) =
    let h = take-weigh w k xs in
    cond_both (less_bytes k x.key || less_bytes x.key k) (x ∷ take_out k xs) xs (λ z. weigh w z ≤ w x + weigh w xs) (λ _. omega arith) (λ _. omega arith)

applies-weigh : (w : Entry → ℕ) (es : List Edit) (xs : Page) → weigh w (applies es xs) ≤ weigh w xs + puts_weigh w es
unfolding applies apply puts_weigh
applies-weigh w [] xs = omega arith
applies-weigh w (put e ∷ es) xs = omega (arith, applies-weigh w es (enter e xs), enter-weigh w e xs)
applies-weigh w (del k ∷ es) xs = omega (arith, applies-weigh w es (take_out k xs), take-weigh w k xs)

weigh-pages : (w : Entry → ℕ) (cap : ℕ) (ps : List Page) → All (Fits w cap) ps → weigh w (concat ps) ≤ cap * length ps
unfolding concat weigh
weigh-pages w cap [] h = omega arith
weigh-pages w cap (p ∷ ps) h = omega (arith, weigh-pages w cap ps h.1, h.0.0, weigh-append w p (concat ps))

one-page : (w : Entry → ℕ) (q : Page) → weigh w (concat (q ∷ [])) ≡ weigh w q
unfolding concat
one-page w q = ap (weigh w) (append-nil q)

none_first : (w : Entry → ℕ) (m : List Page) (r : Page) (n : ℕ) → n ≡ weigh w (concat []) + (weigh w (concat m) + weigh w (concat (r ∷ []))) → n ≡ weigh w (concat m) + weigh w r
none_first w m r n e = let z : weigh w (concat []) ≡ 0 = unfold weigh concat in refl in omega (arith, e, one-page w r)

none_last : (w : Entry → ℕ) (l : Page) (m : List Page) (n : ℕ) → n ≡ weigh w (concat (l ∷ [])) + (weigh w (concat m) + weigh w (concat [])) → n ≡ weigh w l + weigh w (concat m)
none_last w l m n e = let z : weigh w (concat []) ≡ 0 = unfold weigh concat in refl in omega (arith, e, one-page w l)

none_both : (w : Entry → ℕ) (m : List Page) (n : ℕ) → n ≡ weigh w (concat []) + (weigh w (concat m) + weigh w (concat [])) → n ≡ weigh w (concat m)
none_both w m n e = let z : weigh w (concat []) ≡ 0 = unfold weigh concat in refl in omega (arith, e)

-- the joined pages between the first, which begins with l, and the last, which ends with r
-- off a list that is apart, its first page; off another its last
first_off : (w : Entry → ℕ) (cap : ℕ) (p : Page) (ls : List Page) → Apart w cap (p ∷ ls) → (length ls - 1) * (cap + 1) + 2 * weigh w p ≤ 2 * weigh w (concat (p ∷ ls))
unfolding concat
first_off w cap p ls a = omega (arith, leaf-bound w cap ls (apart-tail w cap p ls a), weigh-append w p (concat ls))

last_off : (w : Entry → ℕ) (cap : ℕ) (ls : List Page) (q : Page) → Apart w cap (ls ++ (q ∷ [])) → (length ls - 1) * (cap + 1) + 2 * weigh w q ≤ 2 * weigh w (concat (ls ++ (q ∷ [])))
last_off w cap ls q a =
    let e : weigh w (concat (ls ++ (q ∷ []))) ≡ weigh w (concat ls) + weigh w q = ap (weigh w) (concat-append ls (q ∷ [])) ∙ weigh-append w (concat ls) (concat (q ∷ [])) ∙ ap (λ z. weigh w (concat ls) + z) (one-page w q) in
    omega (arith, leaf-bound w cap ls (apart-front w cap ls (q ∷ []) a), e)

between : (w : Entry → ℕ) (cap : ℕ) (p : Page) (ls : List Page) (q : Page) → Apart w cap (p ∷ (ls ++ (q ∷ []))) → (length ls - 1) * (cap + 1) + 2 * (weigh w p + weigh w q) ≤ 2 * weigh w (concat (p ∷ (ls ++ (q ∷ []))))
unfolding concat
between w cap p ls q a = omega (arith, last_off w cap ls q (apart-tail w cap p (ls ++ (q ∷ [])) a), weigh-append w p (concat (ls ++ (q ∷ []))))

times-less : (a b c x : ℕ) → a ≤ b → b * c ≤ x → a * c ≤ x
times-less a b c x h k = let z : a * c ≤ b * c = mul-le-mul_right c h in omega arith

-- with both neighbours
both-sides : (w : Entry → ℕ) (cap : ℕ) (l r : Page) (js front : List Page) (x y : Page) (rest : List Page) (mids : ℕ) → Apart w cap js → js ≡ (l ++ x) ∷ rest → js ≡ front ++ ((y ++ r) ∷ []) →
    weigh w (concat js) ≡ weigh w l + (mids + weigh w r) → (length js - 3) * (cap + 1) ≤ 2 * mids
both-sides w cap l r js [] x y rest mids a e f g = let z : length js ≡ 1 = ap length f in times-less (length js - 3) 0 (cap + 1) (2 * mids) (omega arith) (omega arith)
both-sides w cap l r js (p ∷ front) x y rest mids a e f g =
    let z : length js ≡ length (p ∷ (front ++ ((y ++ r) ∷ []))) = ap length f in
    let n : length (front ++ ((y ++ r) ∷ [])) ≡ length front + 1 = length-append front ((y ++ r) ∷ []) in
    let i : p ≡ l ++ x = head-eq_of_cons-eq (sym f ∙ e) in
    let b = between w cap p front (y ++ r) (subst (Apart w cap) f a) in
    let t : weigh w (concat js) ≡ weigh w (concat (p ∷ (front ++ ((y ++ r) ∷ [])))) = ap (λ ls. weigh w (concat ls)) f in
    let o : weigh w p ≡ weigh w l + weigh w x = ap (weigh w) i ∙ weigh-append w l x in
    times-less (length js - 3) (length front - 1) (cap + 1) (2 * mids) (omega arith) (omega (arith, weigh-append w y r))

left-side : (w : Entry → ℕ) (cap : ℕ) (l : Page) (js : List Page) (x : Page) (rest : List Page) (mids : ℕ) → Apart w cap js → js ≡ (l ++ x) ∷ rest → weigh w (concat js) ≡ weigh w l + mids → (length js - 3) * (cap + 1) ≤ 2 * mids
left-side w cap l js x rest mids a e g =
    let z : length js ≡ length ((l ++ x) ∷ rest) = ap length e in
    let b = first_off w cap (l ++ x) rest (subst (Apart w cap) e a) in
    let t : weigh w (concat js) ≡ weigh w (concat ((l ++ x) ∷ rest)) = ap (λ ls. weigh w (concat ls)) e in
    times-less (length js - 3) (length rest - 1) (cap + 1) (2 * mids) (omega arith) (omega (arith, weigh-append w l x))

right_side : (w : Entry → ℕ) (cap : ℕ) (r : Page) (js front : List Page) (y : Page) (mids : ℕ) → Apart w cap js → js ≡ front ++ ((y ++ r) ∷ []) → weigh w (concat js) ≡ mids + weigh w r → (length js - 3) * (cap + 1) ≤ 2 * mids
right_side w cap r js front y mids a f g =
    let z : length js ≡ length front + 1 = ap length f ∙ length-append front ((y ++ r) ∷ []) in
    let b = last_off w cap front (y ++ r) (subst (Apart w cap) f a) in
    let t : weigh w (concat js) ≡ weigh w (concat (front ++ ((y ++ r) ∷ []))) = ap (λ ls. weigh w (concat ls)) f in
    times-less (length js - 3) (length front - 1) (cap + 1) (2 * mids) (omega arith) (omega (arith, weigh-append w y r))

no-side : (w : Entry → ℕ) (cap : ℕ) (js : List Page) → Apart w cap js → (length js - 3) * (cap + 1) ≤ 2 * weigh w (concat js)
no-side w cap js a = times-less (length js - 3) (length js - 1) (cap + 1) (2 * weigh w (concat js)) (omega arith) (leaf-bound w cap js a)

weigh-three : (w : Entry → ℕ) (cap : ℕ) (l m r : List Page) → weigh w (concat (join w cap (l ++ (m ++ r)))) ≡ weigh w (concat l) + (weigh w (concat m) + weigh w (concat r))
weigh-three w cap l m r =
    ap (weigh w) (join-concat w cap (l ++ (m ++ r)) ∙ concat-append l (m ++ r) ∙ ap (λ z. concat l ++ z) (concat-append m r))
    ∙ weigh-append w (concat l) (concat m ++ concat r) ∙ ap (λ z. weigh w (concat l) + z) (weigh-append w (concat m) (concat r))

joined-few : (w : Entry → ℕ) (cap : ℕ) (m : List Page) {pre l post r : List Page} → Beside pre l → Beside post r → (length (join w cap (l ++ (m ++ r))) - 3) * (cap + 1) ≤ 2 * weigh w (concat m)
unfolding join
joined-few w cap m none none =
    let e = none_both w m (weigh w (concat (join w cap (m ++ [])))) (weigh-three w cap [] m []) in
    subst (λ z. (length (join w cap (m ++ [])) - 3) * (cap + 1) ≤ 2 * z) e (no-side w cap (join w cap (m ++ [])) (join_apart w cap (m ++ [])))
joined-few w cap m none (one post r) =
    let e = weigh-three w cap [] m (r ∷ []) in
    let f = join-ends w cap m r in
    right_side w cap r (join w cap (m ++ (r ∷ []))) f.0 f.1 (weigh w (concat m)) (join_apart w cap (m ++ (r ∷ []))) f.2 (none_first w m r (weigh w (concat (join w cap (m ++ (r ∷ []))))) e)
joined-few w cap m (one pre l) none =
    let e = weigh-three w cap (l ∷ []) m [] in
    let b = joins-begins w cap l (m ++ []) in
    left-side w cap l (joins w cap l (m ++ [])) b.0 b.1 (weigh w (concat m)) (joins-apart w cap l (m ++ [])) b.2 (none_last w l m (weigh w (concat (joins w cap l (m ++ [])))) e)
joined-few w cap m (one pre l) (one post r) =
    let e = weigh-three w cap (l ∷ []) m (r ∷ []) in
    let b = joins-begins w cap l (m ++ (r ∷ [])) in
    let f = join-ends w cap (l ∷ m) r in
    both-sides w cap l r (joins w cap l (m ++ (r ∷ []))) f.0 b.0 f.1 b.1 (weigh w (concat m)) (joins-apart w cap l (m ++ (r ∷ []))) b.2 f.2 (e ∙ ap (λ z. z + (weigh w (concat m) + weigh w (concat (r ∷ [])))) (one-page w l) ∙ ap (λ z. weigh w l + (weigh w (concat m) + z)) (one-page w r))

pub new-pages : NewPages
unfolding concat
new-pages w cap es pre l p ps r post news b c h f e =
    let z = joined-few w cap news b c in
    let g : weigh w (concat news) ≡ weigh w (applies es (p ++ concat ps)) = ap (weigh w) e in
    omega (arith, z, g, applies-weigh w es (p ++ concat ps), weigh-append w p (concat ps), weigh-pages w cap ps f)

count-few : (n c t s k : ℕ) → (n - 3) * (c + 1) ≤ 2 * (c * t + s) → t ≤ 3 → 4 * k ≤ c → s ≤ 17 * k → n ≤ 17
count-few n c t s k h i j l =
    ⊎_elim (λ (z : 17 < n). let q : 15 * (c + 1) ≤ (n - 3) * (c + 1) = mul-le-mul_right (c + 1) (omega arith) in let u : c * t ≤ c * 3 = mul-le-mul_left c i in absurd (omega arith)) (λ z. z) (cases_lt 17 n)

pub seventeen : Seventeen
seventeen w cap m k es pre l p ps r post news b c h f e t s =
    count-few (length (join w cap (l ++ (news ++ r)))) cap (length (p ∷ ps)) (puts_weigh w es) m (new-pages w cap es pre l p ps r post news b c h f e) t k s

six-few : (n c s : ℕ) → (n - 3) * (c + 1) ≤ 2 * (c * 1 + s) → s ≤ c → n ≤ 6
six-few n c s h i = ⊎_elim (λ (z : 6 < n). let q : 4 * (c + 1) ≤ (n - 3) * (c + 1) = mul-le-mul_right (c + 1) (omega arith) in absurd (omega arith)) (λ z. z) (cases_lt 6 n)

one-put : (w : Entry → ℕ) (cap : ℕ) (e : Edit) → Puts (λ (x : Entry). w x ≤ cap) e → puts_weigh w (e ∷ []) ≤ cap
unfolding puts_weigh
one-put w cap (put e) h = omega arith
one-put w cap (del k) h = omega arith

pub leaf-six : LeafSix
leaf-six w cap e pre l p r post news b c h g s =
    six-few (length (join w cap (l ++ (news ++ r)))) cap (puts_weigh w (e ∷ [])) (new-pages w cap (e ∷ []) pre l p [] r post news b c h tt g) (one-put w cap e s)

pub whole-few : WholeFew
unfolding concat
whole-few w cap m l pre [] post a s n f = omega arith
whole-few w cap m l pre (p ∷ []) post a s n f = omega arith
whole-few w cap m l pre (p ∷ q ∷ mid) post a s n f =
    let P : Entry → Type 0 = λ x. w x ≤ m in
    let s₁ : All P (q ++ concat mid) = all_right P p (q ++ concat mid) s in
    let b : ApartFrom w cap p (q ∷ (mid ++ post)) = apart-back w cap pre (p ∷ q ∷ (mid ++ post)) a in
    let z = five m cap (weigh w p) (weigh w q) (length p) (length q) l (weigh-most w m p (all_left P p (q ++ concat mid) s)) (weigh-most w m q (all_left P q (concat mid) s₁)) b.0 in
    absurd (omega (arith, z, n, length-append p (q ++ concat mid), length-append q (concat mid)))

above-above : (k f : List ℕ) (xs : List Entry) → less_bytes f k ≡ false → Above f xs → Above k xs
above-above k f [] h t = tt
above-above k f (x ∷ xs) h t = (from_less k f x.key h t.0, above-above k f xs h t.1)

nothing-under : (es : List Edit) → All (λ (e : Edit). Under (spot e) (concat [])) es
unfolding concat
nothing-under [] = tt
nothing-under (e ∷ es) = (tt, nothing-under es)

nothing_above : (es : List Edit) → All (λ (e : Edit). Above (spot e) (concat [])) es
unfolding concat
nothing_above [] = tt
nothing_above (e ∷ es) = (tt, nothing_above es)

shape : (w : Entry → ℕ) (cap : ℕ) (es : List Edit) → join w cap (spread w cap es [] [] ++ []) ++ [] ≡ join w cap (pieces w cap es [])
unfolding spread
shape w cap es = append-nil (join w cap (pieces w cap es [] ++ [])) ∙ ap (join w cap) (append-nil (pieces w cap es []))

-- the first change, and what a change of one entry is
pub first-change : FirstChange
first-change w cap es s =
    let e = level-edit w cap es [] [] [] [] [] [] none none (unfold weigh in omega arith) tt tt (unfold concat in tt) s (nothing-under es) (nothing_above es) in
    subst (λ z. Edited w cap es ([] ∷ []) z) (shape w cap es) e

pub enters-takes : EntersTakes
unfolding applies apply
enters-takes = (λ w cap e old new d. d.same, λ w cap k old new d. d.same)

pub run-belongs : RunBelongs
run-belongs = (
  λ lo es pre n post h r b a. All-weaker (λ (e : Edit). less_bytes (spot e) lo ≡ false) (λ (e : Edit). Under (spot e) (entries pre)) (λ e k. under-under (spot e) lo (entries pre) k (belongs-parts lo pre n post h r b).0) es a,
  λ hi es pre n post h r b a. All-weaker (λ (e : Edit). less_bytes hi (spot e) ≡ false) (λ (e : Edit). Above (spot e) (entries post)) (λ e k. above-above (spot e) hi (entries post) k (belongs-parts hi pre n post h r b).1) es a,
)

pub space-1226 : Space1226
space-1226 v w below more a s = let z = space-bound v w 4088 1012 below more (omega arith) a s in omega arith
