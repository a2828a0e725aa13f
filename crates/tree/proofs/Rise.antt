-- A level's change, told to the level above; new tops, and old ones that go.
use Rattle.std.proofs.Common.{◌≡◌, ℕ, ◌<◌, ◌≤◌, true, cond, leb, List, [], ◌∷◌, ◌++◌, length, sym, refl, ap, ◌∙◌, subst, append_assoc, arith}
use Rattle.std.specs.List.{AllByRecursion as All}
use Rattle.std.proofs.lemmas.Bool.{cond_both, leb-true, leb-false, or_from}
use Rattle.meaning.specs.Value.{less_bytes}
use Rattle.tree.specs.Entries.{Entry, first_key, take_out, Above, Rising, Edit, put, del, spot, apply, applies}
use Rattle.tree.specs.Pages.{Page, weigh, concat, Fits, Apart, join}
use Rattle.tree.specs.Tree.{Node, head, heads, pages, entries, Stands, dels, puts, singles, top, trim}
use Rattle.tree.specs.Laws.{HeadsRise, NewLevel, TrimStands}
use Rattle.octets.proofs.Order.{less-same}
use Rattle.tree.proofs.Joins.{join-concat, join-fit, join_apart}
use Rattle.tree.proofs.Bound.{all_right, inner_bound, heads-length, pages-length}
use Rattle.tree.proofs.Edits.{apply-under, enter-first}
use Rattle.tree.proofs.Spread.{rising-right, rising-under}

pub heads-append : (a b : List Node) → heads (a ++ b) ≡ heads a ++ heads b
unfolding heads
heads-append [] b = refl
heads-append (n ∷ a) b = ap (λ z. head n ∷ z) (heads-append a b)

pub pages-append : (a b : List Node) → pages (a ++ b) ≡ pages a ++ pages b
unfolding pages
pages-append [] b = refl
pages-append (n ∷ a) b = ap (λ z. n.items ∷ z) (pages-append a b)

-- heads rise as the entries do
above-heads : (k : List ℕ) (ns : List Node) → All (λ (p : Page). 0 < length p) (pages ns) → Above k (entries ns) → Above k (heads ns)
unfolding heads pages concat
above-heads k [] h a = tt
above-heads k (n ∷ ns) h a = (first n.items h.0 a, above-heads k ns h.1 (all_right (λ (x : Entry). less_bytes k x.key ≡ true) n.items (entries ns) a))
  where
    first : (p : Page) → 0 < length p → Above k (p ++ entries ns) → less_bytes k (first_key p) ≡ true
    first [] l b = absurd (omega arith)
    first (x ∷ p) l b = unfold first_key in b.0

first_above : (p : Page) (ys : List Entry) → 0 < length p → Rising (p ++ ys) → Above (first_key p) ys
unfolding first_key
first_above [] ys l r = absurd (omega arith)
first_above (x ∷ p) ys l r = all_right (λ (y : Entry). less_bytes x.key y.key ≡ true) p ys r.0

pub heads-rising : (ns : List Node) → All (λ (p : Page). 0 < length p) (pages ns) → Rising (entries ns) → Rising (heads ns)
unfolding heads pages concat
heads-rising [] h r = tt
heads-rising (n ∷ ns) h r = (above-heads (first_key n.items) ns h.1 (first_above n.items (entries ns) h.0 r), heads-rising ns h.1 (rising-right n.items (entries ns) r))

-- a run taken out, a run put in
pub applies-append : (es fs : List Edit) (xs : List Entry) → applies (es ++ fs) xs ≡ applies fs (applies es xs)
unfolding applies
applies-append [] fs xs = refl
applies-append (e ∷ es) fs xs = applies-append es fs (apply e xs)

rising-less : (a : List Entry) (x : Entry) (ys : List Entry) → Rising (a ++ (x ∷ ys)) → Rising (a ++ ys)
rising-less [] x ys r = r.1
rising-less (y ∷ a) x ys r = (skip a r.0, rising-less a x ys r.1)
  where
    skip : (a : List Entry) → Above y.key (a ++ (x ∷ ys)) → Above y.key (a ++ ys)
    skip [] h = h.1
    skip (z ∷ a) h = (h.0, skip a h.1)

take-here : (x : Entry) (ys : List Entry) → take_out x.key (x ∷ ys) ≡ ys
unfolding take_out
take-here x ys = ap (λ t. cond t (x ∷ take_out x.key ys) ys) (or_from (less_bytes x.key x.key) (less_bytes x.key x.key) (less-same x.key) (less-same x.key))

del-here : (a : List Entry) (x : Entry) (ys : List Entry) → Rising (a ++ (x ∷ ys)) → apply (del x.key) (a ++ (x ∷ ys)) ≡ a ++ ys
unfolding apply spot
del-here a x ys r = apply-under (del x.key) a (x ∷ ys) (rising-under a x ys r) ∙ ap (λ z. a ++ z) (take-here x ys)

pub dels-run : (a o b : List Entry) → Rising (a ++ (o ++ b)) → applies (dels o) (a ++ (o ++ b)) ≡ a ++ b
unfolding applies dels
dels-run a [] b r = refl
dels-run a (x ∷ o) b r = ap (applies (dels o)) (del-here a x (o ++ b) r) ∙ dels-run a o b (rising-less a x (o ++ b) r)

put-here : (a : List Entry) (x : Entry) (n b : List Entry) → Rising (a ++ (x ∷ (n ++ b))) → apply (put x) (a ++ b) ≡ (a ++ (x ∷ [])) ++ b
unfolding apply spot
put-here a x n b r =
    apply-under (put x) a b (rising-under a x (n ++ b) r)
    ∙ ap (λ z. a ++ z) (enter-first x b (all_right (λ (y : Entry). less_bytes x.key y.key ≡ true) n b (rising-right a (x ∷ (n ++ b)) r).0)) ∙ sym (append_assoc a (x ∷ []) b)

pub puts-run : (a n b : List Entry) → Rising (a ++ (n ++ b)) → applies (puts n) (a ++ b) ≡ a ++ (n ++ b)
unfolding applies puts
puts-run a [] b r = refl
puts-run a (x ∷ n) b r =
    ap (applies (puts n)) (put-here a x n b r) ∙ puts-run (a ++ (x ∷ [])) n b (subst Rising (sym (append_assoc a (x ∷ []) (n ++ b))) r) ∙ append_assoc a (x ∷ []) (n ++ b)

pub heads-rise : HeadsRise
heads-rise pre old new post h k r s =
    applies-append (dels (heads old)) (puts (heads new)) (heads (pre ++ (old ++ post)))
    ∙ ap (λ z. applies (puts (heads new)) (applies (dels (heads old)) z)) (parted old)
    ∙ ap (applies (puts (heads new))) (dels-run (heads pre) (heads old) (heads post) (subst Rising (parted old) (heads-rising (pre ++ (old ++ post)) h r)))
    ∙ puts-run (heads pre) (heads new) (heads post) (subst Rising (parted new) (heads-rising (pre ++ (new ++ post)) k s))
    ∙ sym (parted new)
  where
    parted : (m : List Node) → heads (pre ++ (m ++ post)) ≡ heads pre ++ (heads m ++ heads post)
    parted m = heads-append pre (m ++ post) ∙ ap (λ z. heads pre ++ z) (heads-append m post)

-- a new level
singles-concat : (xs : List Entry) → concat (singles xs) ≡ xs
unfolding concat singles
singles-concat [] = refl
singles-concat (x ∷ xs) = ap (λ z. x ∷ z) (singles-concat xs)

singles-fit : (w : Entry → ℕ) (cap m : ℕ) (xs : List Entry) → m ≤ cap → All (λ (x : Entry). w x ≤ m) xs → All (Fits w cap) (singles xs)
unfolding singles weigh
singles-fit w cap m [] l h = tt
singles-fit w cap m (x ∷ xs) l h = ((omega (arith, h.0), omega arith), singles-fit w cap m xs l h.1)

pub new-level : NewLevel
new-level w cap m l below ns h r s e =
    (record { fit = fit; apart = apart; rising = subst Rising (sym same) (heads-rising below h r) }, same, fewer)
  where
    whole : concat (join w cap (singles (heads below))) ≡ heads below
    whole = join-concat w cap (singles (heads below)) ∙ singles-concat (heads below)

    same : entries ns ≡ heads below
    same = ap concat e ∙ whole

    fit : All (Fits w cap) (pages ns)
    fit = subst (All (Fits w cap)) (sym e) (join-fit w cap (singles (heads below)) (singles-fit w cap m (heads below) (omega arith) s))

    apart : Apart w cap (pages ns)
    apart = subst (Apart w cap) (sym e) (join_apart w cap (singles (heads below)))

    fewer : 2 ≤ length below → length ns < length below
    fewer two =
        let z = inner_bound w cap m (pages ns) l fit apart (subst (All (λ (x : Entry). w x ≤ m)) (sym same) s) in
        let c : length (entries ns) ≡ length (heads below) = ap length same in
        omega (arith, z, c, heads-length below, pages-length ns)

-- tops that go
some_below : (ns below : List Node) → entries ns ≡ heads below → 0 < length below → 0 < length ns
unfolding pages concat
some_below [] below e l = let c : length {A = Entry} [] ≡ length (heads below) = ap length e in absurd (omega (arith, c, heads-length below))
some_below (n ∷ ns) below e l = omega arith

pub trim-stands : TrimStands
unfolding trim top
trim-stands w cap m below [] s l t = t
trim-stands w cap m below (ns ∷ more) s l t =
    cond_both (leb (length below) 1) [] (ns ∷ trim ns more) (λ z. Stands w cap m below z) (λ e. let h = leb-true (length below) 1 e in omega arith)
    (λ e. (s.0, s.1, s.2, leb-false (length below) 1 e, trim-stands w cap m ns more s.3 (some_below ns below s.2 l) t))
