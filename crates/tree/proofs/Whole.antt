-- A whole change of a tree.
use Rattle.std.proofs.Common.{◌≡◌, ℕ, suc, ◌+◌, ◌*◌, ◌<◌, ◌≤◌, true, false, cond, ◌&&◌, ◌⊎◌, List, [], ◌∷◌, ◌++◌, length, sym, refl, ap, ◌∙◌, subst, inl, inr, append_assoc, arith}
use Rattle.std.specs.List.{AllByRecursion as All}
use Rattle.std.proofs.lemmas.Bool.{cond_both, and_from, and_left, and_right}
use Rattle.std.proofs.ByRecursion.{All-weaker}
use Rattle.meaning.specs.Value.{less_bytes}
use Rattle.tree.specs.Entries.{Entry, first_key, Under, Above, Rising, applies}
use Rattle.tree.specs.Pages.{Page, concat, Fits, Apart}
use Rattle.tree.specs.Tree.{Node, head, heads, pages, entries, Level, Linked, top}
use Rattle.tree.specs.Change.{Topped, as_is, new_top, within}
use Rattle.tree.specs.Laws.{WholeChange, WholeFirst, TouchedThree}
use Rattle.octets.proofs.Order.{less-same, less-asym}
use Rattle.tree.proofs.Joins.{concat-append}
use Rattle.tree.proofs.Bound.{all_left, all_right, heads-length, pages-length}
use Rattle.tree.proofs.Rise.{new-level, trim-stands, heads-append, pages-append}
use Rattle.tree.proofs.Look.{belongs-parts, around}
use Rattle.tree.proofs.Change.{leaf-change, first-change, climb-links, top-links, whole-few}

-- what is known of a level that another is put upon
pub record Sound (ns : List Node) : Type 0 where
  pub some : All (λ (p : Page). 0 < length p) (pages ns)
  pub rising : Rising (entries ns)

sound : (w : Entry → ℕ) (cap : ℕ) (ns : List Node) → Level w cap ns → Sound ns
sound w cap ns l = record { some = All-weaker (Fits w cap) (λ (p : Page). 0 < length p) (λ p f. f.1) (pages ns) l.fit; rising = l.rising }

top_sound : (w : Entry → ℕ) (cap m : ℕ) (c : List Node) (more : List (List Node)) → Sound c → Linked w cap m c more → Sound (top c more)
unfolding top
top_sound w cap m c [] s k = s
top_sound w cap m c (ns ∷ more) s k = top_sound w cap m ns more (sound w cap ns k.0) k.3

topped-links : (w : Entry → ℕ) (cap m : ℕ) (c : List Node) → 4 * m ≤ cap → Sound c → {more news : List (List Node)} → Topped w cap m c more news → Linked w cap m c more → Linked w cap m c news
topped-links w cap m c l s (as_is more) k = k
topped-links w cap m c l s (new_top more news ns h e t) k =
    let g = top_sound w cap m c more s k in
    let n = new-level w cap m l (top c more) ns g.some g.rising h e in
    topped-links w cap m c l s t (top-links w cap m c ns more k n.0 (subst (All (λ (x : Entry). w x ≤ m)) (sym n.1) h) n.1).0

pub whole-change : WholeChange
whole-change v w cap m l es b c more news tops lb k d t u z one =
    let e = leaf-change v cap es (pages b) (pages c) lb.fit lb.apart lb.rising d in
    let lc : Level v cap c = record { fit = e.fit; apart = e.apart; rising = e.rising } in
    let sb = sound v cap b lb in
    let sc = sound v cap c lc in
    let kc = climb-links w cap m b c more news sb.some sc.some sb.rising sc.rising t k in
    (lc, e.same, trim-stands w cap m c tops (topped-links w cap m c l sc u kc) z one)

pub whole-first : WholeFirst
whole-first v w cap m l es c tops s d u z one =
    let e = first-change v cap es s in
    let lc : Level v cap c = record { fit = subst (All (Fits v cap)) (sym d) e.fit; apart = subst (Apart v cap) (sym d) e.apart; rising = subst (λ p. Rising (concat p)) (sym d) e.rising } in
    (lc, ap concat d ∙ e.same ∙ ap (applies es) (empty), trim-stands w cap m c tops (topped-links w cap m c l (sound v cap c lc) u tt) z one)
  where
    empty : concat ([] ∷ []) ≡ []
    empty = unfold concat in refl

-- keys between two
within-append : (lo hi : List ℕ) (xs ys : List Entry) → within lo hi (xs ++ ys) ≡ within lo hi xs + within lo hi ys
unfolding within
within-append lo hi [] ys = omega arith
within-append lo hi (x ∷ xs) ys = omega (arith, within-append lo hi xs ys)

within_all : (lo hi : List ℕ) (xs : List Entry) → Above lo xs → Under hi xs → length xs ≤ within lo hi xs
unfolding within
within_all lo hi [] h k = omega arith
within_all lo hi (x ∷ xs) h k =
    let e : ◌≡◌ {A = ℕ} (cond (less_bytes lo x.key && less_bytes x.key hi) 1 0) 1 = ap {B = ℕ} (λ t. cond t 1 0) (and_from (less_bytes lo x.key) (less_bytes x.key hi) h.0 k.0) in
    omega (arith, e, within_all lo hi xs h.1 k.1)

within-under : (lo hi : List ℕ) (xs : List Entry) → Under lo xs → within lo hi xs ≡ 0
unfolding within
within-under lo hi [] h = refl
within-under lo hi (x ∷ xs) h =
    let e : ◌≡◌ {A = ℕ} (cond (less_bytes lo x.key && less_bytes x.key hi) 1 0) 0 = ap {B = ℕ} (λ t. cond t 1 0) (and_left (less_bytes lo x.key) (less_bytes x.key hi) (less-asym x.key lo h.0)) in
    omega (arith, e, within-under lo hi xs h.1)

within-above : (lo hi : List ℕ) (xs : List Entry) → Above hi xs → within lo hi xs ≡ 0
unfolding within
within-above lo hi [] h = refl
within-above lo hi (x ∷ xs) h =
    let e : ◌≡◌ {A = ℕ} (cond (less_bytes lo x.key && less_bytes x.key hi) 1 0) 0 = ap {B = ℕ} (λ t. cond t 1 0) (and_right (less_bytes lo x.key) (less_bytes x.key hi) (less-asym hi x.key h.0)) in
    omega (arith, e, within-above lo hi xs h.1)

within-most : (lo hi : List ℕ) (xs : List Entry) → within lo hi xs ≤ length xs
unfolding within
within-most lo hi [] = omega arith
within-most lo hi (x ∷ xs) =
    let h = within-most lo hi xs in
    cond_both (less_bytes lo x.key && less_bytes x.key hi) 1 0 (λ z. z + within lo hi xs ≤ suc (length xs)) (λ _. omega arith) (λ _. omega arith)

-- one of them at the low end
within-one : (lo hi : List ℕ) (x : Entry) (xs : List Entry) → x.key ≡ lo → within lo hi (x ∷ xs) ≤ length xs
unfolding within
within-one lo hi x xs e =
    let f : less_bytes lo x.key ≡ false = subst (λ z. less_bytes lo z ≡ false) (sym e) (less-same lo) in
    let g : ◌≡◌ {A = ℕ} (cond (less_bytes lo x.key && less_bytes x.key hi) 1 0) 0 = ap {B = ℕ} (λ t. cond t 1 0) (and_left (less_bytes lo x.key) (less_bytes x.key hi) f) in
    omega (arith, g, within-most lo hi xs)

few-old : (lo hi : List ℕ) (old : List Node) → (length old ≤ 4) ⊎ ((length old ≤ 5) × (n : Node) × (rest : List Node) × (old ≡ n ∷ rest) × (first_key n.items ≡ lo)) → within lo hi (heads old) ≤ 4
unfolding heads
few-old lo hi old (inl h) = omega (arith, within-most lo hi (heads old), heads-length old)
few-old lo hi old (inr h) =
    let e : heads old ≡ head h.1 ∷ heads h.2 = ap heads h.3 in
    let z : within lo hi (heads old) ≤ length (heads h.2) = subst (λ y. within lo hi y ≤ length (heads h.2)) (sym e) (within-one lo hi (head h.1) (heads h.2) h.4) in
    let l : length old ≡ suc (length h.2) = ap length h.3 in
    omega (arith, z, heads-length h.2, l, h.0)

pub touched-three : TouchedThree
touched-three w cap m l lo hi pre old post a p mid q z v s e ul ah bl bh d =
    subst (λ n. n ≤ 1) (pages-length mid) (whole-few w cap m l (pages a ++ (p.items ∷ [])) (pages mid) (pages (q ∷ z)) ap₁ small four fits)
  where
    us : List Node
    us = a ++ (p ∷ (mid ++ (q ∷ z)))

    g : Sound us
    g = sound w cap us v

    w₁ : us ≡ (a ++ (p ∷ mid)) ++ (q ∷ z)
    w₁ = sym (append_assoc a (p ∷ mid) (q ∷ z))

    parts-lo : Under lo (entries a) × Above lo (entries (mid ++ (q ∷ z)))
    parts-lo = belongs-parts lo a p (mid ++ (q ∷ z)) g.some g.rising bl

    parts-hi : Under hi (entries (a ++ (p ∷ mid))) × Above hi (entries z)
    parts-hi = belongs-parts hi (a ++ (p ∷ mid)) q z (subst (λ y. All (λ (x : Page). 0 < length x) (pages y)) w₁ g.some) (subst (λ y. Rising (entries y)) w₁ g.rising) bh

    mid-two : entries (mid ++ (q ∷ z)) ≡ entries mid ++ entries (q ∷ z)
    mid-two = ap concat (pages-append mid (q ∷ z)) ∙ concat-append (pages mid) (pages (q ∷ z))

    low : Above lo (entries mid)
    low = all_left (λ (x : Entry). less_bytes lo x.key ≡ true) (entries mid) (entries (q ∷ z)) (subst (Above lo) mid-two parts-lo.1)

    high : Under hi (entries mid)
    high = all_right (λ (x : Entry). less_bytes x.key hi ≡ true) p.items (entries mid) (all_right (λ (x : Entry). less_bytes x.key hi ≡ true) (entries a) (p.items ++ entries mid) (subst (Under hi) (around a p mid) parts-hi.0))

    split-us : entries us ≡ entries a ++ (p.items ++ (entries mid ++ entries (q ∷ z)))
    split-us = around a p (mid ++ (q ∷ z)) ∙ ap (λ y. entries a ++ (p.items ++ y)) mid-two

    count : within lo hi (entries us) ≡ within lo hi (entries a) + (within lo hi p.items + (within lo hi (entries mid) + within lo hi (entries (q ∷ z))))
    count =
        ap (within lo hi) split-us ∙ within-append lo hi (entries a) (p.items ++ (entries mid ++ entries (q ∷ z)))
        ∙ ap (λ y. within lo hi (entries a) + y) (within-append lo hi p.items (entries mid ++ entries (q ∷ z)) ∙ ap (λ y. within lo hi p.items + y) (within-append lo hi (entries mid) (entries (q ∷ z))))

    count-heads : within lo hi (entries us) ≡ within lo hi (heads pre) + (within lo hi (heads old) + within lo hi (heads post))
    count-heads =
        ap (within lo hi) (e ∙ heads-append pre (old ++ post) ∙ ap (λ y. heads pre ++ y) (heads-append old post))
        ∙ within-append lo hi (heads pre) (heads old ++ heads post) ∙ ap (λ y. within lo hi (heads pre) + y) (within-append lo hi (heads old) (heads post))

    four : length (entries mid) ≤ 4
    four = omega (arith, within_all lo hi (entries mid) low high, count, count-heads, within-under lo hi (heads pre) ul, within-above lo hi (heads post) ah, few-old lo hi old d)

    P : Entry → Type 0
    P x = w x ≤ m

    small : All P (entries mid)
    small = all_left P (entries mid) (entries (q ∷ z)) (all_right P p.items (entries mid ++ entries (q ∷ z)) (all_right P (entries a) (p.items ++ (entries mid ++ entries (q ∷ z))) (subst (All P) split-us s)))

    pages-us : pages us ≡ (pages a ++ (p.items ∷ [])) ++ (pages mid ++ pages (q ∷ z))
    pages-us = pages-append a (p ∷ (mid ++ (q ∷ z))) ∙ ap (λ y. pages a ++ y) (front (p ∷ []) (mid ++ (q ∷ z)) ∙ ap (λ y. p.items ∷ y) (pages-append mid (q ∷ z))) ∙ sym (append_assoc (pages a) (p.items ∷ []) (pages mid ++ pages (q ∷ z)))
      where
        front : (x : List Node) (y : List Node) → pages (p ∷ y) ≡ p.items ∷ pages y
        front x y = unfold pages in refl

    ap₁ : Apart w cap ((pages a ++ (p.items ∷ [])) ++ (pages mid ++ pages (q ∷ z)))
    ap₁ = subst (Apart w cap) pages-us v.apart

    fits : All (Fits w cap) (pages mid)
    fits = all_left (Fits w cap) (pages mid) (pages (q ∷ z)) (all_right (Fits w cap) (pages a ++ (p.items ∷ [])) (pages mid ++ pages (q ∷ z)) (subst (All (Fits w cap)) pages-us v.fit))
