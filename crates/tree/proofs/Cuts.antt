-- Pieces: a page with its edits, cut where it has become too large.
use Rattle.std.proofs.Common.{◌≡◌, ℕ, ◌+◌, ◌≤◌, Bool, true, false, cond, not, ◌||◌, leb, List, [], ◌∷◌, ◌++◌, sym, refl, ap, ◌∙◌, append_assoc, append-nil, arith}
use Rattle.std.specs.List.{AllByRecursion as All}
use Rattle.std.proofs.lemmas.Bool.{cond_both, leb-true, or_parts, or_left, or_right, or_from, not_from_false}
use Rattle.std.proofs.ByRecursion.{All-append}
use Rattle.meaning.specs.Value.{less_bytes}
use Rattle.tree.specs.Entries.{Entry, enter, take_out, Edit, put, del, Puts, spot, apply, applies, edited}
use Rattle.tree.specs.Pages.{Page, weigh, concat, Fits, kept, segments, parts, pieces}
use Rattle.octets.proofs.Order.{less-same}
use Rattle.tree.proofs.Joins.{weigh-append, concat-append}
use Rattle.tree.proofs.Edits.{applies-all}

-- the entries stay
kept-concat : (p : Page) → concat (kept p) ≡ p
unfolding concat kept
kept-concat [] = refl
kept-concat (x ∷ xs) = ap (λ z. x ∷ z) (append-nil xs)

pub segments-concat : (t : Entry → Bool) (seg xs : Page) → concat (segments t seg xs) ≡ seg ++ xs
unfolding concat segments
segments-concat t seg [] = kept-concat seg ∙ sym (append-nil seg)
segments-concat t seg (x ∷ xs) =
    cond_both (t x) (kept seg ++ (x ∷ []) ∷ segments t [] xs) (segments t (seg ++ x ∷ []) xs) (λ ls. concat ls ≡ seg ++ (x ∷ xs))
    (λ _. concat-append (kept seg) ((x ∷ []) ∷ segments t [] xs) ∙ ap (λ z. z ++ (x ∷ concat (segments t [] xs))) (kept-concat seg) ∙ ap (λ z. seg ++ (x ∷ z)) (segments-concat t [] xs))
    (λ _. segments-concat t (seg ++ x ∷ []) xs ∙ append_assoc seg (x ∷ []) xs)

pub parts-concat : (w : Entry → ℕ) (cap : ℕ) (t : Entry → Bool) (xs : Page) → concat (parts w cap t xs) ≡ xs
unfolding concat parts
parts-concat w cap t [] = refl
parts-concat w cap t (x ∷ xs) =
    cond_both (leb (weigh w (x ∷ xs)) cap) ((x ∷ xs) ∷ []) (segments t [] (x ∷ xs)) (λ ls. concat ls ≡ x ∷ xs) (λ _. ap (λ z. x ∷ z) (append-nil xs)) (λ _. segments-concat t [] (x ∷ xs))

-- what the entries weigh that no edit names
plain : (Entry → ℕ) → (Entry → Bool) → Page → ℕ
plain w t [] = 0
plain w t (x ∷ xs) = cond (t x) 0 (w x) + plain w t xs

abbrev Covers : (Entry → Bool) → Edit → Type 0
Covers t e = (x : Entry) → less_bytes (spot e) x.key ≡ false → less_bytes x.key (spot e) ≡ false → t x ≡ true

plain_over : (w : Entry → ℕ) (t : Entry → Bool) (x : Entry) (xs : Page) → t x ≡ true → plain w t (x ∷ xs) ≡ plain w t xs
unfolding plain
plain_over w t x xs h = let e : cond (t x) 0 (w x) ≡ 0 = ap (λ b. cond b 0 (w x)) h in omega (arith, e)

plain_step : (w : Entry → ℕ) (t : Entry → Bool) (x : Entry) (xs ys : Page) → plain w t xs ≡ plain w t ys → plain w t (x ∷ xs) ≡ plain w t (x ∷ ys)
unfolding plain
plain_step w t x xs ys h = ap (λ z. cond (t x) 0 (w x) + z) h

plain-enter : (w : Entry → ℕ) (t : Entry → Bool) (e : Entry) (xs : Page) → Covers t (put e) → plain w t (enter e xs) ≡ plain w t xs
unfolding enter spot
plain-enter w t e [] c = plain_over w t e [] (c e (less-same e.key) (less-same e.key))
plain-enter w t e (x ∷ xs) c =
    cond_both (less_bytes e.key x.key) (e ∷ x ∷ xs) (cond (less_bytes x.key e.key) (x ∷ enter e xs) (e ∷ xs)) (λ ls. plain w t ls ≡ plain w t (x ∷ xs))
    (λ _. plain_over w t e (x ∷ xs) own)
    (λ h. cond_both (less_bytes x.key e.key) (x ∷ enter e xs) (e ∷ xs) (λ ls. plain w t ls ≡ plain w t (x ∷ xs))
    (λ _. plain_step w t x (enter e xs) xs (plain-enter w t e xs c))
    (λ k. plain_over w t e xs own ∙ sym (plain_over w t x xs (c x h k))))
  where
    own : t e ≡ true
    own = c e (less-same e.key) (less-same e.key)

plain-take : (w : Entry → ℕ) (t : Entry → Bool) (k : List ℕ) (xs : Page) → Covers t (del k) → plain w t (take_out k xs) ≡ plain w t xs
unfolding take_out spot
plain-take w t k [] c = refl
plain-take w t k (x ∷ xs) c =
    cond_both (less_bytes k x.key || less_bytes x.key k) (x ∷ take_out k xs) xs (λ ls. plain w t ls ≡ plain w t (x ∷ xs))
    (λ _. plain_step w t x (take_out k xs) xs (plain-take w t k xs c))
    (λ h. let o = or_parts (less_bytes k x.key) (less_bytes x.key k) h in sym (plain_over w t x xs (c x o.0 o.1)))

plain-applies : (w : Entry → ℕ) (t : Entry → Bool) (es : List Edit) (xs : Page) → All (Covers t) es → plain w t (applies es xs) ≡ plain w t xs
unfolding applies apply
plain-applies w t [] xs c = refl
plain-applies w t (put e ∷ es) xs c = plain-applies w t es (enter e xs) c.1 ∙ plain-enter w t e xs c.0
plain-applies w t (del k ∷ es) xs c = plain-applies w t es (take_out k xs) c.1 ∙ plain-take w t k xs c.0

plain-most : (w : Entry → ℕ) (t : Entry → Bool) (xs : Page) → plain w t xs ≤ weigh w xs
unfolding plain weigh
plain-most w t [] = omega arith
plain-most w t (x ∷ xs) = let h = plain-most w t xs in cond_both (t x) 0 (w x) (λ z. z + plain w t xs ≤ w x + weigh w xs) (λ _. omega arith) (λ _. omega arith)

covers-or : (s t : Entry → Bool) (es : List Edit) → All (Covers t) es → All (Covers (λ x. s x || t x)) es
covers-or s t [] c = tt
covers-or s t (e ∷ es) c = (λ x h k. or_right (s x) (t x) (c.0 x h k), covers-or s t es c.1)

edited-covers : (es : List Edit) → All (Covers (edited es)) es
unfolding edited
edited-covers [] = tt
edited-covers (e ∷ es) = (
  λ x h k. or_left (not (less_bytes (spot e) x.key || less_bytes x.key (spot e))) (edited es x) (not_from_false (less_bytes (spot e) x.key || less_bytes x.key (spot e)) (or_from (less_bytes (spot e) x.key) (less_bytes x.key (spot e)) h k)),
  covers-or (λ x. not (less_bytes (spot e) x.key || less_bytes x.key (spot e))) (edited es) es (edited-covers es),
)

-- every piece fits
kept-fit : (w : Entry → ℕ) (cap : ℕ) (p : Page) → weigh w p ≤ cap → All (Fits w cap) (kept p)
unfolding kept
kept-fit w cap [] h = tt
kept-fit w cap (x ∷ xs) h = ((h, omega arith), tt)

segments-fit : (w : Entry → ℕ) (cap : ℕ) (t : Entry → Bool) (seg xs : Page) → weigh w seg + plain w t xs ≤ cap → All (λ (x : Entry). w x ≤ cap) xs → All (Fits w cap) (segments t seg xs)
unfolding segments plain weigh
segments-fit w cap t seg [] h a = kept-fit w cap seg (omega arith)
segments-fit w cap t seg (x ∷ xs) h a =
    cond_both (t x) (kept seg ++ (x ∷ []) ∷ segments t [] xs) (segments t (seg ++ x ∷ []) xs) (All (Fits w cap))
    (λ e. All-append (Fits w cap) (kept seg) ((x ∷ []) ∷ segments t [] xs) (kept-fit w cap seg (omega arith))
    ((omega (arith, a.0), omega arith), segments-fit w cap t [] xs (omega arith) a.1))
    (λ e. let g : cond (t x) 0 (w x) ≡ w x = ap (λ b. cond b 0 (w x)) e in
    segments-fit w cap t (seg ++ x ∷ []) xs (omega (arith, g, weigh-append w seg (x ∷ []))) a.1)

parts-fit : (w : Entry → ℕ) (cap : ℕ) (t : Entry → Bool) (xs : Page) → plain w t xs ≤ cap → All (λ (x : Entry). w x ≤ cap) xs → All (Fits w cap) (parts w cap t xs)
unfolding parts weigh
parts-fit w cap t [] h a = tt
parts-fit w cap t (x ∷ xs) h a =
    cond_both (leb (weigh w (x ∷ xs)) cap) ((x ∷ xs) ∷ []) (segments t [] (x ∷ xs)) (All (Fits w cap)) (λ e. ((leb-true (weigh w (x ∷ xs)) cap e, omega arith), tt)) (λ _. segments-fit w cap t [] (x ∷ xs) (omega arith) a)

weigh-each : (w : Entry → ℕ) (cap : ℕ) (xs : Page) → weigh w xs ≤ cap → All (λ (x : Entry). w x ≤ cap) xs
unfolding weigh
weigh-each w cap [] h = tt
weigh-each w cap (x ∷ xs) h = (omega arith, weigh-each w cap xs (omega arith))

pub pieces-concat : (w : Entry → ℕ) (cap : ℕ) (es : List Edit) (p : Page) → concat (pieces w cap es p) ≡ applies es p
pieces-concat w cap es p = parts-concat w cap (edited es) (applies es p)

pub pieces-fit : (w : Entry → ℕ) (cap : ℕ) (es : List Edit) (p : Page) → All (Puts (λ (x : Entry). w x ≤ cap)) es → weigh w p ≤ cap → All (Fits w cap) (pieces w cap es p)
pieces-fit w cap es p s h =
    let e = plain-applies w (edited es) es p (edited-covers es) in
    parts-fit w cap (edited es) (applies es p) (omega (arith, e, plain-most w (edited es) p)) (applies-all (λ (x : Entry). w x ≤ cap) es p s (weigh-each w cap p h))
