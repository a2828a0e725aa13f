-- Joining pages: the entries stay, the pages fit, and neighbours are apart.
use Rattle.std.proofs.Common.{◌≡◌, ℕ, ◌+◌, ◌<◌, ◌≤◌, cond, leb, List, [], ◌∷◌, ◌++◌, sym, refl, ap, ◌∙◌, append_assoc, append-nil, arith, length-append}
use Rattle.std.specs.List.{AllByRecursion as All}
use Rattle.std.proofs.lemmas.Bool.{cond_both, leb-true, leb-false, lt-leb}
use Rattle.tree.specs.Entries.{Entry}
use Rattle.tree.specs.Pages.{Page, weigh, concat, Fits, ApartFrom, Apart, joins, join}

pub weigh-append : (w : Entry → ℕ) (xs ys : Page) → weigh w (xs ++ ys) ≡ weigh w xs + weigh w ys
unfolding weigh
weigh-append w [] ys = omega arith
weigh-append w (x ∷ xs) ys = omega (arith, weigh-append w xs ys)

pub concat-append : (ps qs : List Page) → concat (ps ++ qs) ≡ concat ps ++ concat qs
unfolding concat
concat-append [] qs = refl
concat-append (p ∷ ps) qs = ap (λ z. p ++ z) (concat-append ps qs) ∙ sym (append_assoc p (concat ps) (concat qs))

-- all that follows is of one measure and one bound
module _ (w : Entry → ℕ) (cap : ℕ) where
  pub joins-concat : (p : Page) (qs : List Page) → concat (joins w cap p qs) ≡ p ++ concat qs
  unfolding concat joins
  joins-concat p [] = refl
  joins-concat p (q ∷ qs) =
      cond_both (leb (weigh w p + weigh w q) cap) (joins w cap (p ++ q) qs) (p ∷ joins w cap q qs) (λ ls. concat ls ≡ p ++ (q ++ concat qs))
      (λ _. joins-concat (p ++ q) qs ∙ append_assoc p q (concat qs)) (λ _. ap (λ z. p ++ z) (joins-concat q qs))

  pub join-concat : (ps : List Page) → concat (join w cap ps) ≡ concat ps
  unfolding concat join
  join-concat [] = refl
  join-concat (p ∷ ps) = joins-concat p ps

  pub joins-fit : (p : Page) (qs : List Page) → Fits w cap p → All (Fits w cap) qs → All (Fits w cap) (joins w cap p qs)
  unfolding joins
  joins-fit p [] h t = (h, tt)
  joins-fit p (q ∷ qs) h t =
      cond_both (leb (weigh w p + weigh w q) cap) (joins w cap (p ++ q) qs) (p ∷ joins w cap q qs) (All (Fits w cap))
      (λ e. joins-fit (p ++ q) qs (omega (arith, weigh-append w p q, leb-true (weigh w p + weigh w q) cap e), omega (arith, length-append p q)) t.1) (λ e. (h, joins-fit q qs t.0 t.1))

  pub join-fit : (ps : List Page) → All (Fits w cap) ps → All (Fits w cap) (join w cap ps)
  unfolding join
  join-fit [] h = tt
  join-fit (p ∷ ps) h = joins-fit p ps h.0 h.1

  joins_after : (z p : Page) (qs : List Page) → cap < weigh w z + weigh w p → ApartFrom w cap z (joins w cap p qs)
  unfolding joins
  joins_after z p [] h = (h, tt)
  joins_after z p (q ∷ qs) h =
      cond_both (leb (weigh w p + weigh w q) cap) (joins w cap (p ++ q) qs) (p ∷ joins w cap q qs) (ApartFrom w cap z)
      (λ e. joins_after z (p ++ q) qs (omega (arith, weigh-append w p q))) (λ e. (h, joins_after p q qs (leb-false (weigh w p + weigh w q) cap e)))

  pub joins-apart : (p : Page) (qs : List Page) → Apart w cap (joins w cap p qs)
  unfolding joins
  joins-apart p [] = tt
  joins-apart p (q ∷ qs) =
      cond_both (leb (weigh w p + weigh w q) cap) (joins w cap (p ++ q) qs) (p ∷ joins w cap q qs) (Apart w cap)
      (λ e. joins-apart (p ++ q) qs) (λ e. joins_after p q qs (leb-false (weigh w p + weigh w q) cap e))

  pub join_apart : (ps : List Page) → Apart w cap (join w cap ps)
  unfolding join
  join_apart [] = tt
  join_apart (p ∷ ps) = joins-apart p ps

  -- pages that are apart already stay as they are
  joins-same : (p : Page) (qs : List Page) → ApartFrom w cap p qs → joins w cap p qs ≡ p ∷ qs
  unfolding joins
  joins-same p [] h = refl
  joins-same p (q ∷ qs) h =
      ap (λ t. cond t (joins w cap (p ++ q) qs) (p ∷ joins w cap q qs)) (lt-leb (weigh w p + weigh w q) cap h.0) ∙ ap (λ z. p ∷ z) (joins-same q qs h.1)

  pub join-same : (ps : List Page) → Apart w cap ps → join w cap ps ≡ ps
  unfolding join
  join-same [] h = refl
  join-same (p ∷ ps) h = joins-same p ps h

  -- the first joined page begins with the first, the last ends with the last
  pub joins-begins : (p : Page) (qs : List Page) → (x : Page) × (rest : List Page) × (joins w cap p qs ≡ (p ++ x) ∷ rest)
  unfolding joins
  joins-begins p [] = ([], [], ap (λ z. z ∷ []) (sym (append-nil p)))
  joins-begins p (q ∷ qs) =
      cond_both (leb (weigh w p + weigh w q) cap) (joins w cap (p ++ q) qs) (p ∷ joins w cap q qs) (λ ls. (x : Page) × (rest : List Page) × (ls ≡ (p ++ x) ∷ rest))
      (λ _. let r = joins-begins (p ++ q) qs in (q ++ r.0, r.1, r.2 ∙ ap (λ z. z ∷ r.1) (append_assoc p q r.0)))
      (λ _. ([], joins w cap q qs, ap (λ z. z ∷ joins w cap q qs) (sym (append-nil p))))

  abbrev pub EndsWith : Page → List Page → Type 0
  EndsWith r ls = (front : List Page) × (x : Page) × (ls ≡ front ++ ((x ++ r) ∷ []))

  joins-ends : (p : Page) (qs : List Page) (r : Page) → EndsWith r (joins w cap p (qs ++ (r ∷ [])))
  unfolding joins
  joins-ends p [] r =
      cond_both (leb (weigh w p + weigh w r) cap) ((p ++ r) ∷ []) (p ∷ r ∷ []) (EndsWith r)
      (λ _. ([], p, refl)) (λ _. (p ∷ [], [], refl))
  joins-ends p (q ∷ qs) r =
      cond_both (leb (weigh w p + weigh w q) cap) (joins w cap (p ++ q) (qs ++ (r ∷ []))) (p ∷ joins w cap q (qs ++ (r ∷ []))) (EndsWith r)
      (λ _. joins-ends (p ++ q) qs r) (λ _. let e = joins-ends q qs r in (p ∷ e.0, e.1, ap (λ z. p ∷ z) e.2))

  pub join-ends : (ps : List Page) (r : Page) → EndsWith r (join w cap (ps ++ (r ∷ [])))
  unfolding join joins
  join-ends [] r = ([], [], refl)
  join-ends (p ∷ ps) r = joins-ends p ps r

  -- parts of a level that is apart
  after_front : (z : Page) (xs ys : List Page) → ApartFrom w cap z (xs ++ ys) → ApartFrom w cap z xs
  after_front z [] ys h = tt
  after_front z (x ∷ xs) ys h = (h.0, after_front x xs ys h.1)

  pub apart-front : (xs ys : List Page) → Apart w cap (xs ++ ys) → Apart w cap xs
  apart-front [] ys h = tt
  apart-front (x ∷ xs) ys h = after_front x xs ys h

  pub apart-tail : (z : Page) (ys : List Page) → ApartFrom w cap z ys → Apart w cap ys
  apart-tail z [] h = tt
  apart-tail z (y ∷ ys) h = h.1

  after-back : (z : Page) (xs ys : List Page) → ApartFrom w cap z (xs ++ ys) → Apart w cap ys
  after-back z [] ys h = apart-tail z ys h
  after-back z (x ∷ xs) ys h = after-back x xs ys h.1

  pub apart-back : (xs ys : List Page) → Apart w cap (xs ++ ys) → Apart w cap ys
  apart-back [] ys h = h
  apart-back (x ∷ xs) ys h = after-back x xs ys h

  -- a page may grow
  grow_first : (r s : Page) (post : List Page) → weigh w r ≤ weigh w s → ApartFrom w cap r post → ApartFrom w cap s post
  grow_first r s [] k h = tt
  grow_first r s (q ∷ qs) k h = (omega (arith, h.0), h.1)

  after-left : (z : Page) (pre : List Page) (l m : Page) (ns : List Page) → ApartFrom w cap z (pre ++ (l ∷ [])) → weigh w l ≤ weigh w m → ApartFrom w cap m ns → ApartFrom w cap z (pre ++ (m ∷ ns))
  after-left z [] l m ns h k a = (omega (arith, h.0), a)
  after-left z (p ∷ pre) l m ns h k a = (h.0, after-left p pre l m ns h.1 k a)

  pub apart-left : (pre : List Page) (l m : Page) (ns : List Page) → Apart w cap (pre ++ (l ∷ [])) → weigh w l ≤ weigh w m → ApartFrom w cap m ns → Apart w cap (pre ++ (m ∷ ns))
  apart-left [] l m ns h k a = a
  apart-left (p ∷ pre) l m ns h k a = after-left p pre l m ns h k a

  after-right : (z : Page) (ns : List Page) (r s : Page) (post : List Page) → ApartFrom w cap z (ns ++ (s ∷ [])) → weigh w r ≤ weigh w s → ApartFrom w cap r post → ApartFrom w cap z (ns ++ (s ∷ post))
  after-right z [] r s post h k a = (h.0, grow_first r s post k a)
  after-right z (n ∷ ns) r s post h k a = (h.0, after-right n ns r s post h.1 k a)

  pub apart-right : (ns : List Page) (r s : Page) (post : List Page) → Apart w cap (ns ++ (s ∷ [])) → weigh w r ≤ weigh w s → ApartFrom w cap r post → Apart w cap (ns ++ (s ∷ post))
  apart-right [] r s post h k a = grow_first r s post k a
  apart-right (n ∷ ns) r s post h k a = after-right n ns r s post h k a
