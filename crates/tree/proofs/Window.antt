-- A run of pages of a level, replaced between its neighbours.
use Rattle.std.proofs.Common.{◌≡◌, ℕ, ◌≤◌, List, [], ◌∷◌, ◌++◌, sym, ap, ◌∙◌, subst, append_assoc, append-nil, arith}
use Rattle.std.specs.List.{AllZip}
use Rattle.tree.specs.Entries.{Entry}
use Rattle.tree.specs.Pages.{Page, weigh, ApartFrom, Apart, join, Beside, none, one}
use Rattle.tree.proofs.Joins.{weigh-append, joins-apart, join_apart, join-same, joins-begins, join-ends, apart-front, apart-back, apart-left, apart-right}

module _ (w : Entry → ℕ) (cap : ℕ) where
  side_left : {pre l : List Page} → Beside pre l → (ps rest : List Page) → Apart w cap (pre ++ (l ++ rest)) → Apart w cap (pre ++ join w cap (l ++ ps))
  unfolding join
  side_left none ps rest h = join_apart w cap ps
  side_left (one pre l) ps rest h =
      let b = joins-begins w cap l ps in
      let a : ApartFrom w cap (l ++ b.0) b.1 = subst (Apart w cap) b.2 (joins-apart w cap l ps) in
      let o : Apart w cap (pre ++ (l ∷ [])) = apart-front w cap (pre ++ (l ∷ [])) rest (subst (Apart w cap) (sym (append_assoc pre (l ∷ []) rest)) h) in
      subst (λ z. Apart w cap (pre ++ z)) (sym b.2) (apart-left w cap pre l (l ++ b.0) b.1 o (omega (arith, weigh-append w l b.0)) a)

  side_right : {post r : List Page} → Beside post r → (pre qs : List Page) → Apart w cap (pre ++ join w cap (qs ++ r)) → Apart w cap (r ++ post) → Apart w cap (pre ++ (join w cap (qs ++ r) ++ post))
  side_right none pre qs h a = subst (λ z. Apart w cap (pre ++ z)) (sym (append-nil (join w cap (qs ++ [])))) h
  side_right (one post r) pre qs h a =
      let e = join-ends w cap qs r in
      let s : Page = e.1 ++ r in
      let h₁ : Apart w cap ((pre ++ e.0) ++ (s ∷ [])) = subst (Apart w cap) (ap (λ z. pre ++ z) e.2 ∙ sym (append_assoc pre e.0 (s ∷ []))) h in
      let h₂ : Apart w cap ((pre ++ e.0) ++ (s ∷ post)) = apart-right w cap (pre ++ e.0) r s post h₁ (omega (arith, weigh-append w e.1 r)) a in
      subst (Apart w cap) (append_assoc pre e.0 (s ∷ post) ∙ ap (λ z. pre ++ z) (sym (append_assoc e.0 (s ∷ []) post) ∙ ap (λ z. z ++ post) (sym e.2))) h₂

  pub window : {pre l post r : List Page} → Beside pre l → Beside post r → (touched news : List Page) → Apart w cap (pre ++ (l ++ (touched ++ (r ++ post)))) → Apart w cap (pre ++ (join w cap (l ++ (news ++ r)) ++ post))
  window {pre} {l} {post} {r} b c touched news h =
      let a : Apart w cap (r ++ post) = apart-back w cap touched (r ++ post) (apart-back w cap l (touched ++ (r ++ post)) (apart-back w cap pre (l ++ (touched ++ (r ++ post))) h)) in
      let g : Apart w cap (pre ++ join w cap (l ++ (news ++ r))) = side_left b (news ++ r) (touched ++ (r ++ post)) h in
      let e : l ++ (news ++ r) ≡ (l ++ news) ++ r = sym (append_assoc l news r) in
      subst (λ z. Apart w cap (pre ++ (join w cap z ++ post))) (sym e) (side_right c pre (l ++ news) (subst (λ z. Apart w cap (pre ++ join w cap z)) e g) a)

  -- where no page shrinks, the level stays apart as it is
  after-grown : (p q : Page) (ps qs : List Page) → weigh w p ≤ weigh w q → AllZip (λ x y. weigh w x ≤ weigh w y) ps qs → ApartFrom w cap p ps → ApartFrom w cap q qs
  after-grown p q [] [] k g h = tt
  after-grown p q [] (y ∷ qs) k g h = absurd g
  after-grown p q (x ∷ ps) [] k g h = absurd g
  after-grown p q (x ∷ ps) (y ∷ qs) k g h = (omega (arith, h.0, g.0), after-grown x y ps qs g.0 g.1 h.1)

  pub apart-grown : (ps qs : List Page) → AllZip (λ x y. weigh w x ≤ weigh w y) ps qs → Apart w cap ps → Apart w cap qs
  apart-grown [] [] g h = tt
  apart-grown [] (y ∷ qs) g h = absurd g
  apart-grown (x ∷ ps) [] g h = absurd g
  apart-grown (x ∷ ps) (y ∷ qs) g h = after-grown x y ps qs g.0 g.1 h

  pub each_same : (ps : List Page) → AllZip (λ x y. weigh w x ≤ weigh w y) ps ps
  each_same [] = tt
  each_same (p ∷ ps) = (omega arith, each_same ps)

  pub each_append : (ps qs xs ys : List Page) → AllZip (λ x y. weigh w x ≤ weigh w y) ps qs → AllZip (λ x y. weigh w x ≤ weigh w y) xs ys → AllZip (λ x y. weigh w x ≤ weigh w y) (ps ++ xs) (qs ++ ys)
  each_append [] [] xs ys g k = k
  each_append [] (y ∷ qs) xs ys g k = absurd g
  each_append (x ∷ ps) [] xs ys g k = absurd g
  each_append (x ∷ ps) (y ∷ qs) xs ys g k = (g.0, each_append ps qs xs ys g.1 k)

  pub window-grown : (pre touched news post : List Page) → AllZip (λ x y. weigh w x ≤ weigh w y) touched news → Apart w cap (pre ++ (touched ++ post)) → Apart w cap (pre ++ (news ++ post))
  window-grown pre touched news post g h =
      apart-grown (pre ++ (touched ++ post)) (pre ++ (news ++ post)) (each_append pre pre (touched ++ post) (news ++ post) (each_same pre) (each_append touched news post post g (each_same post))) h

  -- and joining with the neighbours would change nothing
  pub grown-same : (pre l touched news r post : List Page) → AllZip (λ x y. weigh w x ≤ weigh w y) touched news → Apart w cap (pre ++ (l ++ (touched ++ (r ++ post)))) → join w cap (l ++ (news ++ r)) ≡ l ++ (news ++ r)
  grown-same pre l touched news r post g h =
      let a : Apart w cap (l ++ (touched ++ (r ++ post))) = apart-back w cap pre (l ++ (touched ++ (r ++ post))) h in
      let b : Apart w cap (l ++ (news ++ (r ++ post))) = window-grown l touched news (r ++ post) g a in
      join-same w cap (l ++ (news ++ r)) (apart-front w cap (l ++ (news ++ r)) post (subst (Apart w cap) (sym (append_assoc l (news ++ r) post ∙ ap (λ z. l ++ z) (append_assoc news r post))) b))
