-- A level with edits.
use Rattle.std.proofs.Common.{◌≡◌, ℕ, ◌<◌, ◌≤◌, true, List, [], ◌∷◌, ◌++◌, length, sym, ap, ◌∙◌, subst, append_assoc, append-nil, arith}
use Rattle.std.specs.List.{AllByRecursion as All}
use Rattle.std.proofs.lemmas.Bool.{cond_both}
use Rattle.std.proofs.ByRecursion.{All-append}
use Rattle.meaning.specs.Value.{less_bytes}
use Rattle.tree.specs.Entries.{Entry, first_key, Above, Under, From, Rising, Edit, Puts, spot, applies, lower, upper}
use Rattle.tree.specs.Pages.{Page, weigh, concat, Fits, join, pieces, spread}
use Rattle.tree.specs.Laws.{LevelAny, LevelEdit, PiecesFit}
use Rattle.octets.proofs.Order.{less-same, less-asym}
use Rattle.tree.proofs.Joins.{concat-append, join-concat, join-fit}
use Rattle.tree.proofs.Window.{window}
use Rattle.tree.proofs.Bound.{all_left, all_right}
use Rattle.tree.proofs.Edits.{applies-mid, applies-cut, applies-rising}
use Rattle.tree.proofs.Cuts.{pieces-concat, pieces-fit}

-- parts of a rising list
pub rising-left : (xs ys : List Entry) → Rising (xs ++ ys) → Rising xs
rising-left [] ys r = tt
rising-left (x ∷ xs) ys r = (all_left (λ (y : Entry). less_bytes x.key y.key ≡ true) xs ys r.0, rising-left xs ys r.1)

pub rising-right : (xs ys : List Entry) → Rising (xs ++ ys) → Rising ys
rising-right [] ys r = r
rising-right (x ∷ xs) ys r = rising-right xs ys r.1

pub rising-under : (xs : List Entry) (y : Entry) (ys : List Entry) → Rising (xs ++ (y ∷ ys)) → Under y.key xs
rising-under [] y ys r = tt
rising-under (x ∷ xs) y ys r = ((all_right (λ (z : Entry). less_bytes x.key z.key ≡ true) xs (y ∷ ys) r.0).0, rising-under xs y ys r.1)

above_from : (k : List ℕ) (xs : List Entry) → Above k xs → From k xs
above_from k [] h = tt
above_from k (x ∷ xs) h = (less-asym k x.key h.0, above_from k xs h.1)

pub under_first : (xs q ys : List Entry) → 0 < length q → Rising (xs ++ (q ++ ys)) → Under (first_key q) xs
unfolding first_key
under_first xs [] ys h r = absurd (omega arith)
under_first xs (y ∷ q) ys h r = rising-under xs y (q ++ ys) r

pub from_first : (q ys : List Entry) → 0 < length q → Rising (q ++ ys) → From (first_key q) (q ++ ys)
unfolding first_key
from_first [] ys h r = absurd (omega arith)
from_first (y ∷ q) ys h r = (less-same y.key, above_from y.key (q ++ ys) r.0)

-- the edits below, and the others
lower-all : (P : Edit → Type 0) (k : List ℕ) (es : List Edit) → All P es → All P (lower k es)
unfolding lower
lower-all P k [] h = tt
lower-all P k (e ∷ es) h = cond_both (less_bytes (spot e) k) (e ∷ lower k es) (lower k es) (All P) (λ _. (h.0, lower-all P k es h.1)) (λ _. lower-all P k es h.1)

upper-all : (P : Edit → Type 0) (k : List ℕ) (es : List Edit) → All P es → All P (upper k es)
unfolding upper
upper-all P k [] h = tt
upper-all P k (e ∷ es) h = cond_both (less_bytes (spot e) k) (upper k es) (e ∷ upper k es) (All P) (λ _. upper-all P k es h.1) (λ _. (h.0, upper-all P k es h.1))

module _ (w : Entry → ℕ) (cap : ℕ) where
  pub spread-concat : (es : List Edit) (p : Page) (qs : List Page) → All (Fits w cap) qs → Rising (p ++ concat qs) → concat (spread w cap es p qs) ≡ applies es (p ++ concat qs)
  unfolding spread concat
  spread-concat es p [] h r = pieces-concat w cap es p ∙ ap (applies es) (sym (append-nil p))
  spread-concat es p (q ∷ qs) h r =
      concat-append (pieces w cap (lower (first_key q) es) p) (spread w cap (upper (first_key q) es) q qs)
      ∙ ap (λ z. z ++ concat (spread w cap (upper (first_key q) es) q qs)) (pieces-concat w cap (lower (first_key q) es) p)
      ∙ ap (λ z. applies (lower (first_key q) es) p ++ z) (spread-concat (upper (first_key q) es) q qs h.1 (rising-right p (q ++ concat qs) r))
      ∙ sym (applies-cut (first_key q) es p (q ++ concat qs) (under_first p q (concat qs) h.0.1 r) (from_first q (concat qs) h.0.1 (rising-right p (q ++ concat qs) r)))

  pub spread-fit : (es : List Edit) (p : Page) (qs : List Page) → All (Puts (λ (x : Entry). w x ≤ cap)) es → weigh w p ≤ cap → All (Fits w cap) qs → All (Fits w cap) (spread w cap es p qs)
  unfolding spread
  spread-fit es p [] s h t = pieces-fit w cap es p s h
  spread-fit es p (q ∷ qs) s h t =
      All-append (Fits w cap) (pieces w cap (lower (first_key q) es) p) (spread w cap (upper (first_key q) es) q qs)
      (pieces-fit w cap (lower (first_key q) es) p (lower-all (Puts (λ (x : Entry). w x ≤ cap)) (first_key q) es s) h)
      (spread-fit (upper (first_key q) es) q qs (upper-all (Puts (λ (x : Entry). w x ≤ cap)) (first_key q) es s) t.0.0 t.1)

  -- the entries of a level in three parts
  three : (pre l m r post : List Page) → concat (pre ++ (l ++ (m ++ (r ++ post)))) ≡ concat (pre ++ l) ++ (concat m ++ concat (r ++ post))
  three pre l m r post = ap concat (sym (append_assoc pre l (m ++ (r ++ post)))) ∙ concat-append (pre ++ l) (m ++ (r ++ post)) ∙ ap (λ z. concat (pre ++ l) ++ z) (concat-append m (r ++ post))

  joined : (pre l m r post : List Page) → concat (pre ++ (join w cap (l ++ (m ++ r)) ++ post)) ≡ concat (pre ++ (l ++ (m ++ (r ++ post))))
  joined pre l m r post =
      concat-append pre (join w cap (l ++ (m ++ r)) ++ post) ∙ ap (λ z. concat pre ++ z) (concat-append (join w cap (l ++ (m ++ r))) post ∙ ap (λ z. z ++ concat post) (join-concat w cap (l ++ (m ++ r))) ∙ sym (concat-append (l ++ (m ++ r)) post))
      ∙ sym (concat-append pre ((l ++ (m ++ r)) ++ post)) ∙ ap (λ z. concat (pre ++ z)) (append_assoc l (m ++ r) post ∙ ap (λ z. l ++ z) (append_assoc m r post))

pub spreads : (w : Entry → ℕ) (cap : ℕ) (es : List Edit) (p : Page) (qs : List Page) → All (Fits w cap) qs → Rising (concat (p ∷ qs)) → concat (spread w cap es p qs) ≡ applies es (concat (p ∷ qs))
unfolding concat
spreads w cap es p qs h r = spread-concat w cap es p qs h r

pub piecing : PiecesFit
piecing w cap es p s h = (pieces-concat w cap es p, pieces-fit w cap es p s h)

pub level-any : LevelAny
level-any w cap es pre l p ps r post news b c f a ri run fn u v =
    record { same = same; fit = fit; apart = window w cap b c (p ∷ ps) news a; rising = subst Rising (sym same) (applies-rising es (concat (pre ++ (l ++ ((p ∷ ps) ++ (r ++ post))))) ri) }
  where
    F : Page → Type 0
    F = Fits w cap

    f₁ : All F (l ++ (r ++ post))
    f₁ = all_right F pre (l ++ (r ++ post)) f

    f₂ : All F (r ++ post)
    f₂ = all_right F l (r ++ post) f₁

    same : concat (pre ++ (join w cap (l ++ (news ++ r)) ++ post)) ≡ applies es (concat (pre ++ (l ++ ((p ∷ ps) ++ (r ++ post)))))
    same =
        joined w cap pre l news r post ∙ three w cap pre l news r post ∙ ap (λ z. concat (pre ++ l) ++ (z ++ concat (r ++ post))) run
        ∙ sym (applies-mid es (concat (pre ++ l)) (concat (p ∷ ps)) (concat (r ++ post)) u v) ∙ ap (applies es) (sym (three w cap pre l (p ∷ ps) r post))

    fit : All F (pre ++ (join w cap (l ++ (news ++ r)) ++ post))
    fit =
        All-append F pre (join w cap (l ++ (news ++ r)) ++ post) (all_left F pre (l ++ (r ++ post)) f)
        (All-append F (join w cap (l ++ (news ++ r))) post (join-fit w cap (l ++ (news ++ r)) (All-append F l (news ++ r) (all_left F l (r ++ post) f₁) (All-append F news r fn (all_left F r post f₂)))) (all_right F r post f₂))

pub drop-run : (P : Page → Type 0) (a b ps c : List Page) → All P (a ++ (b ++ (ps ++ c))) → All P ps × All P (a ++ (b ++ c))
drop-run P a b ps c h =
    let h₁ = all_right P a (b ++ (ps ++ c)) h in
    let h₂ = all_right P b (ps ++ c) h₁ in
    (all_left P ps c h₂, All-append P a (b ++ c) (all_left P a (b ++ (ps ++ c)) h) (All-append P b c (all_left P b (ps ++ c) h₁) (all_right P ps c h₂)))

pub level-edit : LevelEdit
level-edit w cap es pre l p ps r post b c hp f a ri s u v =
    let t = drop-run (Fits w cap) pre l ps (r ++ post) f in
    let r₁ = rising-left (concat (p ∷ ps)) (concat (r ++ post)) (rising-right (concat (pre ++ l)) (concat (p ∷ ps) ++ concat (r ++ post)) (subst Rising (three w cap pre l (p ∷ ps) r post) ri)) in
    level-any w cap es pre l p ps r post (spread w cap es p ps) b c t.1 a ri (spreads w cap es p ps t.0 r₁) (spread-fit w cap es p ps s hp t.0) u v
