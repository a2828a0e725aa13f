-- The level's edit as a function.
use Rattle.std.proofs.Common.{◌≡◌, List, [], ◌∷◌, ◌++◌, length, sym, refl, ap, ◌∙◌, subst, append_assoc, arith}
use Rattle.std.specs.List.{AllByRecursion as All}
use Rattle.tree.specs.Entries.{Under, Above, Edit, spot}
use Rattle.tree.specs.Pages.{Page, concat, Apart, Beside, none, one, spread}
use Rattle.tree.specs.Change.{lasts, fronts, firsts, rests, replace}
use Rattle.tree.specs.Tree.{Node, top}
use Rattle.tree.specs.Laws.{ReplaceIs, ReplaceGrown, StandsStored}
use Rattle.tree.proofs.Window.{grown-same}
use Rattle.tree.proofs.Spread.{spreads, spread-fit}

last-beside : (a : List Page) → Beside (fronts a) (lasts a)
unfolding fronts lasts
last-beside [] = none
last-beside (x ∷ []) = one [] x
last-beside (x ∷ y ∷ ys) = more x (fronts (y ∷ ys)) (lasts (y ∷ ys)) (last-beside (y ∷ ys)) (some y ys)
  where
    some : (y : Page) (ys : List Page) → (l : Page) × (lasts (y ∷ ys) ≡ l ∷ [])
    some y [] = (y, refl)
    some y (z ∷ zs) = some z zs

    more : (x : Page) (o l : List Page) → Beside o l → ((m : Page) × (l ≡ m ∷ [])) → Beside (x ∷ o) l
    more x o l b e = subst (Beside (x ∷ o)) (sym e.1) (one (x ∷ o) e.0)

last-whole : (a : List Page) → fronts a ++ lasts a ≡ a
unfolding fronts lasts
last-whole [] = refl
last-whole (x ∷ []) = refl
last-whole (x ∷ y ∷ ys) = ap (λ z. x ∷ z) (last-whole (y ∷ ys))

first-beside : (z : List Page) → Beside (rests z) (firsts z)
unfolding firsts rests
first-beside [] = none
first-beside (x ∷ xs) = one xs x

first-whole : (z : List Page) → firsts z ++ rests z ≡ z
unfolding firsts rests
first-whole [] = refl
first-whole (x ∷ xs) = refl

pub replace-is : ReplaceIs
unfolding replace
replace-is w cap es a p ps z h f r s u v =
    record {
      before = fronts a;
      left = lasts a;
      page = p;
      run = ps;
      right = firsts z;
      after = rests z;
      leftmost = last-beside a;
      rightmost = first-beside z;
      low = subst (λ y. All (λ (e : Edit). Under (spot e) (concat y)) es) (sym (last-whole a)) u;
      high = subst (λ y. All (λ (e : Edit). Above (spot e) (concat y)) es) (sym (first-whole z)) v;
      was = ap (λ y. y ++ ((p ∷ ps) ++ z)) (sym (last-whole a)) ∙ append_assoc (fronts a) (lasts a) ((p ∷ ps) ++ z) ∙ ap (λ y. fronts a ++ (lasts a ++ ((p ∷ ps) ++ y))) (sym (first-whole z));
      news = spread w cap es p ps;
      fits = spread-fit w cap es p ps s h f;
      holds = spreads w cap es p ps f r;
      now = refl;
    }

pub replace-grown : ReplaceGrown
unfolding replace
replace-grown w cap es a p ps z h g =
    let d : a ++ ((p ∷ ps) ++ z) ≡ fronts a ++ (lasts a ++ ((p ∷ ps) ++ (firsts z ++ rests z))) = ap (λ y. y ++ ((p ∷ ps) ++ z)) (sym (last-whole a)) ∙ append_assoc (fronts a) (lasts a) ((p ∷ ps) ++ z) ∙ ap (λ y. fronts a ++ (lasts a ++ ((p ∷ ps) ++ y))) (sym (first-whole z)) in
    let s : List Page = spread w cap es p ps in
    ap (λ y. fronts a ++ (y ++ rests z)) (grown-same w cap (fronts a) (lasts a) (p ∷ ps) s (firsts z) (rests z) g (subst (Apart w cap) d h))
    ∙ ap (λ y. fronts a ++ y) (append_assoc (lasts a) (s ++ firsts z) (rests z) ∙ ap (λ y. lasts a ++ y) (append_assoc s (firsts z) (rests z)))
    ∙ sym (append_assoc (fronts a) (lasts a) (s ++ (firsts z ++ rests z))) ∙ ap (λ y. y ++ (s ++ (firsts z ++ rests z))) (last-whole a) ∙ ap (λ y. a ++ (s ++ y)) (first-whole z)

one-node : (ns : List Node) → length ns ≡ 1 → (n : Node) × (ns ≡ n ∷ [])
one-node [] e = absurd (omega arith)
one-node (n ∷ []) e = (n, refl)
one-node (n ∷ m ∷ ns) e = absurd (omega arith)

pub stands-stored : StandsStored
unfolding top
stands-stored store w cap m below [] s t u = let r = one-node below s in (r.0, (t, r.1), r.1)
stands-stored store w cap m below (ns ∷ more) s t u = let r = stands-stored store w cap m ns more s.4 u.0 u.1 in (r.0, (t, s.2, r.1), r.2)
