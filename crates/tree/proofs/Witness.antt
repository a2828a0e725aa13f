-- It stands.
use Rattle.std.proofs.Common.{◌≤◌, List, [], ◌∷◌, ◌++◌, refl, arith}
use Rattle.std.specs.List.{AllByRecursion as All}
use Rattle.meaning.specs.Value.{less_bytes}
use Rattle.tree.specs.Entries.{Entry, first_key, enter, take_out, spot, apply, applies, edited, lower, upper}
use Rattle.tree.specs.Pages.{Page, weigh, concat, joins, join, kept, segments, parts, spread}
use Rattle.tree.specs.Tree.{Node, heads, pages, dels, puts, raised, Linked, top}
use Rattle.tree.specs.Change.{Replaced, Climbs, rises, ends, as_is, lasts, fronts, firsts, rests, replace}
use Rattle.tree.specs.Witness.{w, Witness, Changed, leaf, leaves, tops, more, second, leaves', tops'}
use Rattle.tree.proofs.Replace.{replace-is}
use Rattle.tree.proofs.Whole.{whole-change}

pub witness : Witness
unfolding less_bytes first_key weigh concat heads pages
witness = (
  record {
    fit = ((omega arith, omega arith), ((omega arith, omega arith), ((omega arith, omega arith), tt)));
    apart = (omega arith, (omega arith, tt));
    rising = ((refl, (refl, tt)), ((refl, tt), (tt, tt)));
  },
  (
    record { fit = ((omega arith, omega arith), tt); apart = tt; rising = ((refl, (refl, tt)), ((refl, tt), (tt, tt))) },
    (omega arith, (omega arith, (omega arith, tt))),
    refl,
    omega arith,
    refl,
  ),
)

leaf-replaced : Replaced w 12 (more ∷ []) (pages leaves) (pages leaves')
unfolding less_bytes first_key enter take_out spot apply applies edited lower upper weigh concat joins join kept segments parts spread lasts fronts firsts rests replace heads pages dels puts
leaf-replaced =
    replace-is w 12 (more ∷ []) ((leaf 0 1).items ∷ []) (leaf 1 2).items [] ((leaf 2 3).items ∷ []) (omega arith) tt (tt, tt) (omega arith, tt) ((refl, tt), tt) ((refl, tt), tt)

top-replaced : Replaced w 12 (raised (leaf 1 2 ∷ []) (second ∷ [])) (pages tops) (pages tops')
unfolding less_bytes first_key enter take_out spot apply applies edited lower upper weigh concat joins join kept segments parts spread lasts fronts firsts rests replace heads pages dels puts
top-replaced =
    replace-is w 12 (raised (leaf 1 2 ∷ []) (second ∷ [])) [] (page_of tops) [] [] (omega arith) tt ((refl, (refl, tt)), ((refl, tt), (tt, tt))) (tt, (omega arith, tt)) (tt, (tt, tt)) (tt, (tt, tt))
  where
    page_of : List Node → Page
    page_of [] = []
    page_of (n ∷ ns) = n.items

climbs : Climbs w 12 3 leaves leaves' (tops ∷ []) (tops' ∷ [])
climbs = rises (leaf 0 1 ∷ []) (leaf 1 2 ∷ []) (second ∷ []) (leaf 2 3 ∷ []) tops tops' [] [] small top-replaced (ends tops tops')
  where
    small : All (λ (x : Entry). w x ≤ 3) (heads ((leaf 0 1 ∷ []) ++ ((second ∷ []) ++ (leaf 2 3 ∷ []))))
    small = unfold heads first_key in (omega arith, (omega arith, (omega arith, tt)))

linked : Linked w 12 3 leaves (tops ∷ [])
linked = let s = witness.1 in (s.0, s.1, s.2, tt)

pub changed : Changed
changed = (leaf-replaced, climbs, whole-change w w 12 3 (omega arith) (more ∷ []) leaves leaves' (tops ∷ []) (tops' ∷ []) (tops' ∷ []) witness.0 linked leaf-replaced climbs (as_is (tops' ∷ [])) (omega arith) (unfold top in refl))
