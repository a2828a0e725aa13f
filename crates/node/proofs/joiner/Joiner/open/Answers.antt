use Rattle.std.proofs.Common.{◌≡◌, ◌+◌, ◌<◌, [], ◌∷◌, ◌++◌, length, set, vec_items, sym, ap, ◌∙◌, arith}
use Rattle.node.specs.Joiner.{Made, pages_to}
use Rattle.node.proofs.Making.{pages-set, length-pages, no-entries}
use Rattle.node.proofs.joiner.Joiner.open.Goals as goal

pub returns-then-at-len : goal.returns-then-at-len
returns-then-at-len c = (ap (λ (m : Made). length m.pages) (sym c.self.view_is) ∙ length-pages (vec_items c.self.inside.pages) c.self.inside.len ∙ omega (arith, c.len.ensures), cc)

pub returns : goal.returns
returns c =
    let j = c.self.inside in
    let ps = vec_items j.pages in
    let n = j.len in
    let x = c.clear.new.page in
    let h : n < length ps = omega (arith, j.pages.ok.0, c.len.ensures, c.if-at-len.false) in
    let one : pages_to (set ps n x) (n + 1) ≡ pages_to ps n ++ ([] ∷ []) = pages-set ps n x h ∙ ap (λ q. pages_to ps n ++ (q ∷ [])) (no-entries j.level x c.clear.ensures) in
    (ap (λ (m : Made). m.level) c.self.view_is, one ∙ ap (λ (m : Made). m.pages ++ ([] ∷ [])) c.self.view_is)
