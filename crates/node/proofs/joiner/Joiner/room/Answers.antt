use Rattle.std.proofs.Common.{◌≡◌, ◌-◌, ◌<◌, ◌≤◌, [], length, get_or, vec_items, sym, ap, ◌∙◌, arith}
use Rattle.std.proofs.lemmas.List.{get_or_default}
use Rattle.node.specs.Joiner.{Made, spare}
use Rattle.node.proofs.Making.{spare-none, no-pages, formed-page, spare-page}
use Rattle.node.proofs.joiner.Joiner.room.Goals as goal

pub returns-then-len-eq0 : goal.returns-then-len-eq0
returns-then-len-eq0 c = sym (ap (λ (m : Made). spare m.pages) (sym c.self.view_is) ∙ ap spare (no-pages (vec_items c.self.inside.pages) c.self.inside.len c.if-len-eq0.true) ∙ spare-none)

pub returns : goal.returns
returns c =
    let j = c.self.inside in
    let ps = vec_items j.pages in
    let len = j.len in
    let some : 0 < len = omega (arith, c.if-len-eq0.false) in
    let there : len ≤ length ps = omega (arith, j.pages.ok.0, c.self.invariant.few, c.self.invariant.all) in
    let is : c.index.result.now ≡ get_or ps (len - 1) [] = c.index.ensures ∙ get_or_default ps (len - 1) c.index.result.now [] (omega arith) in
    let f = formed-page ps len [] [] c.index.result.now [] some there is c.self.invariant.sound in
    c.saturating_sub.ensures ∙ ap (λ x. 4088 - x) (c.used.ensures f) ∙ sym (spare-page ps len [] [] c.index.result.now [] some there is c.self.invariant.sound) ∙ ap (λ (m : Made). spare m.pages) c.self.view_is
