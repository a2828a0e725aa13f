use Rattle.std.proofs.Common.{◌≡◌, ◌-◌, ◌<◌, ◌≤◌, [], length, get_or, set, vec_items, sym, refl, subst, ap, ◌∙◌, arith}
use Rattle.std.proofs.lemmas.List.{get_or_default}
use Rattle.std.specs.Vec.{with_item}
use Rattle.node.specs.Node.{lies}
use Rattle.node.specs.Joiner.{Made, PushedBy, pages_to, spare}
use Rattle.node.proofs.Making.{spare-none, no-pages, put-back, pushed-on, formed-page}
use Rattle.node.proofs.joiner.Joiner.push_on.Goals as goal

pub returns : goal.returns
returns c =
    let j = c.self.inside in
    let ps = vec_items j.pages in
    let len = j.len in
    let some : 0 < len = omega (arith, c.if-len-eq0.false) in
    let there : len ≤ length ps = omega (arith, j.pages.ok.0, c.self.invariant.few, c.self.invariant.all) in
    let is : c.index_mut.result.now ≡ get_or ps (len - 1) [] = c.index_mut.ensures.value ∙ get_or_default ps (len - 1) c.index_mut.result.now [] (omega arith) in
    let f = formed-page ps len c.args.entry.key.now c.args.entry.value.now c.index_mut.result.now c.push.new.page some there is c.self.invariant.sound in
    let p = pushed-on ps len c.args.entry.key.now c.args.entry.value.now c.index_mut.result.now c.push.new.page some there is c.self.invariant.sound c.push.result (c.push.ensures f) in
    subst (λ (m : Made). PushedBy m (lies c.args.entry) c.push.result (record { level = j.level; pages = pages_to (set ps (len - 1) c.push.new.page) len; memory = with_item j.pages (len - 1) c.push.new.page })) c.self.view_is
    (record { pages = (refl, p.pages); stayed = λ z i. record { level = j.level; pages = pages_to (p.stays z i) len; memory = put-back j.pages (len - 1) c.push.new.page (p.stays z) i }; crowded = p.crowd })

pub returns-then-len-eq0 : goal.returns-then-len-eq0
returns-then-len-eq0 c =
    let none : spare c.args.self.now.pages ≡ 0 = ap (λ (m : Made). spare m.pages) (sym c.self.view_is) ∙ ap spare (no-pages (vec_items c.self.inside.pages) c.self.inside.len c.if-len-eq0.true) ∙ spare-none in
    record { pages = (refl, refl); stayed = λ z. refl; crowded = λ z. omega arith }
