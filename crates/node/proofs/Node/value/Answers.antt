use Rattle.std.proofs.Common.{◌≡◌, ◌+◌, refl, ap, ◌∙◌, arith}
use Rattle.octets.specs.Parts.{pair}
use Rattle.node.specs.Node.{start_of}
use Rattle.node.proofs.Places.{placed, value-is}
use Rattle.node.proofs.Node.value.Goals as goal

pub returns : goal.returns
returns c = λ n h l.
    let page = c.args.self.page.now in
    let p = placed page n c.args.i h l in
    let s : c.start_of-start.result ≡ start_of page c.args.i = c.start_of-start.ensures.is (omega arith) in
    let k : c.key_len.result ≡ pair page c.start_of-start.result = c.key_len.ensures.is in
    let j : c.saturating_add.result ≡ c.args.i + 1 = omega (arith, c.saturating_add.ensures) in
    let e : c.start_of-end.result ≡ start_of page c.saturating_add.result = c.start_of-end.ensures.is (omega arith) in
    value-is page c.part_of.result.now c.args.i c.start_of-start.result c.key_len.result c.start_of-end.result _ c.saturating_sub.result
    s (k ∙ ap (pair page) s) (e ∙ ap (start_of page) j) refl c.saturating_sub.ensures c.part_of.ensures
