use Rattle.std.proofs.Common.{◌≡◌, ◌+◌, cond, ltb, is_ok, [], ◌∷◌, ◌++◌, length, ap, ◌∙◌, arith}
use Rattle.node.specs.Node.{lies}
use Rattle.node.specs.Joiner.{spare}
use Rattle.node.proofs.Making.{was-pushed, joined_by, joined-ok}
use Rattle.node.proofs.joiner.Joiner.add.Goals as goal

pub returns : goal.returns
returns c = λ h.
    let p = c.push_on.ensures in
    let e = lies c.args.entry in
    let m = c.args.self.now in
    let n = c.reserve.new.self in
    let k = c.push_on.new.self in
    let ok = is_ok c.push_on.result in
    let w : c.saturating_add.result ≡ 4 + (length c.args.entry.key.now + length c.args.entry.value.now) = omega (arith, c.saturating_add-len.ensures, c.saturating_add.ensures) in
    let q = c.in_ok-reserve.ensures.1 ∙ ap (λ y. cond (ltb (spare m.pages) y) (m.pages ++ ([] ∷ [])) m.pages) w in
    let t = was-pushed m.pages n.pages k.pages e ok h q p.pages.1 p.crowded in
    let joined = joined_by m.pages n.pages k.pages e ok h q p.pages.1 p.crowded in
    joined-ok m (e ∷ []) c.push_on.result k t (p.pages.0 ∙ c.in_ok-reserve.ensures.0, joined)
