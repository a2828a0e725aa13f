use Rattle.std.proofs.Common.{◌≡◌, ◌-◌, ◌*◌, sym, ap, ◌∙◌, arith}
use Rattle.octets.specs.Parts.{pair}
use Rattle.node.specs.Node.{start_of}
use Rattle.node.proofs.Places.{start_first, start-later}
use Rattle.node.proofs.Node.start_of.Goals as goal

pub returns-then-i-eq0-clause-is : goal.returns-then-i-eq0-clause-is
returns-then-i-eq0-clause-is c = λ h. sym (ap (start_of c.args.self.page.now) c.if-i-eq0.true ∙ start_first c.args.self.page.now)

pub returns-clause-is : goal.returns-clause-is
returns-clause-is c = λ h.
    let e : c.saturating_sub.result ≡ 4096 - 2 * c.args.i = omega (arith, c.saturating_mul.ensures, c.saturating_sub.ensures) in
    c.into.ensures ∙ c.get_u16.ensures ∙ ap (pair c.args.self.page.now) e ∙ sym (start-later c.args.self.page.now c.args.i (omega arith))
