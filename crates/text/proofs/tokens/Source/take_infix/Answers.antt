use Rattle.text.proofs.Takes as takes
use Rattle.text.proofs.tokens.Source.take_infix.Goals as goal

pub returns-in-Some : goal.returns-in-Some
returns-in-Some c = (takes.or-joint _ c.in-Some.ensures.0, c.in-Some.ensures.1)

pub returns-in_err-after : goal.returns-in_err-after
returns-in_err-after c = rw c.from_residual-in_err-after.ensures (takes.other-joint c.args.self.bytes.now c.args.at.tok c.args.at.rest c.in_default.not-Sign c.in_default-take_key.ensures c.in_err-after.ensures)

pub returns : goal.returns
returns c = (takes.and-joint _ c.in_ok-after.ensures.0, c.in_ok-after.ensures.1)
