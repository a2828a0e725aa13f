use Rattle.text.proofs.Takes as takes
use Rattle.text.proofs.tokens.Source.take_number.Goals as goal

pub returns-in_default : goal.returns-in_default
returns-in_default c = takes.number-none c.args.self.bytes.now c.args.at.tok c.args.at.rest c.in_default.not-Number

pub returns-in_err-value : goal.returns-in_err-value
returns-in_err-value c = rw c.from_residual.ensures (takes.number-big c.args.self.bytes.now c.args.at _ _ c.in-Number.is c.bytes_of.ensures c.in_err-value.ensures)

pub returns : goal.returns
returns c = takes.number-taken c.args.self.bytes.now c.args.at _ _ _ _ c.in-Number.is c.bytes_of.ensures c.in_ok-value.ensures.0 c.in_ok-value.ensures.1 c.next.ensures
