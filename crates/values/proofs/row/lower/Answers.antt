use Rattle.std.proofs.Common.{arith}
use Rattle.values.proofs.Writing.{lower-is}
use Rattle.values.proofs.row.lower.Goals as goal

pub returns : goal.returns
returns c = lower-is c.args.n (omega arith)
