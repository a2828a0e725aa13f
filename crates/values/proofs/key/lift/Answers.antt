use Rattle.values.proofs.Writing.{lift-is}
use Rattle.values.proofs.key.lift.Goals as goal

pub returns : goal.returns
returns c = lift-is c.args.n c.ranges.n
