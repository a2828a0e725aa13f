use Rattle.std.proofs.Common.{rules, below_more}
use Rattle.pager.proofs.leaves.differs.Goals as goal

pub loop-k-preserved : goal.loop-k-preserved
loop-k-preserved c = below_more _ c.loop-k.k c.loop-k.invariant (search rules)
