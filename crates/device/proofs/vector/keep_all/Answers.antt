use Rattle.std.proofs.Common.{rules}
use Rattle.device.proofs.Since.{kept_more}
use Rattle.device.proofs.vector.keep_all.Goals as goal

pub loop-w-preserved : goal.loop-w-preserved
loop-w-preserved c = kept_more _ _ _ _ (search rules) (search rules) _ _ c.keep.ensures c.loop-w.invariant
