use Rattle.std.proofs.Common.{◌+◌, take, sym, subst, rules}
use Rattle.device.specs.Vector.{KeptSome}
use Rattle.device.proofs.Since.{some_more, some-same}
use Rattle.device.proofs.vector.keep_some.Goals as goal
use Rattle.device.proofs.vector.keep_some.Goals.{then-state-eq1, else-state-eq1}

pub loop-w-preserved : goal.loop-w-preserved
loop-w-preserved c =
    let ws = take (c.loop-w.w-index + 1) c.args.since.now in
    elim c.if-state-eq1.branch [
      | then-state-eq1 w ↦ subst (KeptSome c.args.kept.now ws) (sym w.kept-is) (some_more _ _ _ _ (search rules) (search rules) _ _ w.keep.ensures c.loop-w.invariant)
      | else-state-eq1 w ↦ subst (KeptSome c.args.kept.now ws) (sym w.kept-is) (some-same c.args.kept.now c.args.since.now c.loop-w.w-index (search rules) _ c.loop-w.invariant)
    ]
