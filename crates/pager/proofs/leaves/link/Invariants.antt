use Rattle.pager.specs.Steps.{Owners}
use Rattle.pager.proofs.leaves.link.Given as goal

abbrev pub invariant-loop-p : goal.invariant-loop-p
invariant-loop-p l = Owners l.base l.owner l.p
