use Rattle.std.proofs.Common.{take}
use Rattle.device.specs.Vector.{KeptAll}
use Rattle.device.proofs.vector.keep_all.Given as goal

abbrev pub invariant-loop-w : goal.invariant-loop-w
invariant-loop-w l = KeptAll l.initial.kept (take l.w-index l.since) l.kept
