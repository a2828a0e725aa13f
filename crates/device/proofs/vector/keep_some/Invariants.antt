use Rattle.std.proofs.Common.{take}
use Rattle.device.specs.Vector.{KeptSome}
use Rattle.device.proofs.vector.keep_some.Given as goal

abbrev pub invariant-loop-w : goal.invariant-loop-w
invariant-loop-w l = KeptSome l.initial.kept (take l.w-index l.since) l.kept
