use Rattle.std.proofs.Common.{◌-◌, length}
use Rattle.text.proofs.Cuts.{Quoting}
use Rattle.text.proofs.tokens.quoted_len.Given as goal

abbrev pub invariant-loop-n : goal.invariant-loop-n
invariant-loop-n l = Quoting l.s l.n

abbrev pub decreases-loop-n : goal.decreases-loop-n
decreases-loop-n l = length l.s - l.n
