-- The lines so far were answered with Ok, and are counted.
use Rattle.console.proofs.LineLemmas.{SoFar}
use Rattle.console.proofs.lines.for_each_line.Given as goal

abbrev pub invariant-loop : goal.invariant-loop
invariant-loop g l = goal.F-IsAlwaysCallable g l.answer × SoFar g.F.FnMut l.fn.answer l.answer (g.R.Read.remaining l.initial.input) (g.R.Read.remaining l.input) l.counter
