-- The parts so far hold no line feed, and are counted.
use Rattle.console.proofs.LineLemmas.{PartsRead}
use Rattle.console.proofs.lines.read_line.Given as goal

abbrev pub invariant-loop : goal.invariant-loop
invariant-loop g l = PartsRead (g.R.Read.remaining l.initial.input) (g.R.Read.remaining l.input) l.line.items l.any l.counter
