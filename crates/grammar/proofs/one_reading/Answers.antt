use Rattle.grammar.proofs.Whole.{one}
use Rattle.grammar.proofs.one_reading.Goals as goal

pub returns : goal.returns
returns c = one
