use Rattle.grammar.proofs.Whole.{tell}
use Rattle.grammar.proofs.can_tell.Goals as goal

pub returns : goal.returns
returns c = tell
