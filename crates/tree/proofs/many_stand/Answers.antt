use Rattle.tree.proofs.Many.{many-maps, many-rise}
use Rattle.tree.proofs.many_stand.Goals as goal

pub returns : goal.returns
returns c = record { maps = many-maps; rise = many-rise }
