use Rattle.tree.proofs.Rise.{heads-rise, new-level, trim-stands}
use Rattle.tree.proofs.Change.{raised-puts, splice}
use Rattle.tree.proofs.levels_rise.Goals as goal

pub returns : goal.returns
returns c = record { heads = heads-rise; puts = raised-puts; splice = splice; new_level = new-level; trim = trim-stands }
