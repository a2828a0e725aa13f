use Rattle.tree.proofs.Spread.{piecing, level-edit, level-any}
use Rattle.tree.proofs.edits_stand.Goals as goal

pub returns : goal.returns
returns c = record { pieces = piecing; level = level-edit; any = level-any }
