use Rattle.tree.proofs.Down as Down
use Rattle.tree.proofs.seeks_stand.Goals as goal

pub returns : goal.returns
returns c = record { from = Down.seek-from; before = Down.seek-before; leaf = Down.seek-leaf }
