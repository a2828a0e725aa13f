use Rattle.tree.proofs.Down as Down
use Rattle.tree.proofs.Replace.{stands-stored}
use Rattle.tree.proofs.ways_stand.Goals as goal

pub returns : goal.returns
returns c = record { stored = stands-stored; reaches = Down.down-reaches; under = Down.down-under; exact = Down.down-exact; names = Down.names_apart; before = Down.down-before }
