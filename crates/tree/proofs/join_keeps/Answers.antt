use Rattle.tree.proofs.Joins.{join-concat, join_apart, join-fit, join-same}
use Rattle.tree.proofs.join_keeps.Goals as goal

pub returns : goal.returns
returns c w cap ps = (join-concat w cap ps, join_apart w cap ps, join-fit w cap ps, join-same w cap ps)
