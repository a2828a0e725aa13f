use Rattle.tree.proofs.Bound as Bound
use Rattle.tree.proofs.Change.{space-1226}
use Rattle.tree.proofs.bounds_stand.Goals as goal

pub returns : goal.returns
returns c = record { leaf = Bound.leaf-bound; inner = λ w cap m k. Bound.level-bound w cap m k; tree = λ w cap m k. Bound.tree-bound w cap m k; space = Bound.space-bound; height = λ w cap m k. Bound.height_bound w cap m k; here = space-1226 }
