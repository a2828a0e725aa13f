use Rattle.tree.proofs.Change as Change
use Rattle.tree.proofs.Whole as Whole
use Rattle.tree.proofs.Replace.{replace-is, replace-grown}
use Rattle.tree.proofs.changes_stand.Goals as goal

pub returns : goal.returns
returns c = record { leaf = Change.leaf-change; replaced = replace-is; grown = replace-grown; first = Change.first-change; entry = Change.enters-takes; run = Change.run-belongs; climb = Change.climb-links; top = Change.top-links; whole = Whole.whole-change; whole_first = Whole.whole-first }
