use Rattle.tree.proofs.Change as Change
use Rattle.tree.proofs.Whole as Whole
use Rattle.tree.proofs.writes_few.Goals as goal

pub returns : goal.returns
returns c = record { pages = Change.new-pages; inner = Change.seventeen; leaf = Change.leaf-six; whole = Change.whole-few; touched = Whole.touched-three }
