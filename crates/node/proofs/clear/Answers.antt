use Rattle.node.proofs.Adding.{cleared}
use Rattle.node.proofs.clear.Goals as goal

pub returns : goal.returns
returns c = cleared c.args.level c.saturating_add.result c.args.page.now c.fill_zero.new.out c.told-page c.fill_zero.ensures c.saturating_add.ensures
