use Rattle.std.proofs.Common.{◌∙◌}
use Rattle.values.proofs.Ordered.{less-is}
use Rattle.values.proofs.Value.less.Goals as goal

pub returns : goal.returns
returns c = c.lt.ensures ∙ less-is c.args.self c.args.other
