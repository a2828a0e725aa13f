use Rattle.std.proofs.Common.{◌∙◌}
use Rattle.values.proofs.Ordered.{same-is}
use Rattle.values.proofs.Value.same.Goals as goal

pub returns : goal.returns
returns c = c.eq.ensures ∙ same-is c.args.self c.args.other
