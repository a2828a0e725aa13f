use Rattle.std.proofs.Common.{ap, ◌∙◌}
use Rattle.values.specs.Meant.{truth_of}
use Rattle.values.proofs.Ordered.{max-is}
use Rattle.values.proofs.Truth.or.Goals as goal

pub returns : goal.returns
returns c = ap truth_of c.max.ensures ∙ max-is c.args.self c.args.other
