use Rattle.std.proofs.Common.{ap, ◌∙◌}
use Rattle.values.specs.Meant.{truth_of}
use Rattle.values.proofs.Ordered.{min-is}
use Rattle.values.proofs.Truth.and.Goals as goal

pub returns : goal.returns
returns c = ap truth_of c.min.ensures ∙ min-is c.args.self c.args.other
