use Rattle.std.proofs.Common.{rules, ◌+ℤ◌}
use Rattle.values.proofs.Numbers.{checked-is}
use Rattle.values.proofs.Value.plus.Goals as goal

pub returns : goal.returns
returns c = c.computed.ensures ◌+ℤ◌ (λ a b o h. search (rules, checked-is))
