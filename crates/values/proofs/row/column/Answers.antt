use Rattle.values.proofs.Rows.{nth-is}
use Rattle.values.proofs.row.column.Goals as goal

pub returns : goal.returns
returns c = let e = c.nth.ensures.ran in nth-is c.args.index (record { rest = c.args.row }) c.nth.new.self e.0 c.nth.result e.1 e.2
