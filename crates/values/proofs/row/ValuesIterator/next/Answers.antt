use Rattle.std.proofs.Common.{sym}
use Rattle.values.specs.Row.{seen}
use Rattle.values.proofs.Rows.{front-shorter}
use Rattle.values.proofs.row.ValuesIterator.next.Goals as goal

pub returns-clause-goes : goal.returns-clause-goes
returns-clause-goes c = record { on = λ f. (tt, tt, front-shorter c.args.self.now.rest.now (seen c.in_ok-value.field-0) (sym c.in_ok-value.ensures)); keeps = tt; rests = λ f. tt }
