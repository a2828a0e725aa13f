use Rattle.values.proofs.Rows.{rows-read, rows_written, rows-columns, rows-weigh}
use Rattle.values.proofs.row.rows_stand.Goals as goal

pub returns : goal.returns
returns c = record { read = rows-read; written = rows_written; columns = rows-columns; weigh = rows-weigh }
