use Rattle.values.proofs.Unescaping.{columns-read, columns-written}
use Rattle.values.proofs.back.columns_stand.Goals as goal

pub returns : goal.returns
returns c = record { read = columns-read; written = columns-written }
