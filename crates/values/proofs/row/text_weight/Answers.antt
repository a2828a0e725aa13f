use Rattle.values.proofs.Numbers.{bytes-from}
use Rattle.values.proofs.row.text_weight.Goals as goal

pub returns-clause-bytes : goal.returns-clause-bytes
returns-clause-bytes c = bytes-from c.args.text.now c.type_inv.text
