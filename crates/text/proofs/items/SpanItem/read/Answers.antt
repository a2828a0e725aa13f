use Rattle.text.proofs.Columns.{name-item}
use Rattle.text.proofs.items.SpanItem.read.Goals as goal

pub returns : goal.returns
returns c = name-item c.args.source.bytes.now c.args.nodes.now _ c.take_name.result c.take_name.ensures
