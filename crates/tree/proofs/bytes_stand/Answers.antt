use Rattle.tree.proofs.Bytes.{bytes-are}
use Rattle.tree.proofs.bytes_stand.Goals as goal

pub returns : goal.returns
returns c = bytes-are
