use Rattle.tree.proofs.Facts.{windows, grows}
use Rattle.tree.proofs.window_stands.Goals as goal

pub returns : goal.returns
returns c = record { apart = windows; grown = grows }
