use Rattle.tree.proofs.Witness.{witness, changed}
use Rattle.tree.proofs.witness_stands.Goals as goal

pub returns : goal.returns
returns c = record { witness = witness; changed = changed }
