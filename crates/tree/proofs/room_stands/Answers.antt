use Rattle.tree.proofs.Room.{stands-sized, room_says}
use Rattle.tree.proofs.room_stands.Goals as goal

pub returns : goal.returns
returns c = record { sized = stands-sized; says = room_says }
