use Rattle.meaning.proofs.Sound.{stays-sound, blank-sound}
use Rattle.meaning.proofs.Connections.{connection-stays-sound}
use Rattle.meaning.proofs.tables_stay_sound.Goals as goal

pub returns : goal.returns
returns c = record { stays = stays-sound; blank = blank-sound; connection = connection-stays-sound }
