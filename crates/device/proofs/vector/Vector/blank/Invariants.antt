-- So many blank sectors.
use Rattle.std.proofs.Common.{◌≡◌, vec_items, vec_len}
use Rattle.device.specs.Vector.{Blanks}
use Rattle.device.proofs.vector.Vector.blank.Given as goal

abbrev pub invariant-loop : goal.invariant-loop
invariant-loop l = (vec_len l.kept ≡ l.counter) × Blanks (vec_items l.kept)
