-- The entries so far stand in the sector.
use Rattle.std.proofs.Common.{◌≡◌, ℕ, ◌<◌, length, get_or}
use Rattle.shadow.specs.Layout.{raw_in}
use Rattle.pager.proofs.leaves.encode.Given as goal

abbrev pub invariant-loop-k : goal.invariant-loop-k
invariant-loop-k l = record { written : (j : ℕ) → j < l.k → raw_in l.sector j ≡ get_or l.entry-items j 0; long : length l.sector ≡ 512 }
