-- The entries so far are the sector's.
use Rattle.std.proofs.Common.{◌≡◌, ℕ, ◌<◌, get_or}
use Rattle.shadow.specs.Layout.{entry_in}
use Rattle.pager.proofs.leaves.load.Given as goal

abbrev pub invariant-loop-k : goal.invariant-loop-k
invariant-loop-k l = (j : ℕ) → j < l.k → get_or l.entry-items j 0 ≡ entry_in l.slots l.sector j
