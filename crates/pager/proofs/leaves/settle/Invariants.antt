-- What the flags so far say is done.
use Rattle.std.proofs.Common.{◌≡◌, ℕ, ◌/◌, ◌<◌, ◌≤◌, false, cond, get_or}
use Rattle.pager.proofs.leaves.settle.Given as goal

abbrev pub invariant-loop-i : goal.invariant-loop-i
invariant-loop-i l =
    ((p : ℕ) → p / 64 < l.i → get_or l.out p 0 ≡ cond (get_or l.flags (p / 64) false) (get_or l.from p 0) (get_or l.initial.out p 0))
    × ((p : ℕ) → l.i ≤ p / 64 → get_or l.out p 0 ≡ get_or l.initial.out p 0)
