-- The test holds of all before low, and fails of all from high on.
use Rattle.std.proofs.Common.{◌≡◌, ℕ, ◌-◌, ◌<◌, ◌≤◌, Bool, true, false}
use Rattle.node.specs.Look.{Tells, Falls}
use Rattle.node.proofs.halve.Given as goal

abbrev pub invariant-loop-low : goal.invariant-loop-low
invariant-loop-low g l =
    (l.low ≤ l.high)
    × (l.high ≤ l.n)
    × ((f : ℕ → Bool) → Tells (goal.F-post g l.test) l.n f → Falls l.n f → ((i : ℕ) → i < l.low → f i ≡ true) × ((i : ℕ) → l.high ≤ i → i < l.n → f i ≡ false))

abbrev pub decreases-loop-low : goal.decreases-loop-low
decreases-loop-low g l = l.high - l.low
