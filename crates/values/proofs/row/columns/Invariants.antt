use Rattle.std.proofs.Common.{◌≡◌, ◌+◌, ◌≤◌, List, length}
use Rattle.std.specs.Option.{option_map}
use Rattle.meaning.specs.Value.{Value}
use Rattle.values.specs.Row.{row_of}
use Rattle.values.proofs.row.columns.Given as goal

-- what is left, with the columns so far, counts the same; each column took a byte at least
abbrev pub invariant-loop-count : goal.invariant-loop-count
invariant-loop-count l =
    (option_map (λ (vs : List Value). l.count + length vs) (row_of l.values.rest.now) ≡ option_map (λ (vs : List Value). length vs) (row_of l.bytes)) ×
    (l.count + length l.values.rest.now ≤ length l.bytes)

abbrev pub decreases-loop-count : goal.decreases-loop-count
decreases-loop-count l = length l.values.rest.now
