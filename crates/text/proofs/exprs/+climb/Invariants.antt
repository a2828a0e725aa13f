use Rattle.std.proofs.Common.{◌+◌, ◌*◌}
use Rattle.text.proofs.Turns.{Turning}
use Rattle.text.proofs.exprs.+climb.Given as goal

abbrev pub decreases-bracket : goal.decreases-bracket
decreases-bracket l = 8 * l.left + 4

abbrev pub decreases-queries::condition : goal.decreases-queries::condition
decreases-queries::condition l = 8 * l.left + 1

abbrev pub decreases-count : goal.decreases-count
decreases-count l = 8 * l.left + 2

abbrev pub decreases-existence : goal.decreases-existence
decreases-existence l = 8 * l.left + 4

abbrev pub decreases-expr : goal.decreases-expr
decreases-expr l = 8 * l.left + 0

abbrev pub decreases-queries::exprs : goal.decreases-queries::exprs
decreases-queries::exprs l = 8 * l.left + 1

abbrev pub decreases-fold : goal.decreases-fold
decreases-fold l = 8 * l.left + 2

abbrev pub decreases-folded : goal.decreases-folded
decreases-folded l = 8 * l.left + 1

abbrev pub decreases-further : goal.decreases-further
decreases-further l = 8 * l.left + 1

abbrev pub decreases-queries::groups : goal.decreases-queries::groups
decreases-queries::groups l = 8 * l.left + 2

abbrev pub decreases-keyed : goal.decreases-keyed
decreases-keyed l = 8 * l.left + 5

abbrev pub decreases-queries::keys : goal.decreases-queries::keys
decreases-queries::keys l = 8 * l.left + 1

abbrev pub decreases-negation : goal.decreases-negation
decreases-negation l = 8 * l.left + 1

abbrev pub decreases-operand : goal.decreases-operand
decreases-operand l = 8 * l.left + 6

abbrev pub decreases-queries::orders : goal.decreases-queries::orders
decreases-queries::orders l = 8 * l.left + 2

abbrev pub decreases-queries::question : goal.decreases-queries::question
decreases-queries::question l = 8 * l.left + 3

abbrev pub invariant-expr-loop-turns : goal.invariant-expr-loop-turns
invariant-expr-loop-turns l = Turning l.source.bytes.now l.initial.nodes l.nodes l.level l.initial.turns l.turns l.initial.a l.a
