use Rattle.std.proofs.Common.{◌+◌, ◌*◌}
use Rattle.reading.proofs.printer.Printer.+printing.Given as goal

abbrev pub decreases-expr : goal.decreases-expr
decreases-expr l = 4 * l.left

abbrev pub decreases-query : goal.decreases-query
decreases-query l = 4 * l.left

abbrev pub decreases-within : goal.decreases-within
decreases-within l = 4 * l.left + 1

abbrev pub decreases-query_within : goal.decreases-query_within
decreases-query_within l = 4 * l.left + 1

abbrev pub decreases-list : goal.decreases-list
decreases-list l = 4 * l.left + 1

abbrev pub decreases-both : goal.decreases-both
decreases-both l = 4 * l.left + 2

abbrev pub decreases-condition : goal.decreases-condition
decreases-condition l = 4 * l.left + 2

abbrev pub decreases-item : goal.decreases-item
decreases-item l = 4 * l.left + 2

abbrev pub decreases-question : goal.decreases-question
decreases-question l = 4 * l.left + 3
