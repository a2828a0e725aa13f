use Rattle.std.proofs.Common.{ap, ◌∙◌, arith}
use Rattle.std.specs.Bool.{then_some}
use Rattle.values.proofs.Rows.{count-taken, count-ends}
use Rattle.values.proofs.row.columns.Goals as goal

pub loop-count-preserved : goal.loop-count-preserved
loop-count-preserved c =
    let t = count-taken c.loop-count.count c.loop-count.values.rest.now c.next.new.self.rest.now c.next.result c.next.ensures.steps c.loop-count-test.ensures in
    (t.0 ∙ c.loop-count.invariant.0, omega arith)

pub returns : goal.returns
returns c =
    c.then_some.ensures
    ∙ ap (λ t. then_some t c.loop-count.count) c.is_empty.ensures
    ∙ count-ends c.loop-count.count c.loop-count.values.rest.now c.next.new.self.rest.now c.next.result c.next.ensures.steps c.loop-count-test.ensures
    ∙ c.loop-count.invariant.0
