use Rattle.std.proofs.Common.{◌+◌, ◌-◌, ◌/◌, ◌<◌, sym, ◌∙◌, arith}
use Rattle.node.proofs.Halving.{under_more, from_more}
use Rattle.node.proofs.halve.Goals as goal

pub loop-low-preserved-then-test : goal.loop-low-preserved-then-test
loop-low-preserved-then-test g c =
    let m = c.loop-low.low + (c.loop-low.high - c.loop-low.low) / 2 in
    let b : m < c.args.n = omega arith in (
      omega arith,
      omega arith,
      λ f t s. (under_more c.args.n m f s b (sym (t m c.test.result b c.test.ensures) ∙ c.if-test.true), (c.loop-low.invariant.2 f t s).1),
    )

pub loop-low-preserved : goal.loop-low-preserved
loop-low-preserved g c =
    let m = c.loop-low.low + (c.loop-low.high - c.loop-low.low) / 2 in
    let b : m < c.args.n = omega arith in (
      omega arith,
      omega arith,
      λ f t s. ((c.loop-low.invariant.2 f t s).0, from_more c.args.n m f s b (sym (t m c.test.result b c.test.ensures) ∙ c.if-test.false)),
    )

pub returns : goal.returns
returns g c = λ f t s.
    record {
      few = omega arith;
      under = (c.loop-low.invariant.2 f t s).0;
      from = λ i h l. (c.loop-low.invariant.2 f t s).1 i (omega arith) l;
    }
