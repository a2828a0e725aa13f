use Rattle.std.proofs.Common.{arith, rules}
use Rattle.text.proofs.Cuts.{quoting-none, quoting-one, quoting-two, quoting-end, quoting-all}
use Rattle.text.proofs.tokens.quoted_len.Goals as goal
use Rattle.text.proofs.tokens.quoted_len.Goals.{else-n-s-via-then-n-s+else-s-n-eq39, else-n-s-via-else-n-s}

pub loop-n-init : goal.loop-n-init
loop-n-init c = quoting-none _

pub loop-n-preserved-then-s-n-ne39 : goal.loop-n-preserved-then-s-n-ne39
loop-n-preserved-then-s-n-ne39 c = quoting-one _ _ c.loop-n.invariant (omega arith) (search rules) (search rules)

pub loop-n-preserved : goal.loop-n-preserved
loop-n-preserved c = quoting-two _ _ c.loop-n.invariant (omega arith) (search rules) (search rules)

pub returns-else-n-s : goal.returns-else-n-s
returns-else-n-s c = (
  c.loop-n-test.true,
  quoting-end _ _ c.loop-n.invariant c.loop-n-test.true c.if-s-n-ne39.false
      (λ l e. elim c.else-n-s.branch [ else-n-s-via-then-n-s+else-s-n-eq39 w ↦ w.if-s-n-eq39.false e | else-n-s-via-else-n-s w ↦ omega (arith, w.if-n-s.false) ]),
)

pub returns : goal.returns
returns c = quoting-all _ _ c.loop-n.invariant (omega arith)
