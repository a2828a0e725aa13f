use Rattle.std.proofs.Common.{◌+◌, ◌-◌, ◌*◌, get_or, drop, sym, ap, ◌∙◌, arith}
use Rattle.text.specs.Cut.{decimal}
use Rattle.text.proofs.Takes.{decimal-more, decimal-all, decimal-least}
use Rattle.text.proofs.words.value.Goals as goal

pub returns-in_err-checked_mul : goal.returns-in_err-checked_mul
returns-in_err-checked_mul c =
    let ds = c.args.digits.now in
    let more = decimal-more c.loop-digit.value ds c.loop-digit.digit-index c.loop-digit-test.true in
    rw c.from_residual.ensures (omega (arith, c.loop-digit.invariant, more, c.in_err-checked_mul.ensures, decimal-least (10 * c.loop-digit.value + (get_or ds c.loop-digit.digit-index 0 - 48)) (drop (c.loop-digit.digit-index + 1) ds)))

pub returns-in_err-value : goal.returns-in_err-value
returns-in_err-value c =
    let ds = c.args.digits.now in
    let more = decimal-more c.loop-digit.value ds c.loop-digit.digit-index c.loop-digit-test.true in
    rw c.from_residual-in_err-value.ensures (omega (arith, c.loop-digit.invariant, more, c.saturating_sub.ensures, c.in_ok-checked_mul.ensures, c.in_err-value.ensures, decimal-least (10 * c.loop-digit.value + (get_or ds c.loop-digit.digit-index 0 - 48)) (drop (c.loop-digit.digit-index + 1) ds)))

pub loop-digit-preserved : goal.loop-digit-preserved
loop-digit-preserved c =
    let ds = c.args.digits.now in
    ap (λ n. decimal n (drop (c.loop-digit.digit-index + 1) ds)) (omega (arith, c.in_ok-value.ensures, c.in_ok-checked_mul.ensures, c.saturating_sub.ensures)) ∙ sym (decimal-more c.loop-digit.value ds c.loop-digit.digit-index c.loop-digit-test.true) ∙ c.loop-digit.invariant

pub returns : goal.returns
returns c = (sym (decimal-all c.loop-digit.value c.args.digits.now c.loop-digit.digit-index c.loop-digit-test.false) ∙ c.loop-digit.invariant, omega arith)

pub returns-then-value : goal.returns-then-value
returns-then-value c = omega (arith, decimal-all c.loop-digit.value c.args.digits.now c.loop-digit.digit-index c.loop-digit-test.false, c.loop-digit.invariant)
