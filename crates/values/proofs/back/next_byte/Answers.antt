use Rattle.std.proofs.Common.{sym, subst, ◌∙◌, arith}
use Rattle.values.specs.Back.{Steps}
use Rattle.values.proofs.Unescaping.{nothing-stands, byte-stands, zero-stands, cut-stands, end-stands, zero-goes-on, broken-stands}
use Rattle.values.proofs.back.next_byte.Goals as goal

pub returns-in_err-byte : goal.returns-in_err-byte
returns-in_err-byte c = subst (Steps c.args.bytes.now) (sym c.from_residual.ensures) (λ room. nothing-stands c.args.bytes.now room c.in_err-byte.ensures.cases)

pub returns-then-byte-ne0 : goal.returns-then-byte-ne0
returns-then-byte-ne0 c = (λ room. byte-stands c.args.bytes.now c.in_ok-byte.rest.now c.in_ok-byte.field-0-0.now room c.in_ok-byte.ensures.cases.0 c.if-byte-ne0.true, (let e = c.in_ok-byte.ensures.cases.1 in omega arith))

pub returns-in_err-mark : goal.returns-in_err-mark
returns-in_err-mark c =
    subst (Steps c.args.bytes.now) (sym c.from_residual-in_err-mark.ensures)
    (λ room. zero-stands c.args.bytes.now c.in_ok-byte.rest.now c.in_ok-byte.field-0-0.now room c.in_ok-byte.ensures.cases.0 c.if-byte-ne0.false ∙ cut-stands c.in_ok-byte.rest.now room c.in_err-mark.ensures.cases)

pub returns-in-1 : goal.returns-in-1
returns-in-1 c = λ room.
    zero-stands c.args.bytes.now c.in_ok-byte.rest.now c.in_ok-byte.field-0-0.now room c.in_ok-byte.ensures.cases.0 c.if-byte-ne0.false
    ∙ end-stands c.in_ok-byte.rest.now c.in_ok-mark.rest.now c.in_ok-mark.field-0-0.now room c.in_ok-mark.ensures.cases.0 c.in-1.is

pub returns-in-255 : goal.returns-in-255
returns-in-255 c = (
  λ room. zero-stands c.args.bytes.now c.in_ok-byte.rest.now c.in_ok-byte.field-0-0.now room c.in_ok-byte.ensures.cases.0 c.if-byte-ne0.false
      ∙ zero-goes-on c.in_ok-byte.rest.now c.in_ok-mark.rest.now c.in_ok-mark.field-0-0.now room c.in_ok-mark.ensures.cases.0 c.in-255.is,
  (let e = c.in_ok-byte.ensures.cases.1 in let f = c.in_ok-mark.ensures.cases.1 in omega arith),
)

pub returns-in_default : goal.returns-in_default
returns-in_default c = λ room.
    zero-stands c.args.bytes.now c.in_ok-byte.rest.now c.in_ok-byte.field-0-0.now room c.in_ok-byte.ensures.cases.0 c.if-byte-ne0.false
    ∙ broken-stands c.in_ok-byte.rest.now c.in_ok-mark.rest.now c.in_ok-mark.field-0-0.now room c.in_ok-mark.ensures.cases.0 (λ e. omega (arith, e)) (λ e. omega (arith, e))
