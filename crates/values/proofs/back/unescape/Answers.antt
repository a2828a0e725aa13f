use Rattle.std.proofs.Common.{◌≡◌, ◌+◌, ◌-◌, take, set, Some, sym, subst, ap, ◌∙◌, arith}
use Rattle.values.specs.Back.{Steps, unescaped}
use Rattle.values.proofs.Unescaping.{behind, behind-nil, behind_more, behind-none, behind-end, nothing-mapped}
use Rattle.values.proofs.back.unescape.Goals as goal

pub loop-byte-init : goal.loop-byte-init
loop-byte-init c = (behind-nil (unescaped 4000 c.args.bytes.now), omega arith)

pub returns-in_err-byte-clause-value : goal.returns-in_err-byte-clause-value
unfolding behind
returns-in_err-byte-clause-value c =
    nothing-mapped _ _ _ c.from_residual.ensures
    (ap (behind (take c.loop-byte.len c.loop-byte.out)) (sym (c.in_err-byte.ensures (4000 - c.loop-byte.len))) ∙ c.loop-byte.invariant.0)

pub returns-then-len-eq-LONGEST-clause-value : goal.returns-then-len-eq-LONGEST-clause-value
returns-then-len-eq-LONGEST-clause-value c =
    let room = 4000 - c.loop-byte.len in
    let step = subst (λ n. Steps c.loop-byte.rest.now (Some n)) c.in-Byte.is c.in_ok-byte.ensures in
    let front = take c.loop-byte.len c.loop-byte.out in
    behind-none front room c.in-Byte.byte (unescaped (room - 1) c.in-Byte.behind.now) (omega arith) ∙ ap (behind front) (sym (step.0 room)) ∙ c.loop-byte.invariant.0

pub loop-byte-preserved : goal.loop-byte-preserved
loop-byte-preserved c =
    let room = 4000 - c.loop-byte.len in
    let step = subst (λ n. Steps c.loop-byte.rest.now (Some n)) c.in-Byte.is c.in_ok-byte.ensures in
    let fewer : 4000 - (c.loop-byte.len + 1) ≡ room - 1 = omega arith in (
      ap (λ n. behind (take (c.loop-byte.len + 1) (set c.loop-byte.out c.loop-byte.len c.in-Byte.byte)) (unescaped n c.in-Byte.behind.now)) fewer
          ∙ behind_more c.loop-byte.out c.loop-byte.len room c.in-Byte.byte (unescaped (room - 1) c.in-Byte.behind.now) (omega arith) (λ e. omega (arith, e))
          ∙ ap (behind (take c.loop-byte.len c.loop-byte.out)) (sym (step.0 room))
          ∙ c.loop-byte.invariant.0,
      omega arith,
    )

pub returns-in-End-clause-value : goal.returns-in-End-clause-value
returns-in-End-clause-value c =
    let step = subst (λ n. Steps c.loop-byte.rest.now (Some n)) c.in-End.is c.in_ok-byte.ensures in
    behind-end (take c.loop-byte.len c.loop-byte.out) c.in-End.behind.now ∙ ap (behind (take c.loop-byte.len c.loop-byte.out)) (sym (step (4000 - c.loop-byte.len))) ∙ c.loop-byte.invariant.0
