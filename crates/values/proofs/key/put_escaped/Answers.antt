use Rattle.std.proofs.Common.{◌≡◌, ◌+◌, [], length, get_or, drop, set, sym, refl, ap, ◌∙◌, arith, length-set}
use Rattle.octets.specs.Parts.{put}
use Rattle.values.specs.Key.{escaped}
use Rattle.octets.proofs.Parts.{put-nil, put-cons, put_two}
use Rattle.values.proofs.Writing.{left-zero, left_other, left-none}
use Rattle.values.proofs.key.put_escaped.Goals.{then-byte-eq0, else-byte-eq0}
use Rattle.values.proofs.key.put_escaped.Goals as goal

pub loop-byte-preserved : goal.loop-byte-preserved
loop-byte-preserved c =
    let text = c.args.text.now in
    let i = c.loop-byte.byte-index in
    let out = c.loop-byte.out in
    let end = c.loop-byte.end in
    let rest = escaped (drop (i + 1) text) in
    elim c.if-byte-eq0.branch [
      | then-byte-eq0 w ↦
          let left = left-zero text i c.loop-byte-test.true w.if-byte-eq0.true in
          let n = ap length left in
          let m : length c.if-byte-eq0.out ≡ length out = ap length w.out-is ∙ simp length-set in (
            (λ t. put (w.out-is t) (w.end-is t) rest) ∙ put_two out rest end (end + 1) (end + 1 + 1) (get_or text i 0) 255 refl refl (omega arith) ∙ ap (λ t. put out end t) (sym left) ∙ c.loop-byte.invariant.0,
            omega (arith, n, w.end-is),
            omega (arith, w.end-is, m),
          )
      | else-byte-eq0 w ↦
          let left = left_other text i c.loop-byte-test.true w.if-byte-eq0.false in
          let n = ap length left in
          let m : length c.if-byte-eq0.out ≡ length out = ap length w.out-is ∙ simp length-set in (
            (λ t. put (w.out-is t) (w.end-is t) rest) ∙ put-cons out rest end (end + 1) (get_or text i 0) refl (omega arith) ∙ ap (λ t. put out end t) (sym left) ∙ c.loop-byte.invariant.0,
            omega (arith, n, w.end-is),
            omega (arith, w.end-is, m),
          )
    ]

pub returns : goal.returns
returns c =
    let out = c.loop-byte.out in
    let end = c.loop-byte.end in
    let left = left-none c.args.text.now c.loop-byte.byte-index c.loop-byte-test.false in
    record {
      place = (let n = ap length left in omega (arith, n));
      bytes = sym (put-nil (set (set out end 0) (end + 1) 1) (end + 1 + 1)) ∙ put_two out [] end (end + 1) (end + 1 + 1) 0 1 refl refl (omega arith) ∙ ap (λ t. put out end t) (sym left) ∙ c.loop-byte.invariant.0;
    }
