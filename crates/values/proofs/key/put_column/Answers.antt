use Rattle.std.proofs.Common.{◌+◌, length, sym, ap, ◌∙◌, arith}
use Rattle.values.specs.Meant.{meaning_of}
use Rattle.octets.specs.Parts.{put}
use Rattle.values.specs.Key.{rising_code, falls, code_of}
use Rattle.octets.proofs.Parts.{length-put}
use Rattle.values.proofs.Keys.{length-rising, length-code}
use Rattle.values.proofs.Writing.{turned-put}
use Rattle.values.proofs.key.put_column.Goals as goal

pub slice_bounds-turn-end : goal.slice_bounds-turn-end
slice_bounds-turn-end c =
    let h = length-rising (meaning_of c.args.value) in
    let e = ap length c.put_rising-end.ensures.bytes ∙ length-put c.args.out.now (rising_code (meaning_of c.args.value)) c.args.at (omega arith) in
    omega arith

pub returns-in-Falling : goal.returns-in-Falling
returns-in-Falling c =
    let v = meaning_of c.args.value in
    let h = length-rising v in
    record {
      place = c.put_rising-end.ensures.place ∙ ap (λ n. c.args.at + n) (sym (length-code (falls c.args.direction) v));
      bytes = turned-put c.args.out.now c.put_rising-end.new.out (rising_code v) c.turn.new.part c.args.at c.put_rising-end.result c.put_rising-end.ensures.bytes c.put_rising-end.ensures.place (omega arith) c.turn.ensures ∙ ap (λ d. put c.args.out.now c.args.at (code_of (falls d) v)) (sym c.in-Falling.is);
    }
