use Rattle.std.proofs.Common.{ℕ, ◌-◌, get_or, arith}
use Rattle.std.proofs.lemmas.List.{get_or_default}
use Rattle.std.proofs.lemmas.List.Edits.{map_over_more}
use Rattle.values.proofs.key.turn.Goals as goal

pub loop-byte-preserved : goal.loop-byte-preserved
loop-byte-preserved c =
    let items = c.loop-byte.byte-items in
    let i = c.loop-byte.byte-index in
    map_over_more (λ (b : ℕ). 255 - b) c.args.part.now items i (get_or items i 0) (omega arith) c.loop-byte.invariant (get_or_default items i 0 (get_or items i 0) (omega arith))
