use Rattle.std.proofs.Common.{◌+◌, length, ap, ◌∙◌, arith}
use Rattle.octets.specs.Numbers.{be}
use Rattle.octets.specs.Parts.{put_in}
use Rattle.octets.proofs.Numbers.{length-be, pair_of-is}
use Rattle.octets.proofs.Parts.{put_in-fits, put_in-behind}
use Rattle.values.proofs.row.put_text.Goals as goal

pub returns : goal.returns
returns c =
    let out = c.args.out.now in
    let text = c.args.text.now in
    let two = length-be 2 (length text) in
    c.put_bytes.ensures
    ∙ ap (λ t. put_in t (c.args.at + 2) text) (c.put_u16.ensures ∙ ap (put_in out c.args.at) (pair_of-is (length text) (omega arith)) ∙ put_in-fits out (be 2 (length text)) c.args.at (omega arith))
    ∙ put_in-behind out (be 2 (length text)) text c.args.at (c.args.at + 2) (omega arith) (omega arith)
