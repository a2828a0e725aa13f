use Rattle.std.proofs.Common.{ap, ◌∙◌}
use Rattle.octets.specs.Parts.{put_in}
use Rattle.octets.proofs.Numbers.{be8-is}
use Rattle.octets.proofs.put_u64.Goals as goal

pub returns : goal.returns
returns c = c.put_bytes.ensures ∙ ap (put_in c.args.out.now c.args.at) (c.to_be_bytes.ensures ∙ be8-is c.args.number)
