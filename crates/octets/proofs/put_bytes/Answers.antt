use Rattle.std.proofs.Common.{sym, arith, rules}
use Rattle.octets.proofs.Parts.{put_is, put_in-fits, put_in-not}
use Rattle.octets.proofs.put_bytes.Goals as goal

pub returns-then-at-out : goal.returns-then-at-out
returns-then-at-out c = sym (put_in-not c.args.out.now c.args.bytes.now c.args.at (omega arith))

pub returns : goal.returns
returns c = rw (put_in-fits c.args.out.now c.args.bytes.now c.args.at (omega arith)) (search (rules, put_is))
