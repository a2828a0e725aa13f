use Rattle.octets.proofs.Order.{lex-is}
use Rattle.octets.proofs.less.Goals as goal

pub returns : goal.returns
returns c = lex-is c.args.a.now c.args.b.now c.lt.result c.lt.ensures
