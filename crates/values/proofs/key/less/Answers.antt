use Rattle.std.proofs.Common.{◌∙◌}
use Rattle.meaning.specs.Value.{less_bytes}
use Rattle.values.proofs.Keys.{keys-followed}
use Rattle.octets.proofs.Order.{lex-is}
use Rattle.values.proofs.key.less.Goals as goal

pub returns : goal.returns
returns c =
    let e = lex-is c.args.a.now c.args.b.now c.lt.result c.lt.ensures in
    record { bytes = e; keys = λ ds xs ys r s hx hy lx ly p q. e ∙ (λ i. less_bytes (p i) (q i)) ∙ keys-followed ds xs ys r s hx hy lx ly }
