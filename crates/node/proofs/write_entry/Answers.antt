use Rattle.std.proofs.Common.{refl}
use Rattle.node.proofs.Adding.{written-by}
use Rattle.node.proofs.write_entry.Goals as goal

pub returns : goal.returns
returns c =
    written-by c.args.page.now c.args.entry.key.now c.args.entry.value.now c.put_u16.new.out c.put_bytes.new.out c.put_bytes-2.new.out c.put_u16-2.new.out c.put_u16-3.new.out
    c.args.n c.args.at _ c.requires.0 c.requires.1.0 refl c.requires.1.1 c.put_u16.ensures c.put_bytes.ensures c.put_bytes-2.ensures c.put_u16-2.ensures c.put_u16-3.ensures
