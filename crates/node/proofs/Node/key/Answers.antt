use Rattle.std.proofs.Common.{◌≡◌, arith}
use Rattle.octets.specs.Parts.{pair}
use Rattle.node.specs.Node.{start_of}
use Rattle.node.proofs.Places.{placed}
use Rattle.node.proofs.Node.key.Goals as goal

pub returns : goal.returns
returns c = λ n h l.
    let page = c.args.self.page.now in
    let p = placed page n c.args.i h l in
    let s : c.start_of-start.result ≡ start_of page c.args.i = c.start_of-start.ensures.is (omega arith) in
    let k : c.key_len.result ≡ pair page c.start_of-start.result = c.key_len.ensures.is in
    let q = c.part_of.ensures in
    cc
