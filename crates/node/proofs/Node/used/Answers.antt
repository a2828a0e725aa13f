use Rattle.std.proofs.Common.{◌≡◌, ap, ◌∙◌, arith}
use Rattle.node.specs.Node.{count_in, start_of}
use Rattle.node.proofs.Places.{start-least, start-most}
use Rattle.node.proofs.Weights.{weighs}
use Rattle.node.proofs.Node.used.Goals as goal

pub returns : goal.returns
returns c = λ f.
    let page = c.args.self.page.now in
    let n = count_in page in
    let e : c.count-n.result ≡ n = c.count-n.ensures.is in
    let a = start-least page n n f (omega arith) in
    let b = start-most page n n f (omega arith) in
    let s : c.start_of.result ≡ start_of page n = c.start_of.ensures.is (omega arith) ∙ ap (start_of page) e in
    omega (arith, weighs page f, c.saturating_sub.ensures)
