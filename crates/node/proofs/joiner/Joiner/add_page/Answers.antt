use Rattle.std.proofs.Common.{◌<◌, ◌≤◌, cond, ltb, [], ◌∷◌, ◌++◌, length, sym, ap, ◌∙◌, subst, arith}
use Rattle.tree.specs.Bytes.{taken}
use Rattle.tree.specs.Pages.{weigh}
use Rattle.node.specs.Node.{entries_in}
use Rattle.node.specs.Joiner.{spare, on_last_all}
use Rattle.node.proofs.Making.{weighs-some, readied-spare, readied-joined, spare-some, joined-ok}
use Rattle.node.proofs.joiner.Joiner.add_page.Goals as goal

pub returns : goal.returns
returns c = λ f some.
    let page = c.args.node.page.now in
    let m = c.args.self.now in
    let n = c.reserve.new.self in
    let q = c.in_ok-reserve.ensures.1 ∙ ap (λ y. cond (ltb (spare m.pages) y) (m.pages ++ ([] ∷ [])) m.pages) (c.used.ensures f) in
    let room : weigh taken (entries_in page) ≤ spare n.pages = subst (λ ps. weigh taken (entries_in page) ≤ spare ps) (sym q) (readied-spare page f some m.pages) in
    let paged : 0 < length n.pages = spare-some n.pages (omega (arith, room, weighs-some page f some)) in
    let p = c.push_all.ensures f paged room in
    let joined = p.1.1 ∙ ap (on_last_all (entries_in page)) q ∙ readied-joined page f some m.pages in
    joined-ok m (entries_in page) c.push_all.result c.push_all.new.self p.0 (p.1.0 ∙ c.in_ok-reserve.ensures.0, joined)
