use Rattle.std.proofs.Common.{◌≡◌, ◌+◌, ◌-◌, ◌<◌, ◌≤◌, cond, is_ok, length, sym, refl, ap, subst, ◌∙◌, arith}
use Rattle.tree.specs.Bytes.{taken}
use Rattle.tree.specs.Pages.{weigh}
use Rattle.node.specs.Node.{count_in, lies, entry_at, entries_from, entries_in}
use Rattle.node.specs.Joiner.{on_last, on_last_all, spare}
use Rattle.node.proofs.Making.{length-on-last, spare-pushed, from-weighs, from-pushed, from-done}
use Rattle.node.proofs.Picking.{entries_from_lem}
use Rattle.node.proofs.joiner.Joiner.push_all.Goals as goal

pub loop-i-init : goal.loop-i-init
loop-i-init c = λ f z w.
    let page = c.args.node.page.now in
    let m = c.args.self.now in
    let n = count_in page in
    let all : entries_in page ≡ entries_from page 0 (n - 0) = entries_from_lem page n ∙ ap (entries_from page 0) (omega arith) in
    (z, subst (λ es. weigh taken es ≤ spare m.pages) all w, refl, ap (λ es. on_last_all es m.pages) (sym all))

pub loop-i-preserved : goal.loop-i-preserved
loop-i-preserved c = λ f z w.
    let v = c.loop-i.invariant f z w in
    let page = c.args.node.page.now in
    let i = c.loop-i.i in
    let n = count_in page in
    let j = c.loop-i.self in
    let k = c.push_on.new.self in
    let b : i < n = omega (arith, c.loop-i-test.true, c.count-i-end.ensures.is) in
    let rest = entries_from page (i + 1) (n - (i + 1)) in
    let p = c.push_on.ensures.pages in
    let q : k.pages ≡ on_last (entry_at page i) j.pages =
    p.1 ∙ ap (λ r. cond (is_ok r) (on_last (lies c.entry.result) j.pages) j.pages) c.in_ok-push_on.was ∙ ap (λ x. on_last x j.pages) (c.entry.ensures n f b) in
    let long : length k.pages ≡ length j.pages = ap length q ∙ length-on-last (entry_at page i) j.pages in
    let room : spare k.pages ≡ spare j.pages - taken (entry_at page i) = ap spare q ∙ spare-pushed j.pages (entry_at page i) v.0 in
    let pages = ap (on_last_all rest) q ∙ sym (from-pushed page i n b j.pages) ∙ v.3 in
    (omega (arith, long, v.0), omega (arith, room, from-weighs page i n b, v.1), p.0 ∙ v.2, pages)

pub returns-in_err-push_on : goal.returns-in_err-push_on
returns-in_err-push_on c = λ f z w.
    let v = c.loop-i.invariant f z w in
    let page = c.args.node.page.now in
    let i = c.loop-i.i in
    let b : i < count_in page = omega (arith, c.loop-i-test.true, c.count-i-end.ensures.is) in
    let d : spare c.loop-i.self.pages < taken (lies c.entry.result) = c.push_on.ensures.crowded (ap is_ok c.in_err-push_on.was) in
    let t : taken (lies c.entry.result) ≡ taken (entry_at page i) = ap taken (c.entry.ensures (count_in page) f b) in
    absurd (omega (arith, d, t, from-weighs page i (count_in page) b, v.1))

pub returns : goal.returns
returns c = λ f z w.
    let v = c.loop-i.invariant f z w in
    let j = c.loop-i.self in
    let page = c.args.node.page.now in
    let done = from-done page c.loop-i.i (count_in page) j.pages (omega (arith, c.loop-i-test.false, c.count-i-end.ensures.is)) in
    (refl, (v.2, sym done ∙ v.3))
