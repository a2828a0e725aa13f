use Rattle.std.proofs.Common.{◌≡◌, sym, refl, ap, ◌∙◌, subst, inl, inr, arith}
use Rattle.node.specs.Node.{count_in, start_of, Formed}
use Rattle.node.proofs.Places.{start-least, start-most}
use Rattle.node.proofs.Adding.{added}
use Rattle.node.proofs.push.Goals as goal

pub returns-then-n-gt2043 : goal.returns-then-n-gt2043
returns-then-n-gt2043 c = λ f.
    let page = c.args.page.now in
    let n = count_in page in
    let e : c.count-n.result ≡ n = c.count-n.ensures.is in
    let a = start-least page n n f (omega arith) in
    let b = start-most page n n f (omega arith) in
    let s : c.start_of-at.result ≡ start_of page c.count-n.result = c.start_of-at.ensures.is (omega arith) in
    let s' : c.start_of-at.result ≡ start_of page n = s ∙ ap (start_of page) e in
    (elim c.then-n-gt2043.either [ inl x ↦ omega arith | inr y ↦ elim y [ inl x ↦ omega (arith, x.1) | inr x ↦ omega (arith, x.2, c.saturating_add-len.ensures) ] ], refl)

pub returns : goal.returns
returns c = λ f.
    let page = c.args.page.now in
    let n = count_in page in
    let e : c.count-n.result ≡ n = c.count-n.ensures.is in
    let a = start-least page n n f (omega arith) in
    let s : c.start_of-at.result ≡ start_of page c.count-n.result = c.start_of-at.ensures.is (omega arith) in
    let s' : c.start_of-at.result ≡ start_of page n = s ∙ ap (start_of page) e in
    let g : Formed page c.count-n.result = subst (Formed page) (sym e) f in
    (omega arith, added page c.args.entry.key.now c.args.entry.value.now c.write_entry.new.page c.count-n.result c.start_of-at.result g s (omega arith) c.write_entry.ensures (sym e))
