use Rattle.std.proofs.Common.{[], ◌∷◌, ◌++◌, ap, ◌∙◌, arith}
use Rattle.grammar.specs.Reader.{list_of}
use Rattle.text.specs.Cut.{tokens_at}
use Rattle.text.specs.Stands.{filled}
use Rattle.text.proofs.Stood.{pushed}
use Rattle.text.proofs.Steps.{list-none, list-step, listed-refused, listed-fails}
use Rattle.text.proofs.Chain.{Follows, follows-on, list-follows, nothing-follows, chained}
use Rattle.text.proofs.lists.+list.Goals.{in-Some+in_ok-more, in_default}
use Rattle.text.proofs.lists.+list.Goals as goal

pub returns-in_err-left : goal.returns-in_err-left
returns-in_err-left g t c = rw c.from_residual.ensures (list-none (g.I.Item.reader c.args.turns) c.args.left (tokens_at c.args.source.bytes.now c.args.at) (omega (arith, c.in_err-left.ensures)))

pub returns-in_err-item : goal.returns-in_err-item
returns-in_err-item g t c = rw c.from_residual-in_err-item.ensures (list-step (g.I.Item.reader c.args.turns) c.args.left c.in_ok-left.left (tokens_at c.args.source.bytes.now c.args.at) (omega (arith, c.in_ok-left.ensures)) ∙ listed-refused (g.I.Item.reader c.args.turns) (list_of (g.I.Item.reader c.args.turns) c.in_ok-left.left) _ c.in_err-item.ensures)

pub returns-in_err-more : goal.returns-in_err-more
returns-in_err-more g t c = rw c.from_residual-in_err-more.ensures (list-step (g.I.Item.reader c.args.turns) c.args.left c.in_ok-left.left (tokens_at c.args.source.bytes.now c.args.at) (omega (arith, c.in_ok-left.ensures)) ∙ listed-fails (g.I.Item.reader c.args.turns) (list_of (g.I.Item.reader c.args.turns) c.in_ok-left.left) _ _ _ _ c.in_ok-item.ensures.is c.in-Some.ensures.0 c.in-Some.ensures.1 c.in_err-more.ensures)

pub push-value-requires : goal.push-value-requires
push-value-requires g t c = let b = c.args.source.bytes.now in
    let rd = list_of (g.I.Item.reader c.args.turns) c.in_ok-left.left in
    let us = tokens_at b c.in_ok-item.item.after in
    let follows : Follows (g.I.Item.Stands b) g.I.Item.Within g.I.Item.made b rd c.read.new.nodes c.match-take_sign.nodes us c.match-take_sign.rest c.match-take_sign.after = elim c.match-take_sign.branch [
      | in-Some+in_ok-more w ↦ follows-on (g.I.Item.Stands b) g.I.Item.Within g.I.Item.made b rd _ _ _ us _ _ _ _ w.nodes-is w.rest-is w.after-is (list-follows (g.I.Item.Stands b) g.I.Item.Within g.I.Item.made b rd c.read.new.nodes w.list.new.nodes us (tokens_at b w.in-Some.comma) w.in_ok-more.more w.in-Some.ensures.0 w.in-Some.ensures.1 w.in_ok-more.ensures)
      | in_default w ↦ follows-on (g.I.Item.Stands b) g.I.Item.Within g.I.Item.made b rd _ _ _ us _ _ _ _ w.nodes-is w.rest-is w.after-is (nothing-follows (g.I.Item.Stands b) g.I.Item.Within g.I.Item.made b rd c.read.new.nodes c.in_ok-item.item.after w.in_default.ensures)
    ] in
    omega (arith, c.requires, c.in_ok-item.ensures.few, follows.few)

pub returns : goal.returns
returns g t c = let b = c.args.source.bytes.now in
    let rd = list_of (g.I.Item.reader c.args.turns) c.in_ok-left.left in
    let us = tokens_at b c.in_ok-item.item.after in
    let follows : Follows (g.I.Item.Stands b) g.I.Item.Within g.I.Item.made b rd c.read.new.nodes c.match-take_sign.nodes us c.match-take_sign.rest c.match-take_sign.after = elim c.match-take_sign.branch [
      | in-Some+in_ok-more w ↦ follows-on (g.I.Item.Stands b) g.I.Item.Within g.I.Item.made b rd _ _ _ us _ _ _ _ w.nodes-is w.rest-is w.after-is (list-follows (g.I.Item.Stands b) g.I.Item.Within g.I.Item.made b rd c.read.new.nodes w.list.new.nodes us (tokens_at b w.in-Some.comma) w.in_ok-more.more w.in-Some.ensures.0 w.in-Some.ensures.1 w.in_ok-more.ensures)
      | in_default w ↦ follows-on (g.I.Item.Stands b) g.I.Item.Within g.I.Item.made b rd _ _ _ us _ _ _ _ w.nodes-is w.rest-is w.after-is (nothing-follows (g.I.Item.Stands b) g.I.Item.Within g.I.Item.made b rd c.read.new.nodes c.in_ok-item.item.after w.in_default.ensures)
    ] in
    chained (g.I.Item.Stands b) g.I.Item.Within g.I.Item.made b rd c.args.nodes.now c.read.new.nodes c.match-take_sign.nodes c.push-value.new.self (tokens_at b c.args.at) (g.I.Item.reader c.args.turns) c.in_ok-item.item c.match-take_sign.rest c.push-value.result c.match-take_sign.after _ (list-step (g.I.Item.reader c.args.turns) c.args.left c.in_ok-left.left (tokens_at b c.args.at) (omega (arith, c.in_ok-left.ensures))) c.in_ok-item.ensures follows
    (pushed c.match-take_sign.nodes c.push-value.new.self _ _ (c.push-value.ensures.0, c.push-value.ensures.1 ∙ ap (λ n. filled c.match-take_sign.nodes ++ n ∷ []) c.node.ensures))
