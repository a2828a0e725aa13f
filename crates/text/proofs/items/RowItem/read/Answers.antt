use Rattle.std.proofs.Common.{◌∙◌, arith}
use Rattle.grammar.specs.Reader.{is_sign, to_exprs}
use Rattle.grammar.proofs.Tools.{choose_yes, choose_no, then_is, then-refused}
use Rattle.text.specs.Cut.{tokens_at}
use Rattle.text.specs.Stands.{filled}
use Rattle.text.proofs.Stood.{exprs-kept}
use Rattle.text.proofs.Steps.{taken-length}
use Rattle.text.proofs.items.RowItem.read.Goals as goal

pub returns-in_err-open : goal.returns-in_err-open
returns-in_err-open c = rw c.from_residual.ensures (choose_no (is_sign 40) _ _ _ c.in_err-open.ensures)

pub returns-in_err-row : goal.returns-in_err-row
returns-in_err-row c = rw c.from_residual-in_err-row.ensures (choose_yes (is_sign 40) _ _ _ _ c.in_ok-open.ensures.0 c.in_ok-open.ensures.1 ∙ then-refused _ _ c.in_err-row.ensures)

pub returns-in_err-after : goal.returns-in_err-after
returns-in_err-after c = rw c.from_residual-in_err-after.ensures (choose_yes (is_sign 40) _ _ _ _ c.in_ok-open.ensures.0 c.in_ok-open.ensures.1 ∙ then_is _ c.in_ok-row.ensures.is (choose_no (is_sign 41) _ _ _ c.in_err-after.ensures))

pub returns : goal.returns
returns c = let b = c.args.source.bytes.now in let r = c.in_ok-row.ensures in
    let l0 = taken-length (is_sign 40) (tokens_at b c.args.at) (tokens_at b c.in_ok-open.open) c.in_ok-open.ensures.0 c.in_ok-open.ensures.1 in
    let l1 = taken-length (is_sign 41) (tokens_at b c.in_ok-row.row.after) (tokens_at b c.in_ok-after.after) c.in_ok-after.ensures.0 c.in_ok-after.ensures.1 in
    record {
      it = to_exprs r.it;
      is = choose_yes (is_sign 40) _ _ _ _ c.in_ok-open.ensures.0 c.in_ok-open.ensures.1 ∙ then_is _ r.is (choose_yes (is_sign 41) _ _ _ _ c.in_ok-after.ensures.0 c.in_ok-after.ensures.1);
      stands = λ h up. exprs-kept b (to_exprs r.it) (filled c.exprs.new.nodes) h up _ r.stands;
      says = tt;
      within = λ n l. omega (arith, l, r.within);
      grown = r.grown;
      few = omega (arith, r.few, l0, l1);
    }
