use Rattle.std.proofs.Common.{refl, ◌∙◌, arith}
use Rattle.grammar.specs.Reader.{is_sign}
use Rattle.grammar.proofs.Tools.{choose_yes, choose_no, then_is, then-refused}
use Rattle.text.specs.Cut.{tokens_at, name}
use Rattle.text.specs.Stands.{filled}
use Rattle.text.proofs.Stood.{kept}
use Rattle.text.proofs.Steps.{taken-length, name-length}
use Rattle.text.proofs.items.SetItem.read.Goals as goal

pub returns-in_err-name : goal.returns-in_err-name
returns-in_err-name c = rw c.from_residual.ensures (then-refused _ _ c.in_err-name.ensures)

pub returns-in_err-equals : goal.returns-in_err-equals
returns-in_err-equals c = rw c.from_residual-in_err-equals.ensures (then_is _ c.in_ok-name.ensures (choose_no (is_sign 61) _ _ _ c.in_err-equals.ensures))

pub returns-in_err-to : goal.returns-in_err-to
returns-in_err-to c = rw c.from_residual-in_err-to.ensures (then_is _ c.in_ok-name.ensures (choose_yes (is_sign 61) _ _ _ _ c.in_ok-equals.ensures.0 c.in_ok-equals.ensures.1 ∙ then-refused _ _ c.in_err-to.ensures))

pub expr-requires : goal.expr-requires
expr-requires c = let b = c.args.source.bytes.now in omega (arith, c.requires, name-length (tokens_at b c.args.at) (tokens_at b c.in_ok-name.name.after) _ c.in_ok-name.ensures, taken-length (is_sign 61) (tokens_at b c.in_ok-name.name.after) (tokens_at b c.in_ok-equals.equals) c.in_ok-equals.ensures.0 c.in_ok-equals.ensures.1)

pub returns : goal.returns
returns c = let b = c.args.source.bytes.now in let e = c.in_ok-to.ensures in
    let l0 = name-length (tokens_at b c.args.at) (tokens_at b c.in_ok-name.name.after) _ c.in_ok-name.ensures in
    let l1 = taken-length (is_sign 61) (tokens_at b c.in_ok-name.name.after) (tokens_at b c.in_ok-equals.equals) c.in_ok-equals.ensures.0 c.in_ok-equals.ensures.1 in
    record {
      it = record { col = name b c.in_ok-name.name.value; to = e.it };
      is = then_is _ c.in_ok-name.ensures (choose_yes (is_sign 61) _ _ _ _ c.in_ok-equals.ensures.0 c.in_ok-equals.ensures.1 ∙ then_is _ e.is refl);
      stands = λ h up. (refl, kept b e.it (filled c.expr.new.nodes) h up _ e.stands);
      says = tt;
      within = λ n l. omega (arith, l, e.within);
      grown = e.grown;
      few = omega (arith, e.few, l0, l1);
    }
