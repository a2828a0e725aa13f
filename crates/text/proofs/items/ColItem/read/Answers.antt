use Rattle.std.proofs.Common.{refl, arith}
use Rattle.text.specs.Cut.{tokens_at}
use Rattle.text.specs.Stands.{filled}
use Rattle.text.proofs.Stood.{grown-none}
use Rattle.text.proofs.Steps.{name-length}
use Rattle.text.proofs.Columns.{made, col-none, col-no-kind, col-no-must, col-got, kind-length, must-length}
use Rattle.text.proofs.items.ColItem.read.Goals as goal

pub returns-in_err-name : goal.returns-in_err-name
returns-in_err-name c = rw c.from_residual.ensures (col-none _ c.in_err-name.ensures)

pub returns-in_err-kind : goal.returns-in_err-kind
returns-in_err-kind c = rw c.from_residual-in_err-kind.ensures (col-no-kind _ _ _ c.in_ok-name.ensures c.in_err-kind.ensures)

pub returns-in_err-must : goal.returns-in_err-must
returns-in_err-must c = rw c.from_residual-in_err-must.ensures (col-no-must _ _ _ _ _ c.in_ok-name.ensures c.in_ok-kind.ensures c.in_err-must.ensures)

pub returns : goal.returns
returns c = let b = c.args.source.bytes.now in
    record {
      it = made _ c.in_ok-kind.kind.value c.in_ok-must.must.value;
      is = col-got _ _ _ _ _ _ _ c.in_ok-name.ensures c.in_ok-kind.ensures c.in_ok-must.ensures;
      stands = λ h up. (refl, refl, refl);
      says = tt;
      within = λ n l. tt;
      grown = grown-none (filled c.args.nodes.now);
      few = omega (arith, name-length (tokens_at b c.args.at) (tokens_at b c.in_ok-name.name.after) _ c.in_ok-name.ensures, kind-length (tokens_at b c.in_ok-name.name.after) (tokens_at b c.in_ok-kind.kind.after) _ c.in_ok-kind.ensures, must-length (tokens_at b c.in_ok-kind.kind.after) (tokens_at b c.in_ok-must.must.after) _ c.in_ok-must.ensures);
    }
