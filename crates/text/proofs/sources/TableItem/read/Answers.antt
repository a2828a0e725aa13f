use Rattle.std.proofs.Common.{refl, arith}
use Rattle.text.specs.Cut.{tokens_at, name}
use Rattle.text.specs.Stands.{filled}
use Rattle.text.proofs.Stood.{grown-none}
use Rattle.text.proofs.Listed.{source-got, source-length}
use Rattle.text.proofs.sources.TableItem.read.Goals as goal

pub returns : goal.returns
returns c = let b = c.args.source.bytes.now in let l = source-length b (tokens_at b c.args.at) c.in_ok-name.name c.unwrap_or-alias.result c.take_name-2.result c.in_ok-name.ensures c.take_name-2.ensures c.unwrap_or-alias.ensures in
    record {
      it = record { table = name b c.in_ok-name.name.value; alias = name b c.unwrap_or-alias.result.value };
      is = source-got b (tokens_at b c.args.at) c.in_ok-name.name c.unwrap_or-alias.result c.take_name-2.result c.in_ok-name.ensures c.take_name-2.ensures c.unwrap_or-alias.ensures;
      stands = λ h up. (refl, refl);
      says = tt;
      within = λ n l. tt;
      grown = grown-none (filled c.args.nodes.now);
      few = omega (arith, l);
    }
