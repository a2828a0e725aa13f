use Rattle.std.proofs.Common.{true, false, refl, sym, ◌∙◌, ap, arith}
use Rattle.meaning.specs.Tree as tree
use Rattle.meaning.specs.Tree.{aggregates}
use Rattle.grammar.specs.Reader as reader
use Rattle.grammar.specs.Reader.{gets}
use Rattle.text.specs.Cut.{tokens_at}
use Rattle.text.specs.Stands.{filled}
use Rattle.text.proofs.Stood.{pushed, kept, grown-on}
use Rattle.text.proofs.Listed.{null-refused, null-got}
use Rattle.text.proofs.exprs.tested.Goals as goal

pub returns-in_err-after : goal.returns-in_err-after
returns-in_err-after c = rw c.from_residual.ensures (null-refused c.args.source.bytes.now c.args.at c.unwrap_or.result c.take_key-not.result c.take_key-not.ensures c.unwrap_or.ensures c.in_err-after.ensures)

pub returns-then-is_some : goal.returns-then-is_some
unfolding aggregates
returns-then-is_some c =
    let b = c.args.source.bytes.now in
    let T = c.args.nodes.now in
    let U = c.push-node.new.self in
    let V = c.push-node-then-is_some.new.self in
    let n = pushed T U _ _ c.push-node.ensures in
    let m = pushed U V _ _ c.push-node-then-is_some.ensures in
    let got = null-got b c.args.at c.unwrap_or.result (tokens_at b c.in_ok-after.after) c.take_key-not.result c.take_key-not.ensures c.unwrap_or.ensures c.in_ok-after.ensures.0 c.in_ok-after.ensures.1 in (
      true,
      got.0 ∙ ap (λ v. gets v (tokens_at b c.in_ok-after.after)) (sym c.is_some.ensures ∙ c.if-is_some.true),
      record {
        grown = grown-on (filled T) (filled U) (filled V) n.grown m.grown;
        few = omega (arith, n.more, m.more, got.1);
        goes = λ e s. (
          reader.part 3 (reader.tested true e.it),
          refl,
          record {
            stands = (c.push-node.result, m.at, omega (arith, m.last, n.within), kept b (tree.isnull e.it) (filled U) (filled V) m.grown c.push-node.result (c.args.a.it.node, n.at, omega (arith, n.last, s.within), kept b e.it (filled T) (filled U) n.grown c.args.a.it.node s.stands));
            counts = s.counts;
            level = refl;
            within = m.within;
          },
        );
      },
    )

pub returns-else-is_some : goal.returns-else-is_some
unfolding aggregates
returns-else-is_some c =
    let b = c.args.source.bytes.now in
    let T = c.args.nodes.now in
    let U = c.push-node.new.self in
    let n = pushed T U _ _ c.push-node.ensures in
    let got = null-got b c.args.at c.unwrap_or.result (tokens_at b c.in_ok-after.after) c.take_key-not.result c.take_key-not.ensures c.unwrap_or.ensures c.in_ok-after.ensures.0 c.in_ok-after.ensures.1 in (
      false,
      got.0 ∙ ap (λ v. gets v (tokens_at b c.in_ok-after.after)) (sym c.is_some.ensures ∙ c.if-is_some.false),
      record {
        grown = n.grown;
        few = omega (arith, n.more, got.1);
        goes = λ e s. (
          reader.part 3 (reader.tested false e.it),
          refl,
          record {
            stands = (c.args.a.it.node, n.at, omega (arith, n.last, s.within), kept b e.it (filled T) (filled U) n.grown c.args.a.it.node s.stands);
            counts = s.counts;
            level = refl;
            within = n.within;
          },
        );
      },
    )
