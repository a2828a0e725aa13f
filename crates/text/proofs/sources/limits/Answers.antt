use Rattle.std.proofs.Common.{refl, ◌∙◌, arith}
use Rattle.meaning.specs.Tree as tree
use Rattle.meaning.specs.Text.{k_limit, k_offset}
use Rattle.grammar.specs.Reader.{is_word}
use Rattle.grammar.proofs.Tools.{choose_yes, choose_no, then_is, then-refused}
use Rattle.text.specs.Cut.{tokens_at}
use Rattle.text.specs.Stands.{filled}
use Rattle.text.proofs.Stood.{pushed, grown-none}
use Rattle.text.proofs.Steps.{taken-length, number-length}
use Rattle.text.proofs.Listed.{Skipped, skips, no-skip}
use Rattle.text.proofs.sources.limits.Goals.{in-Some-take_key+in_ok-skip-in-Some-take_key, in-None}
use Rattle.text.proofs.sources.limits.Goals as goal

pub returns-in_default : goal.returns-in_default
returns-in_default c = record { it = tree.all; is = choose_no (is_word k_limit) _ _ _ c.in_default.ensures; stands = refl; says = tt; within = tt; grown = grown-none (filled c.args.nodes.now); few = omega arith }

pub returns-in_err-most : goal.returns-in_err-most
returns-in_err-most c = rw c.from_residual.ensures (choose_yes (is_word k_limit) _ _ _ _ c.in-Some.ensures.0 c.in-Some.ensures.1 ∙ then-refused _ _ c.in_err-most.ensures)

pub returns-in_err-skip-in-Some-take_key : goal.returns-in_err-skip-in-Some-take_key
returns-in_err-skip-in-Some-take_key c = rw c.from_residual-in_err-skip-in-Some-take_key.ensures (choose_yes (is_word k_limit) _ _ _ _ c.in-Some.ensures.0 c.in-Some.ensures.1 ∙ then_is _ c.in_ok-most.ensures (choose_yes (is_word k_offset) _ _ _ _ c.in-Some-take_key.ensures.0 c.in-Some-take_key.ensures.1 ∙ then-refused _ _ c.in_err-skip-in-Some-take_key.ensures))

pub returns : goal.returns
returns c =
    let b = c.args.source.bytes.now in
    let n = pushed c.args.nodes.now c.push-node.new.self _ _ c.push-node.ensures in
    let l1 = taken-length (is_word k_limit) (tokens_at b c.args.at) (tokens_at b c.in-Some.limit) c.in-Some.ensures.0 c.in-Some.ensures.1 in
    let l2 = number-length (tokens_at b c.in-Some.limit) (tokens_at b c.in_ok-most.most.after) _ c.in_ok-most.ensures in
    let most = c.in_ok-most.most in
    let skip : Skipped b most.value most.after c.match-take_key-2.skip = elim c.match-take_key-2.branch [
      | in-Some-take_key+in_ok-skip-in-Some-take_key w ↦ skips b most.value most.after w.in-Some-take_key.offset c.match-take_key-2.skip w.in_ok-skip-in-Some-take_key.skip w.skip-is w.in-Some-take_key.ensures w.in_ok-skip-in-Some-take_key.ensures
      | in-None w ↦ no-skip b most.value most.after c.match-take_key-2.skip w.skip-is w.in-None.ensures
    ] in
    record {
      it = tree.up_to most.value c.match-take_key-2.skip.value;
      is = choose_yes (is_word k_limit) _ _ _ _ c.in-Some.ensures.0 c.in-Some.ensures.1 ∙ then_is _ c.in_ok-most.ensures skip.0;
      stands = (c.push-node.result, refl, n.at);
      says = tt;
      within = n.within;
      grown = n.grown;
      few = omega (arith, n.more, l1, l2, skip.1);
    }
