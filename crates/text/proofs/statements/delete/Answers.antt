use Rattle.std.proofs.Common.{refl, ◌∙◌, arith}
use Rattle.meaning.specs.Tree as tree
use Rattle.meaning.specs.Text.{k_from}
use Rattle.grammar.specs.Reader as reader
use Rattle.grammar.specs.Reader.{is_sign, is_word}
use Rattle.grammar.proofs.Tools.{choose_yes, choose_no, then_is, then-refused}
use Rattle.text.specs.Cut.{tokens_at, name}
use Rattle.text.proofs.Steps.{taken-length, name-length}
use Rattle.text.proofs.statements.delete.Goals as goal

pub returns-in_err-from : goal.returns-in_err-from
unfolding reader.delete
returns-in_err-from c = let b = c.args.source.bytes.now in
    rw c.from_residual.ensures (choose_no (is_word k_from) _ _ _ c.in_err-from.ensures)

pub returns-in_err-name : goal.returns-in_err-name
unfolding reader.delete
returns-in_err-name c = let b = c.args.source.bytes.now in
    rw c.from_residual-in_err-name.ensures (choose_yes (is_word k_from) _ _ _ _ c.in_ok-from.ensures.0 c.in_ok-from.ensures.1 ∙ then-refused _ _ c.in_err-name.ensures)

pub condition-requires : goal.condition-requires
unfolding reader.delete
condition-requires c = let b = c.args.source.bytes.now in
    omega (arith, c.requires, taken-length (is_word k_from) (tokens_at b c.args.at) (tokens_at b c.in_ok-from.from) c.in_ok-from.ensures.0 c.in_ok-from.ensures.1, name-length (tokens_at b c.in_ok-from.from) (tokens_at b c.in_ok-name.name.after) _ c.in_ok-name.ensures)

pub returns-in_err-wanted : goal.returns-in_err-wanted
unfolding reader.delete
returns-in_err-wanted c = let b = c.args.source.bytes.now in
    rw c.from_residual-in_err-wanted.ensures (choose_yes (is_word k_from) _ _ _ _ c.in_ok-from.ensures.0 c.in_ok-from.ensures.1 ∙ then_is _ c.in_ok-name.ensures (then-refused _ _ c.in_err-wanted.ensures))

pub returns : goal.returns
unfolding reader.delete
returns c = let b = c.args.source.bytes.now in let w = c.in_ok-wanted.ensures in
    (tree.delete (name b c.in_ok-name.name.value) w.it, choose_yes (is_word k_from) _ _ _ _ c.in_ok-from.ensures.0 c.in_ok-from.ensures.1 ∙ then_is _ c.in_ok-name.ensures (then_is _ w.is refl), (_, _, refl, refl, w.stands))
