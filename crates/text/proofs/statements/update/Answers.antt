use Rattle.std.proofs.Common.{refl, ◌∙◌, arith}
use Rattle.meaning.specs.Tree as tree
use Rattle.meaning.specs.Text.{k_set}
use Rattle.grammar.specs.Reader as reader
use Rattle.grammar.specs.Reader.{is_sign, is_word}
use Rattle.grammar.proofs.Tools.{choose_yes, choose_no, then_is, then-refused}
use Rattle.text.specs.Cut.{tokens_at, name}
use Rattle.text.specs.Stands.{filled}
use Rattle.text.proofs.Steps.{taken-length, name-length}
use Rattle.text.proofs.statements.update.Goals as goal

pub returns-in_err-name : goal.returns-in_err-name
unfolding reader.update
returns-in_err-name c = let b = c.args.source.bytes.now in
    rw c.from_residual.ensures (then-refused _ _ c.in_err-name.ensures)

pub returns-in_err-set : goal.returns-in_err-set
unfolding reader.update
returns-in_err-set c = let b = c.args.source.bytes.now in
    rw c.from_residual-in_err-set.ensures (then_is _ c.in_ok-name.ensures (choose_no (is_word k_set) _ _ _ c.in_err-set.ensures))

pub list-requires : goal.list-requires
unfolding reader.update
list-requires c = let b = c.args.source.bytes.now in
    omega (arith, c.requires, name-length (tokens_at b c.args.at) (tokens_at b c.in_ok-name.name.after) _ c.in_ok-name.ensures, taken-length (is_word k_set) (tokens_at b c.in_ok-name.name.after) (tokens_at b c.in_ok-set.set) c.in_ok-set.ensures.0 c.in_ok-set.ensures.1)

pub returns-in_err-sets : goal.returns-in_err-sets
unfolding reader.update
returns-in_err-sets c = let b = c.args.source.bytes.now in
    rw c.from_residual-in_err-sets.ensures (then_is _ c.in_ok-name.ensures (choose_yes (is_word k_set) _ _ _ _ c.in_ok-set.ensures.0 c.in_ok-set.ensures.1 ∙ then-refused _ _ c.in_err-sets.ensures))

pub condition-requires : goal.condition-requires
unfolding reader.update
condition-requires c = let b = c.args.source.bytes.now in
    omega (arith, c.requires, name-length (tokens_at b c.args.at) (tokens_at b c.in_ok-name.name.after) _ c.in_ok-name.ensures, taken-length (is_word k_set) (tokens_at b c.in_ok-name.name.after) (tokens_at b c.in_ok-set.set) c.in_ok-set.ensures.0 c.in_ok-set.ensures.1, c.in_ok-sets.ensures.few)

pub returns-in_err-wanted : goal.returns-in_err-wanted
unfolding reader.update
returns-in_err-wanted c = let b = c.args.source.bytes.now in
    rw c.from_residual-in_err-wanted.ensures (then_is _ c.in_ok-name.ensures (choose_yes (is_word k_set) _ _ _ _ c.in_ok-set.ensures.0 c.in_ok-set.ensures.1 ∙ then_is _ c.in_ok-sets.ensures.is (then-refused _ _ c.in_err-wanted.ensures)))

pub returns : goal.returns
unfolding reader.update
returns c = let b = c.args.source.bytes.now in let e = c.in_ok-sets.ensures in let w = c.in_ok-wanted.ensures in
    (tree.update (name b c.in_ok-name.name.value) e.it w.it, then_is _ c.in_ok-name.ensures (choose_yes (is_word k_set) _ _ _ _ c.in_ok-set.ensures.0 c.in_ok-set.ensures.1 ∙ then_is _ e.is (then_is _ w.is refl)), (_, _, _, refl, refl, e.stands (filled c.condition.new.nodes) w.grown, w.stands))
