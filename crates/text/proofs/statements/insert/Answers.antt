use Rattle.std.proofs.Common.{refl, ◌∙◌, arith}
use Rattle.meaning.specs.Tree as tree
use Rattle.meaning.specs.Text.{k_into, k_values}
use Rattle.grammar.specs.Reader as reader
use Rattle.grammar.specs.Reader.{is_sign, is_word}
use Rattle.grammar.proofs.Tools.{choose_yes, choose_no, then_is, then-refused}
use Rattle.text.specs.Cut.{tokens_at, name}
use Rattle.text.proofs.Stood.{grown-none}
use Rattle.text.proofs.Steps.{taken-length, name-length}
use Rattle.text.proofs.statements.insert.Goals as goal

pub returns-in_err-into : goal.returns-in_err-into
unfolding reader.insert
returns-in_err-into c = let b = c.args.source.bytes.now in
    rw c.from_residual.ensures (choose_no (is_word k_into) _ _ _ c.in_err-into.ensures)

pub returns-in_err-name : goal.returns-in_err-name
unfolding reader.insert
returns-in_err-name c = let b = c.args.source.bytes.now in
    rw c.from_residual-in_err-name.ensures (choose_yes (is_word k_into) _ _ _ _ c.in_ok-into.ensures.0 c.in_ok-into.ensures.1 ∙ then-refused _ _ c.in_err-name.ensures)

pub list-requires : goal.list-requires
unfolding reader.insert
list-requires c = let b = c.args.source.bytes.now in
    omega (arith, c.requires, taken-length (is_word k_into) (tokens_at b c.args.at) (tokens_at b c.in_ok-into.into) c.in_ok-into.ensures.0 c.in_ok-into.ensures.1, name-length (tokens_at b c.in_ok-into.into) (tokens_at b c.in_ok-name.name.after) _ c.in_ok-name.ensures, taken-length (is_word k_values) (tokens_at b c.in_ok-name.name.after) (tokens_at b c.in-Some.values) c.in-Some.ensures.0 c.in-Some.ensures.1)

pub returns-in_err-rows : goal.returns-in_err-rows
unfolding reader.insert
returns-in_err-rows c = let b = c.args.source.bytes.now in
    rw c.from_residual-in_err-rows.ensures (choose_yes (is_word k_into) _ _ _ _ c.in_ok-into.ensures.0 c.in_ok-into.ensures.1 ∙ then_is _ c.in_ok-name.ensures (choose_yes (is_word k_values) _ _ _ _ c.in-Some.ensures.0 c.in-Some.ensures.1 ∙ then-refused _ _ c.in_err-rows.ensures))

pub returns-in-Some : goal.returns-in-Some
unfolding reader.insert
returns-in-Some c = let b = c.args.source.bytes.now in let e = c.in_ok-rows.ensures in
    (tree.insert (name b c.in_ok-name.name.value) e.it, choose_yes (is_word k_into) _ _ _ _ c.in_ok-into.ensures.0 c.in_ok-into.ensures.1 ∙ then_is _ c.in_ok-name.ensures (choose_yes (is_word k_values) _ _ _ _ c.in-Some.ensures.0 c.in-Some.ensures.1 ∙ then_is _ e.is refl), (_, _, refl, refl, e.stands _ (grown-none _)))

pub question-requires : goal.question-requires
unfolding reader.insert
question-requires c = let b = c.args.source.bytes.now in
    omega (arith, c.requires, taken-length (is_word k_into) (tokens_at b c.args.at) (tokens_at b c.in_ok-into.into) c.in_ok-into.ensures.0 c.in_ok-into.ensures.1, name-length (tokens_at b c.in_ok-into.into) (tokens_at b c.in_ok-name.name.after) _ c.in_ok-name.ensures)

pub returns-in_err-query : goal.returns-in_err-query
unfolding reader.insert
returns-in_err-query c = let b = c.args.source.bytes.now in
    rw c.from_residual-in_err-query.ensures (choose_yes (is_word k_into) _ _ _ _ c.in_ok-into.ensures.0 c.in_ok-into.ensures.1 ∙ then_is _ c.in_ok-name.ensures (choose_no (is_word k_values) _ _ _ c.in_default.ensures ∙ then-refused _ _ c.in_err-query.ensures))

pub returns : goal.returns
unfolding reader.insert
returns c = let b = c.args.source.bytes.now in let e = c.in_ok-query.ensures in
    (tree.insert_from (name b c.in_ok-name.name.value) e.it, choose_yes (is_word k_into) _ _ _ _ c.in_ok-into.ensures.0 c.in_ok-into.ensures.1 ∙ then_is _ c.in_ok-name.ensures (choose_no (is_word k_values) _ _ _ c.in_default.ensures ∙ then_is _ e.is refl), (_, _, refl, refl, e.stands))
