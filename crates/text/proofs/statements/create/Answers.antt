use Rattle.std.proofs.Common.{sym, ◌∙◌, arith}
use Rattle.meaning.specs.Text.{k_table, k_index, k_unique}
use Rattle.grammar.specs.Reader as reader
use Rattle.grammar.specs.Reader.{is_sign, is_word}
use Rattle.grammar.proofs.Tools.{choose_yes, choose_no}
use Rattle.text.specs.Cut.{tokens_at}
use Rattle.text.proofs.Steps.{taken-length}
use Rattle.text.proofs.Columns.{says_same}
use Rattle.text.proofs.statements.create.Goals as goal

pub returns-in-Some : goal.returns-in-Some
unfolding reader.create
returns-in-Some c = let b = c.args.source.bytes.now in
    says_same b c.create_table.new.nodes _ _ c.create_table.result (sym (choose_yes (is_word k_table) _ _ _ _ c.in-Some.ensures.0 c.in-Some.ensures.1)) c.create_table.ensures

pub returns-in-Some-take_key : goal.returns-in-Some-take_key
unfolding reader.create
returns-in-Some-take_key c = let b = c.args.source.bytes.now in
    says_same b c.create_index.new.nodes _ _ c.create_index.result (sym (choose_no (is_word k_table) _ _ _ c.in_default.ensures ∙ choose_yes (is_word k_index) _ _ _ _ c.in-Some-take_key.ensures.0 c.in-Some-take_key.ensures.1)) c.create_index.ensures

pub returns-in_err-unique : goal.returns-in_err-unique
unfolding reader.create
returns-in_err-unique c = let b = c.args.source.bytes.now in
    rw c.from_residual.ensures (choose_no (is_word k_table) _ _ _ c.in_default.ensures ∙ choose_no (is_word k_index) _ _ _ c.in_default-take_key.ensures ∙ choose_no (is_word k_unique) _ _ _ c.in_err-unique.ensures)

pub returns-in_err-index : goal.returns-in_err-index
unfolding reader.create
returns-in_err-index c = let b = c.args.source.bytes.now in
    rw c.from_residual-in_err-index.ensures (choose_no (is_word k_table) _ _ _ c.in_default.ensures ∙ choose_no (is_word k_index) _ _ _ c.in_default-take_key.ensures ∙ choose_yes (is_word k_unique) _ _ _ _ c.in_ok-unique.ensures.0 c.in_ok-unique.ensures.1 ∙ choose_no (is_word k_index) _ _ _ c.in_err-index.ensures)

pub create_index-requires-2 : goal.create_index-requires-2
unfolding reader.create
create_index-requires-2 c = let b = c.args.source.bytes.now in
    omega (arith, c.requires, taken-length (is_word k_unique) (tokens_at b c.args.at) (tokens_at b c.in_ok-unique.unique) c.in_ok-unique.ensures.0 c.in_ok-unique.ensures.1, taken-length (is_word k_index) (tokens_at b c.in_ok-unique.unique) (tokens_at b c.in_ok-index.index) c.in_ok-index.ensures.0 c.in_ok-index.ensures.1)

pub returns : goal.returns
unfolding reader.create
returns c = let b = c.args.source.bytes.now in
    says_same b c.create_index-2.new.nodes _ _ c.create_index-2.result (sym (choose_no (is_word k_table) _ _ _ c.in_default.ensures ∙ choose_no (is_word k_index) _ _ _ c.in_default-take_key.ensures ∙ choose_yes (is_word k_unique) _ _ _ _ c.in_ok-unique.ensures.0 c.in_ok-unique.ensures.1 ∙ choose_yes (is_word k_index) _ _ _ _ c.in_ok-index.ensures.0 c.in_ok-index.ensures.1)) c.create_index-2.ensures
