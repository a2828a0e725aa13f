use Rattle.std.proofs.Common.{rules, refl, sym, ◌∙◌}
use Rattle.meaning.specs.Tree as tree
use Rattle.meaning.specs.Text.{k_table, k_index}
use Rattle.grammar.specs.Reader as reader
use Rattle.grammar.specs.Reader.{is_sign, is_word}
use Rattle.grammar.proofs.Tools.{choose_yes, choose_no}
use Rattle.text.proofs.Columns.{name-said, names_same}
use Rattle.text.proofs.statements.drop_one.Goals as goal

pub returns-in-Some : goal.returns-in-Some
unfolding reader.drop
returns-in-Some c = let b = c.args.source.bytes.now in
    names_same b _ _ c.named.result (sym (choose_yes (is_word k_table) _ _ _ _ c.in-Some.ensures.0 c.in-Some.ensures.1)) (name-said b _ tree.drop_table (λ x s p f. (x, (search rules), refl)) _ c.named.result c.named.ensures)

pub returns-in_err-index : goal.returns-in_err-index
unfolding reader.drop
returns-in_err-index c = let b = c.args.source.bytes.now in
    rw c.from_residual.ensures (choose_no (is_word k_table) _ _ _ c.in_default.ensures ∙ choose_no (is_word k_index) _ _ _ c.in_err-index.ensures)

pub returns : goal.returns
unfolding reader.drop
returns c = let b = c.args.source.bytes.now in
    names_same b _ _ c.named-2.result (sym (choose_no (is_word k_table) _ _ _ c.in_default.ensures ∙ choose_yes (is_word k_index) _ _ _ _ c.in_ok-index.ensures.0 c.in_ok-index.ensures.1)) (name-said b _ tree.drop_index (λ x s p f. (x, (search rules), refl)) _ c.named-2.result c.named-2.ensures)
