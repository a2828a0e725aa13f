use Rattle.std.proofs.Common.{rules, refl, sym}
use Rattle.meaning.specs.Tree as tree
use Rattle.meaning.specs.Text.{k_to}
use Rattle.grammar.specs.Reader.{is_word}
use Rattle.grammar.proofs.Tools.{choose_yes, choose_no}
use Rattle.text.proofs.Columns.{name-said, names_same}
use Rattle.text.proofs.statements.rollback.Goals as goal

pub returns-in_default : goal.returns-in_default
returns-in_default c = let b = c.args.source.bytes.now in
    (tree.rollback, choose_no (is_word k_to) _ _ _ c.in_default.ensures, λ f. refl)

pub returns : goal.returns
returns c = let b = c.args.source.bytes.now in
    names_same b _ _ c.named.result (sym (choose_yes (is_word k_to) _ _ _ _ c.in-Some.ensures.0 c.in-Some.ensures.1)) (name-said b _ tree.rollback_to (λ x s p f. (x, (search rules), refl)) _ c.named.result c.named.ensures)
