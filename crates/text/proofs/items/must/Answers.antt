use Rattle.std.proofs.Common.{◌∙◌}
use Rattle.meaning.specs.Text.{k_not, k_null}
use Rattle.grammar.specs.Reader.{is_word}
use Rattle.grammar.proofs.Tools.{choose_yes, choose_no}
use Rattle.text.proofs.items.must.Goals as goal

pub returns-in_default : goal.returns-in_default
returns-in_default c = choose_no (is_word k_not) _ _ _ c.in_default.ensures

pub returns-in_err-after : goal.returns-in_err-after
returns-in_err-after c = rw c.from_residual.ensures (choose_yes (is_word k_not) _ _ _ _ c.in-Some.ensures.0 c.in-Some.ensures.1 ∙ choose_no (is_word k_null) _ _ _ c.in_err-after.ensures)

pub returns : goal.returns
returns c = choose_yes (is_word k_not) _ _ _ _ c.in-Some.ensures.0 c.in-Some.ensures.1 ∙ choose_yes (is_word k_null) _ _ _ _ c.in_ok-after.ensures.0 c.in_ok-after.ensures.1
