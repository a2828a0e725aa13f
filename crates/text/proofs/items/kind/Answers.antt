use Rattle.std.proofs.Common.{◌∙◌}
use Rattle.meaning.specs.Text.{k_int, k_text}
use Rattle.grammar.specs.Reader.{is_word}
use Rattle.grammar.proofs.Tools.{choose_yes, choose_no}
use Rattle.text.proofs.items.kind.Goals as goal

pub returns-in-Some : goal.returns-in-Some
returns-in-Some c = choose_yes (is_word k_int) _ _ _ _ c.in-Some.ensures.0 c.in-Some.ensures.1

pub returns-in_err-after : goal.returns-in_err-after
returns-in_err-after c = rw c.from_residual.ensures (choose_no (is_word k_int) _ _ _ c.in_default.ensures ∙ choose_no (is_word k_text) _ _ _ c.in_err-after.ensures)

pub returns : goal.returns
returns c = choose_no (is_word k_int) _ _ _ c.in_default.ensures ∙ choose_yes (is_word k_text) _ _ _ _ c.in_ok-after.ensures.0 c.in_ok-after.ensures.1
