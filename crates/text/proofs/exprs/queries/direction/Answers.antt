use Rattle.std.proofs.Common.{sym, ◌∙◌}
use Rattle.meaning.specs.Text.{k_asc, k_desc}
use Rattle.grammar.specs.Reader.{is_word, gets}
use Rattle.grammar.proofs.Tools.{choose_yes, choose_no}
use Rattle.text.specs.Cut.{tokens_at}
use Rattle.text.proofs.Listed.{may-stand}
use Rattle.text.proofs.exprs.queries.direction.Goals as goal

pub returns-in-Some : goal.returns-in-Some
returns-in-Some c = choose_yes (is_word k_asc) _ _ _ _ c.in-Some.ensures.0 c.in-Some.ensures.1

pub returns : goal.returns
returns c = choose_no (is_word k_asc) _ _ _ c.in_default.ensures ∙ may-stand k_desc c.args.source.bytes.now c.args.at c.take_key-desc.result c.take_key-desc.ensures ∙ (λ i. gets (sym c.is_some.ensures i) (tokens_at c.args.source.bytes.now (sym c.unwrap_or.ensures i)))
