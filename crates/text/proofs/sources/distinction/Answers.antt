use Rattle.std.proofs.Common.{sym, ◌∙◌}
use Rattle.meaning.specs.Text.{k_distinct}
use Rattle.grammar.specs.Reader.{gets}
use Rattle.text.specs.Cut.{tokens_at}
use Rattle.text.proofs.Listed.{may-stand}
use Rattle.text.proofs.sources.distinction.Goals as goal

pub returns : goal.returns
returns c = may-stand k_distinct c.args.source.bytes.now c.args.at c.take_key-distinct.result c.take_key-distinct.ensures ∙ (λ i. gets (sym c.is_some.ensures i) (tokens_at c.args.source.bytes.now (sym c.unwrap_or.ensures i)))
