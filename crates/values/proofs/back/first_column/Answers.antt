use Rattle.std.proofs.Common.{◌+◌, sym, ap, ◌∙◌}
use Rattle.std.specs.Option.{option_map}
use Rattle.values.specs.Kind.{number_of}
use Rattle.values.specs.Row.{seen}
use Rattle.values.proofs.Unescaping.{back-nil, back-is, back-other}
use Rattle.values.proofs.back.first_column.Goals as goal

pub returns-in_err-byte : goal.returns-in_err-byte
returns-in_err-byte c = ap (option_map seen) c.from_residual.ensures ∙ sym (back-nil c.args.key.now c.in_err-byte.ensures.cases)

pub returns-in_err-of_key : goal.returns-in_err-of_key
returns-in_err-of_key c = ap (option_map seen) c.from_residual-in_err-of_key.ensures ∙ sym (back-other c.args.key.now c.in_ok-byte.rest.now c.in_ok-byte.field-0-0.now c.in_ok-byte.ensures.cases.0 c.in_err-of_key.ensures)

pub returns-in-Null : goal.returns-in-Null
returns-in-Null c = sym (back-is c.args.key.now c.in_ok-byte.rest.now c.in_ok-byte.field-0-0.now 1 c.in_ok-byte.ensures.cases.0 (c.in_ok-of_key.ensures ∙ ap (λ k. number_of k + 1) c.in-Null.is))

pub returns-in-Number : goal.returns-in-Number
returns-in-Number c = c.first_number.ensures ∙ sym (back-is c.args.key.now c.in_ok-byte.rest.now c.in_ok-byte.field-0-0.now 2 c.in_ok-byte.ensures.cases.0 (c.in_ok-of_key.ensures ∙ ap (λ k. number_of k + 1) c.in-Number.is))

pub returns-in-Text : goal.returns-in-Text
returns-in-Text c = c.text_back.ensures ∙ sym (back-is c.args.key.now c.in_ok-byte.rest.now c.in_ok-byte.field-0-0.now 3 c.in_ok-byte.ensures.cases.0 (c.in_ok-of_key.ensures ∙ ap (λ k. number_of k + 1) c.in-Text.is))
