use Rattle.std.proofs.Common.{sym, ap, ◌∙◌, rules}
use Rattle.std.specs.Option.{option_map}
use Rattle.values.specs.Kind.{number_of}
use Rattle.values.specs.Row.{seen}
use Rattle.values.proofs.Rows.{front-none, front-is, front-other}
use Rattle.values.proofs.row.first_value.Goals as goal

pub returns-in_err-byte : goal.returns-in_err-byte
returns-in_err-byte c = search (rules, front-none)

pub returns-in_err-of_row : goal.returns-in_err-of_row
returns-in_err-of_row c = ap (option_map seen) c.from_residual-in_err-of_row.ensures ∙ sym (front-other c.args.bytes.now c.in_ok-byte.rest.now c.in_ok-byte.field-0-0.now c.in_ok-byte.ensures.cases.0 c.in_err-of_row.ensures)

pub returns-in-Null : goal.returns-in-Null
returns-in-Null c = sym (front-is c.args.bytes.now c.in_ok-byte.rest.now c.in_ok-byte.field-0-0.now 0 c.in_ok-byte.ensures.cases.0 (c.in_ok-of_row.ensures ∙ ap number_of c.in-Null.is))

pub returns-in-Number : goal.returns-in-Number
returns-in-Number c = c.first_number.ensures ∙ sym (front-is c.args.bytes.now c.in_ok-byte.rest.now c.in_ok-byte.field-0-0.now 1 c.in_ok-byte.ensures.cases.0 (c.in_ok-of_row.ensures ∙ ap number_of c.in-Number.is))

pub returns-in-Text : goal.returns-in-Text
returns-in-Text c = c.first_text.ensures ∙ sym (front-is c.args.bytes.now c.in_ok-byte.rest.now c.in_ok-byte.field-0-0.now 2 c.in_ok-byte.ensures.cases.0 (c.in_ok-of_row.ensures ∙ ap number_of c.in-Text.is))
