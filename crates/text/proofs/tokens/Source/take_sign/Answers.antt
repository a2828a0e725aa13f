use Rattle.std.proofs.Common.{rules, ◌≡◌, ap, ◌∙◌}
use Rattle.std.proofs.lemmas.Bool.{eq-eqb, ne_eqb}
use Rattle.grammar.specs.Reader.{is_sign}
use Rattle.text.specs.Cut.{number_of}
use Rattle.text.proofs.Takes as takes
use Rattle.text.proofs.tokens.Source.take_sign.Goals as goal

pub returns-in_default : goal.returns-in_default
returns-in_default c = takes.sign-none (number_of c.args.sign) c.args.self.bytes.now c.args.at.tok c.args.at.rest c.in_default.not-Sign

pub returns-then-ne : goal.returns-then-ne
returns-then-ne c =
    takes.sign-head c.args.self.bytes.now c.args.at c.args.sign c.in-Sign.found c.in-Sign.is
    ∙ ne_eqb (number_of c.in-Sign.found) (number_of c.args.sign) (λ e. let same = takes.same-sign c.in-Sign.found c.args.sign e in search rules)

pub returns : goal.returns
returns c =
    let same : c.in-Sign.found ≡ c.args.sign = search rules in
    let head = takes.sign-head c.args.self.bytes.now c.args.at c.args.sign c.in-Sign.found c.in-Sign.is ∙ eq-eqb (number_of c.in-Sign.found) (number_of c.args.sign) (ap number_of same) in
    (head, takes.next-is c.args.self.bytes.now c.args.at (is_sign (number_of c.args.sign)) _ head c.next.ensures)
