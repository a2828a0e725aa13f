use Rattle.std.proofs.Common.{sym, ap, ◌∙◌, arith}
use Rattle.meaning.specs.Value.{Text, joined}
use Rattle.values.specs.Meant.{meaning_of}
use Rattle.values.proofs.Numbers.{joined-short}
use Rattle.octets.proofs.Parts.{two-copies}
use Rattle.values.proofs.Value.concat.Goals as goal

pub returns : goal.returns
unfolding joined
returns c =
    let a = c.in-Text-Text.a.now in
    let b = c.in-Text-Text.b.now in
    ap Text (two-copies a b c.copy_from_slice.new.self c.copy_from_slice-2.new.self c.args.out.now c.copy_from_slice.ensures.after c.copy_from_slice-2.ensures.after (omega arith))
    ∙ joined-short a b (omega arith)
    ∙ ap (λ v. joined (meaning_of v) (Text b)) (sym c.in-Text-Text.is-0)
    ∙ ap (λ v. joined (meaning_of c.args.self) (meaning_of v)) (sym c.in-Text-Text.is-1)
