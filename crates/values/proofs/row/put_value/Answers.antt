use Rattle.std.proofs.Common.{◌+◌, ◌++◌, length, set, sym, ap, ◌∙◌, arith, rules, w64, SFits, length-set}
use Rattle.std.proofs.lemmas.Int.{to_z-of_z}
use Rattle.meaning.specs.Doing.{weight}
use Rattle.octets.specs.Numbers.{be}
use Rattle.octets.specs.Parts.{put, put_in}
use Rattle.octets.proofs.Numbers.{length-be}
use Rattle.octets.proofs.Parts.{put_one}
use Rattle.values.specs.Kind.{number_of, kind_of}
use Rattle.values.specs.Key.{lifted}
use Rattle.values.specs.Row.{bytes_of}
use Rattle.values.specs.Meant.{meaning_of}
use Rattle.values.proofs.Writing.{first-put, first-put_in, some-weight}
use Rattle.values.proofs.row.put_value.Goals as goal

pub bounds-out-at : goal.bounds-out-at
bounds-out-at c = let w = some-weight (meaning_of c.args.value) in omega arith

pub put_text-requires-clause-room : goal.put_text-requires-clause-room
unfolding weight
put_text-requires-clause-room c = let w = ap (λ v. weight (meaning_of v)) c.in-Text.is in simp length-set (omega (arith, w))

pub put_text-requires-clause-short : goal.put_text-requires-clause-short
unfolding weight
put_text-requires-clause-short c = let w = ap (λ v. weight (meaning_of v)) c.in-Text.is in omega (arith, w)

pub returns-in-Null : goal.returns-in-Null
unfolding bytes_of
returns-in-Null c =
    let w = some-weight (meaning_of c.args.value) in
    let first = c.in_row.ensures ∙ ap number_of c.kind.ensures ∙ ap (λ v. number_of (kind_of v)) c.in-Null.is in
    ap (set c.args.out.now c.args.at) first
    ∙ put_one c.args.out.now c.args.at 0 (omega arith)
    ∙ ap (λ v. put c.args.out.now c.args.at (bytes_of (meaning_of v))) (sym c.in-Null.is)

pub returns-in-Number : goal.returns-in-Number
unfolding bytes_of weight
returns-in-Number c =
    let w = ap (λ v. weight (meaning_of v)) c.in-Number.is in
    let f : SFits w64 c.in-Number.n = search rules in
    let e = c.lift.ensures ∙ ap lifted (to_z-of_z w64 c.in-Number.n f) in
    let l = length-be 8 (lifted c.in-Number.n) in
    let first = c.in_row.ensures ∙ ap number_of c.kind.ensures ∙ ap (λ v. number_of (kind_of v)) c.in-Number.is in
    first-put_in c.args.out.now c.put_u64.new.out (be 8 (lifted c.in-Number.n)) c.args.at c.in_row.result 1 first (c.put_u64.ensures ∙ ap (λ n. put_in (set c.args.out.now c.args.at c.in_row.result) (c.args.at + 1) (be 8 n)) e) (omega (arith, w))
    ∙ ap (λ v. put c.args.out.now c.args.at (bytes_of (meaning_of v))) (sym c.in-Number.is)

pub returns-in-Text : goal.returns-in-Text
unfolding bytes_of weight
returns-in-Text c =
    let w = ap (λ v. weight (meaning_of v)) c.in-Text.is in
    let text = c.in-Text.text.now in
    let first = c.in_row.ensures ∙ ap number_of c.kind.ensures ∙ ap (λ v. number_of (kind_of v)) c.in-Text.is in
    first-put c.args.out.now c.put_text.new.out (be 2 (length text) ++ text) c.args.at c.in_row.result 2 first c.put_text.ensures (omega (arith, w))
    ∙ ap (λ v. put c.args.out.now c.args.at (bytes_of (meaning_of v))) (sym c.in-Text.is)
