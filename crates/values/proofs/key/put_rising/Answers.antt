use Rattle.std.proofs.Common.{◌≡◌, suc, ◌+◌, length, set, sym, ap, ◌∙◌, arith, length-set, w64, SFits, rules}
use Rattle.std.proofs.lemmas.Int.{to_z-of_z}
use Rattle.meaning.specs.Doing.{weight}
use Rattle.octets.specs.Numbers.{be}
use Rattle.octets.specs.Parts.{put, put_in}
use Rattle.octets.proofs.Numbers.{length-be}
use Rattle.octets.proofs.Parts.{put_one}
use Rattle.values.specs.Kind.{number_of, kind_of}
use Rattle.values.specs.Key.{lifted, escaped, rising_code}
use Rattle.values.specs.Meant.{meaning_of}
use Rattle.values.proofs.Writing.{first-put, first-put_in}
use Rattle.values.proofs.key.put_rising.Goals as goal

pub put_escaped-requires : goal.put_escaped-requires
unfolding weight
put_escaped-requires c = let w = ap (λ v. weight (meaning_of v)) c.in-Text.is in simp length-set (omega (arith, w))

pub returns-in-Null : goal.returns-in-Null
unfolding rising_code
returns-in-Null c =
    let first = c.in_key.ensures ∙ ap (λ k. number_of k + 1) c.kind.ensures ∙ ap (λ v. number_of (kind_of v) + 1) c.in-Null.is in
    record {
      place = ap (λ v. c.args.at + length (rising_code (meaning_of v))) (sym c.in-Null.is);
      bytes =
          ap (set c.args.out.now c.args.at) first
          ∙ put_one c.args.out.now c.args.at 1 (omega arith)
          ∙ ap (λ v. put c.args.out.now c.args.at (rising_code (meaning_of v))) (sym c.in-Null.is);
    }

pub returns-in-Number : goal.returns-in-Number
unfolding rising_code weight
returns-in-Number c =
    let w = ap (λ v. weight (meaning_of v)) c.in-Number.is in
    let f : SFits w64 c.in-Number.n = search rules in
    let e = c.lift.ensures ∙ ap lifted (to_z-of_z w64 c.in-Number.n f) in
    let l = length-be 8 (lifted c.in-Number.n) in
    let first = c.in_key.ensures ∙ ap (λ k. number_of k + 1) c.kind.ensures ∙ ap (λ v. number_of (kind_of v) + 1) c.in-Number.is in
    record {
      place = ap (λ n. c.args.at + suc n) (sym l) ∙ ap (λ v. c.args.at + length (rising_code (meaning_of v))) (sym c.in-Number.is);
      bytes =
          first-put_in c.args.out.now c.put_u64.new.out (be 8 (lifted c.in-Number.n)) c.args.at c.in_key.result 2 first (c.put_u64.ensures ∙ ap (λ n. put_in (set c.args.out.now c.args.at c.in_key.result) (c.args.at + 1) (be 8 n)) e) (omega (arith, w))
          ∙ ap (λ v. put c.args.out.now c.args.at (rising_code (meaning_of v))) (sym c.in-Number.is);
    }

pub returns-in-Text : goal.returns-in-Text
unfolding rising_code
returns-in-Text c =
    let text = c.in-Text.text.now in
    let first = c.in_key.ensures ∙ ap (λ k. number_of k + 1) c.kind.ensures ∙ ap (λ v. number_of (kind_of v) + 1) c.in-Text.is in
    record {
      place = c.put_escaped.ensures.place ∙ (let e : c.args.at + 1 + length (escaped text) ≡ c.args.at + suc (length (escaped text)) = omega arith in e) ∙ ap (λ v. c.args.at + length (rising_code (meaning_of v))) (sym c.in-Text.is);
      bytes =
          first-put c.args.out.now c.put_escaped.new.out (escaped text) c.args.at c.in_key.result 3 first c.put_escaped.ensures.bytes (omega arith)
          ∙ ap (λ v. put c.args.out.now c.args.at (rising_code (meaning_of v))) (sym c.in-Text.is);
    }
