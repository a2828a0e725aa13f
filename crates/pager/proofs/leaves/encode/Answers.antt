use Rattle.std.proofs.Common.{ℕ, ◌+◌, ◌-◌, ◌*◌, List, length, get_or, take, drop, ap, ◌∙◌, rules}
use Rattle.shadow.specs.Layout.{raw_in}
use Rattle.octets.specs.Numbers.{be}
use Rattle.octets.proofs.Parts.{length-put_in}
use Rattle.pager.proofs.Turns.{raw-more}
use Rattle.pager.proofs.leaves.encode.Goals as goal

pub loop-k-preserved : goal.loop-k-preserved
loop-k-preserved c =
    let at = 64 * c.args.i in
    let f : ℕ → ℕ = λ j. get_or (take (at + 64 - at) (drop at c.args.present.now)) j 0 in
    let s = c.loop-k.sector in
    let k = c.loop-k.k in
    let w = c.loop-k.invariant in
    record {
      written = λ j h. ap (λ (t : List ℕ). raw_in t j) c.put_u64.ensures ∙ raw-more s f k (search rules) w.long (search rules) w.written j h;
      long = ap length c.put_u64.ensures ∙ length-put_in s (be 8 (f k)) (8 * k) ∙ w.long;
    }
