use Rattle.std.proofs.Common.{◌≡◌, true, false, rules}
use Rattle.std.proofs.lemmas.Iterator.{first_from_Range}
use Rattle.pages.specs.Layer.{st}
use Rattle.pages.proofs.frames.Frames.next_stale.Goals as goal

pub returns : goal.returns
returns c =
    let m = c.args.self.now in
    first_from_Range _ _ _ c.find.result (λ k. st m k ≡ true) (λ k. st m k ≡ false) c.find.ensures.ran (λ x q k. search rules) (λ x q k. search rules)
