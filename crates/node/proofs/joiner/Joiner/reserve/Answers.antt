use Rattle.std.proofs.Common.{◌≡◌, false, cond, ltb, [], ◌∷◌, ◌++◌, sym, refl, ap, arith}
use Rattle.std.proofs.lemmas.Bool.{le-ltb}
use Rattle.node.specs.Joiner.{spare}
use Rattle.node.proofs.joiner.Joiner.reserve.Goals as goal

pub returns : goal.returns
returns c =
    let m = c.args.self.now in
    let e : ltb (spare m.pages) c.args.weight ≡ false = le-ltb _ _ (omega (arith, c.room.ensures, c.if-room-weight.false)) in
    (refl, ap (λ t. cond t (m.pages ++ ([] ∷ [])) m.pages) (sym e))
