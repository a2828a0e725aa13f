use Rattle.std.proofs.Common.{◌+◌, false, ◌∷◌, take, drop, ◌∙◌}
use Rattle.meaning.specs.Text.{Quoted, tokens, Between}
use Rattle.text.specs.Cut.{undoubled}
use Rattle.text.proofs.Cuts as cuts
use Rattle.text.proofs.tokens.Source.quoted_at.Goals as goal

pub returns-in_default : goal.returns-in_default
returns-in_default c = cuts.placed c.args.self.bytes.now _ _ _ _ c.found.ensures (cuts.open-cut c.args.self.bytes.now c.args.at c.requires.0 c.requires.1 (simp c.bytes_from.ensures at c.in_default.ensures))

pub returns : goal.returns
returns c = let bs = c.args.self.bytes.now in
    cuts.placed bs _ _ _ _ c.found-2.ensures ((λ i. Quoted (undoubled false (take (c.span.ensures.1 i) (drop (c.span.ensures.0 i) bs))) ∷ tokens Between (drop (c.args.at + c.in-Some.len + 2) bs))
    ∙ cuts.quoted-cut bs c.args.at c.requires.0 c.in-Some.len c.requires.1 (simp c.bytes_from.ensures at c.in-Some.ensures.1))
