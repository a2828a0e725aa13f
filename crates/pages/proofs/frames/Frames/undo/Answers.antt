use Rattle.std.proofs.Common.{ℕ, Bool, false, List, get_or, vec_len, ap, ◌∙◌, rules}
use Rattle.octets.proofs.Parts.{replicate-at}
use Rattle.pages.specs.Layer.{tg, st}
use Rattle.pages.specs.declared.frames.Frames.{Frames}
use Rattle.pages.proofs.frames.Frames.undo.Goals as goal

pub returns : goal.returns
returns c =
    record {
      turn = search rules;
      doing = search rules;
      none = λ f. ap (λ (m : Frames). tg m f) c.ask.ensures.rest ∙ ap (λ (t : List ℕ). get_or t f 0) (c.fill.ensures.items (λ y e. e)) ∙ replicate-at 0 (vec_len c.args.self.now.tags) f;
      clean = λ f. ap (λ (m : Frames). st m f) c.ask.ensures.rest ∙ ap (λ (t : List Bool). get_or t f false) (c.fill-2.ensures.items (λ y e. e)) ∙ replicate-at false (vec_len c.args.self.now.stale) f;
    }
