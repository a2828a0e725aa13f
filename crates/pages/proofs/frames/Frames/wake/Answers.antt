use Rattle.std.proofs.Common.{ℕ, Bool, false, List, get_or, refl, ap, ◌∙◌}
use Rattle.octets.proofs.Parts.{replicate-at}
use Rattle.pages.proofs.frames.Frames.wake.Goals as goal

pub returns-clause-wakes : goal.returns-clause-wakes
returns-clause-wakes c =
    record {
      doing = refl;
      none = λ f. ap (λ (t : List ℕ). get_or t f 0) (c.in_ok-tags.ensures.items_if_clones_equal (λ y e. e)) ∙ replicate-at 0 128 f;
      clean = λ f. ap (λ (t : List Bool). get_or t f false) (c.in_ok-stale.ensures.items_if_clones_equal (λ y e. e)) ∙ replicate-at false 128 f;
    }
