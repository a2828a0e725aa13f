use Rattle.std.proofs.Common.{◌≡◌, replicate, vec_len, ap, ◌∙◌, inl, inr, arith, rules}
use Rattle.shadow.proofs.Pages.{zeros-replicate}
use Rattle.pager.specs.Steps.{held}
use Rattle.pager.proofs.state.Pager.get.Goals as goal

pub returns-in_default : goal.returns-in_default
returns-in_default c =
    let z : vec_len c.args.self.now.page ≡ 4096 = omega arith in
    record {
      sizes = search rules;
      at = inr (inl (record {
        inside = search rules;
        none = search rules;
        goes = search rules;
        page = ap held c.answer-in_default.ensures.rest ∙ c.fill.ensures.items (λ y e. e) ∙ ap (λ k. replicate k 0) z ∙ zeros-replicate 4096;
      }));
    }
