use Rattle.std.proofs.Common.{ℕ, ◌*◌, ◌<◌, List, ap, ◌∙◌, inl, inr, arith, rules}
use Rattle.std.proofs.lemmas.List.{with_items_is}
use Rattle.octets.specs.Parts.{put}
use Rattle.octets.proofs.Parts.{put_in-fits}
use Rattle.pager.specs.Steps.{held}
use Rattle.pager.proofs.state.Pager.gather.Goals as goal

pub returns-then-j-eq7 : goal.returns-then-j-eq7
returns-then-j-eq7 c = record {
  sizes = search rules;
  at = inr (inl (record {
    long = search rules;
    last = search rules;
    goes = search rules;
    page = ap held c.answer-then-j-eq7.ensures.rest ∙ with_items_is c.args.self.now.page c.put_bytes.new.out (omega arith) ∙ c.put_bytes.ensures
        ∙ put_in-fits c.deref_mut.result.now c.args.given.now (512 * c.args.j) (omega arith)
        ∙ ap (λ (t : List ℕ). put t (512 * c.args.j) c.args.given.now) c.deref_mut.ensures.value;
  }));
}

pub returns : goal.returns
returns c =
    let low : c.args.j < 8 = search rules in
    record {
      sizes = search rules;
      at = inl (record {
        long = search rules;
        one = search rules;
        fits = search rules;
        less = search rules;
        goes = search rules;
        page = with_items_is c.args.self.now.page c.put_bytes.new.out (omega arith) ∙ c.put_bytes.ensures
            ∙ put_in-fits c.deref_mut.result.now c.args.given.now (512 * c.args.j) (omega arith)
            ∙ ap (λ (t : List ℕ). put t (512 * c.args.j) c.args.given.now) c.deref_mut.ensures.value;
      });
    }
