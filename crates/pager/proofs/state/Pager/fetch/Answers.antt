use Rattle.std.proofs.Common.{◌≡◌, ℕ, ◌<◌, ◌≤◌, List, length, get_or, sym, refl, ap, ◌∙◌, inr, arith, rules}
use Rattle.std.proofs.lemmas.List.{with_items_is, places}
use Rattle.pager.specs.Steps.{Owners}
use Rattle.pager.proofs.state.Pager.fetch.Goals as goal

-- the slots that the pages have are those of the first entries
as-linked : (base b owner o : List ℕ) (n s : ℕ) → length b ≡ n → ((p : ℕ) → p < n → get_or b p 0 ≡ get_or base p 0) → s < length owner → Owners b owner (length b) → o ≡ owner →
    (p : ℕ) → p < n → get_or base p 0 ≤ s → (get_or o (get_or base p 0) 0 < n) × (get_or base (get_or o (get_or base p 0) 0) 0 ≡ get_or base p 0)
as-linked base b owner o n s l e k h z p i j =
    let x = e p i in
    let u = h p (omega arith) (omega arith) in
    let y : get_or o (get_or base p 0) 0 ≡ get_or owner (get_or b p 0) 0 = ap (λ t. get_or t (get_or base p 0) 0) z ∙ ap (λ q. get_or owner q 0) (sym x) in
    let v : get_or o (get_or base p 0) 0 < n = omega (arith, u.0, l) in
    (v, sym (e (get_or o (get_or base p 0) 0) v) ∙ ap (λ q. get_or b q 0) y ∙ u.1 ∙ x)

pub returns-else-i-self : goal.returns-else-i-self
returns-else-i-self c =
    record {
      sizes = search rules;
      at = inr (
        c.if-i-self.false,
        record {
          ask = refl;
          phase = refl;
          second = refl;
          base = refl;
          present = search rules;
          owner = let w = with_items_is c.args.self.now.owner c.link.new.owner (omega arith) in as-linked _ _ _ _ _ _ (search rules) (λ p l. search (rules, places)) (omega arith) c.link.ensures w;
        },
      );
    }
