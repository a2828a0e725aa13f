use Rattle.std.proofs.Common.{◌≡◌, ℕ, ◌<◌, Bool, sym, subst, arith, rules}
use Rattle.meaning.specs.Value.{less_bytes}
use Rattle.node.specs.Node.{count_in, key_at}
use Rattle.node.specs.Look.{Falls, Halved}
use Rattle.node.proofs.Halving.{rising-falls}
use Rattle.node.proofs.Node.under.Goals as goal

pub returns : goal.returns
returns c = λ f s.
    let page = c.args.self.page.now in
    let test : ℕ → Bool = (λ i. less_bytes (key_at page i) c.args.wanted.now) in
    let n : c.count.result ≡ count_in page = c.count.ensures.is in
    let h : Halved c.count.result test c.halve.result = c.halve.ensures test (λ i t l p. let b : i < count_in page = omega arith in search rules) (subst (λ m. Falls m test) (sym n) (rising-falls page c.args.wanted.now (count_in page) s)) in
    record { few = omega (arith, h.few); under = h.under; from = λ i a l. h.from i a (omega arith) }
