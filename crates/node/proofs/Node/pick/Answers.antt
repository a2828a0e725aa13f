use Rattle.std.proofs.Common.{subst}
use Rattle.node.specs.Node.{count_in, Parted}
use Rattle.node.proofs.Picking.{picked}
use Rattle.node.proofs.Node.pick.Goals as goal

pub returns : goal.returns
returns c = λ k e f s h.
    picked c.args.self.page.now k c.under.result (subst (λ x. Parted c.args.self.page.now x (count_in c.args.self.page.now) c.under.result) e (c.under.ensures f s)) h c.saturating_sub.result c.saturating_sub.ensures
