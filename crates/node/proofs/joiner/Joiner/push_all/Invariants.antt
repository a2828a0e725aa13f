-- What is left to be pushed comes to the same as all did at first, and there is room for it.
use Rattle.std.proofs.Common.{◌≡◌, ◌-◌, ◌<◌, ◌≤◌, length}
use Rattle.tree.specs.Bytes.{taken}
use Rattle.tree.specs.Pages.{weigh}
use Rattle.node.specs.Node.{count_in, entries_from, entries_in, Whole}
use Rattle.node.specs.Joiner.{spare, on_last_all}
use Rattle.node.proofs.joiner.Joiner.push_all.Given as goal

abbrev pub invariant-loop-i : goal.invariant-loop-i
invariant-loop-i l =
    let page = l.node.page.now in
    let rest = entries_from page l.i (count_in page - l.i) in
    Whole page → 0 < length l.initial.self.pages → weigh taken (entries_in page) ≤ spare l.initial.self.pages →
    (0 < length l.self.pages) × (weigh taken rest ≤ spare l.self.pages)
    × (l.self.level ≡ l.initial.self.level) × (on_last_all rest l.self.pages ≡ on_last_all (entries_in page) l.initial.self.pages)
