use Rattle.std.proofs.Common.{rules}
use Rattle.console.proofs.Doubling.{doubled-none, doubled-more}
use Rattle.console.proofs.answers.push_doubled.Goals as goal

pub loop-byte-init : goal.loop-byte-init
loop-byte-init c = doubled-none _

pub loop-byte-preserved : goal.loop-byte-preserved
loop-byte-preserved c = search (rules, doubled-more)
