use Rattle.std.proofs.Common.{◌≡◌, ◌-◌, ◌≤◌, length, take}
use Rattle.values.specs.Back.{unescaped}
use Rattle.values.proofs.Unescaping.{behind}
use Rattle.values.proofs.back.unescape.Given as goal

-- what is left, behind what was taken, is the text
abbrev pub invariant-loop-byte : goal.invariant-loop-byte
invariant-loop-byte l = (behind (take l.len l.out) (unescaped (4000 - l.len) l.rest) ≡ unescaped 4000 l.bytes) × (l.len ≤ 4000)

abbrev pub decreases-loop-byte : goal.decreases-loop-byte
decreases-loop-byte l = length l.rest
