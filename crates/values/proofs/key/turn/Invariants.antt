use Rattle.std.proofs.Common.{◌≡◌, ◌++◌, take, drop}
use Rattle.octets.specs.Numbers.{turned}
use Rattle.values.proofs.key.turn.Given as goal

-- what was passed is turned, the rest is as it was
abbrev pub invariant-loop-byte : goal.invariant-loop-byte
invariant-loop-byte l = l.byte-items ≡ turned (take l.byte-index l.fn.part) ++ drop l.byte-index l.fn.part
