-- What was written is the text up to here, doubled.
use Rattle.std.proofs.Common.{◌≡◌, ◌++◌, take, vec_items}
use Rattle.console.specs.Text.{doubled}
use Rattle.console.proofs.answers.push_doubled.Given as goal

abbrev pub invariant-loop-byte : goal.invariant-loop-byte
invariant-loop-byte l = vec_items l.out ≡ vec_items l.initial.out ++ doubled (take l.byte-index l.text)
