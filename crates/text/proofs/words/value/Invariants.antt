use Rattle.std.proofs.Common.{◌≡◌, drop}
use Rattle.text.specs.Cut.{decimal}
use Rattle.text.proofs.words.value.Given as goal

abbrev pub invariant-loop-digit : goal.invariant-loop-digit
invariant-loop-digit l = decimal l.value (drop l.digit-index l.digits) ≡ decimal 0 l.digits
