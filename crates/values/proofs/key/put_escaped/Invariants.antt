use Rattle.std.proofs.Common.{◌≡◌, ◌+◌, ◌-◌, ◌*◌, ◌≤◌, length, drop}
use Rattle.octets.specs.Parts.{put}
use Rattle.values.specs.Key.{escaped}
use Rattle.values.proofs.key.put_escaped.Given as goal

-- what is left of the text makes the same bytes, the same end, and has room
abbrev pub invariant-loop-byte : goal.invariant-loop-byte
invariant-loop-byte l =
    (put l.out l.end (escaped (drop l.byte-index l.text)) ≡ put l.initial.out l.at (escaped l.text)) ×
    (l.end + length (escaped (drop l.byte-index l.text)) ≡ l.at + length (escaped l.text)) ×
    (l.end + (2 * (length l.text - l.byte-index) + 2) ≤ length l.out)
