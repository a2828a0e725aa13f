-- How many pages there may be before a device of so many sectors has no room, and what that says of the entries.
use Rattle.std.specs.Prelude.{ℕ, ◌+◌, ◌-◌, ◌*◌, ◌/◌, ◌^◌, ◌<◌, ◌≤◌, List, ◌∷◌, length}
use Rattle.tree.specs.Entries.{Entry}
use Rattle.tree.specs.Pages.{weigh, Apart}
use Rattle.tree.specs.Tree.{Node, pages, entries, Stands, count_all}

-- the slots of 4,096 bytes that such a device has, beside its header and two maps of 8 bytes a page
abbrev pub slots : ℕ → ℕ
slots size = (size - 1 - 2 * ((size / 8 + 63) / 64)) / 8

-- a tree of so many levels and pages, whose entries weigh so much; no tree at all has none of either
pub record Sized (levels count bytes : ℕ) : Type 0 where
  pub space : 1226 * count ≤ 1226 * levels + bytes
  pub height : 12 ≤ levels → 4089 * 5 ^ (levels - 2) ≤ 2 * (2 ^ (levels - 2) * bytes)

-- a tree that stands is so sized
abbrev pub StandsSized : Type 0
StandsSized = (v w : Entry → ℕ) (below : List Node) (more : List (List Node)) → Apart v 4088 (pages below) → Stands w 4088 1012 below more → Sized (length (below ∷ more)) (count_all (below ∷ more)) (weigh v (entries below))

-- WANT OF ROOM SAYS: where the pages as committed and as they are, and what one change can take, are more than the slots, 1 MiB and four times what the entries weigh, as committed and as they are, is more than the device.
abbrev pub RoomSays : Type 0
RoomSays =
    (size levels₀ count₀ bytes₀ levels count bytes : ℕ) → 4096 ≤ size → Sized levels₀ count₀ bytes₀ → Sized levels count bytes → slots size < count₀ + count + (17 * levels + 24) → 512 * size < 1048576 + 4 * (bytes₀ + bytes)
