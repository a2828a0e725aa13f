-- Where things stand on the device, and what the bytes mean. N: pages; M: map sectors an area; S: slots, numbered from 1.
-- Sector 0 is the header, 1 .. M the first area, M + 1 .. 2 M the second; the slot e has the eight sectors from 1 + 2 M + 8 (e - 1) on.
use Rattle.std.specs.Prelude.{ℕ, zero, suc, ◌+◌, ◌-◌, ◌*◌, ◌/◌, ◌≤◌, Bool, true, false, cond, ◌⊎◌, List, [], ◌++◌, ◌==◌, ◌≢◌, nat_le, slice_index}
use Rattle.std.specs.Int.Digits.{number_from_digits}
use Rattle.device.specs.Device.{zeros}
use Rattle.octets.specs.Parts.{part}

-- a device of so many sectors has so many pages, map sectors in each area, and slots
abbrev pub pages : ℕ → ℕ
pages size = size / 8

abbrev pub map_sectors : ℕ → ℕ
map_sectors size = (pages size + 63) / 64

abbrev pub slots : ℕ → ℕ
slots size = (size - 1 - 2 * map_sectors size) / 8

abbrev pub other : Bool → Bool
other true = false
other false = true

-- the sector i of an area; `true` is the second area
abbrev pub area_at : ℕ → Bool → ℕ → ℕ
area_at M true i = 1 + M + i
area_at M false i = 1 + i

-- the first sector of a slot
abbrev pub slot_at : ℕ → ℕ → ℕ
slot_at M e = 1 + 2 * M + 8 * (e - 1)

-- the first byte of the header names the active area
abbrev pub area_in : List ℕ → Bool
area_in b = slice_index b 0 == 1

-- the entry k of a map sector, eight bytes, the highest first; one that is no slot counts as blank
abbrev pub raw_in : List ℕ → ℕ → ℕ
raw_in b k = number_from_digits 256 (part b (8 * k) 8)

abbrev pub entry_in : ℕ → List ℕ → ℕ → ℕ
entry_in S b k = cond (nat_le (raw_in b k) S) (raw_in b k) 0

-- a page that holds nothing but zeros takes no slot
abbrev pub blank_page : List ℕ
blank_page = zeros 4096

-- so many sectors, one after the other
unfoldable pub gather : (ℕ → List ℕ) → ℕ → ℕ → List ℕ
gather k x zero = []
gather k x (suc n) = gather k x n ++ k (x + n)

-- the page that an entry leads to
abbrev pub page_in : ℕ → (ℕ → List ℕ) → ℕ → List ℕ
page_in M k zero = blank_page
page_in M k (suc e) = gather k (slot_at M (suc e)) 8

abbrev pub updated : {A : Type 0} → ℕ → A → (ℕ → A) → ℕ → A
updated n v f p = cond (p == n) v (f p)

-- A slot is free where its owner has left it: of N pages, with the committed map b, the present map w, the owner o of each slot.
abbrev pub Free : ℕ → (ℕ → ℕ) → (ℕ → ℕ) → (ℕ → ℕ) → ℕ → Type 0
Free N b w o s = (N ≤ o s) ⊎ ((b (o s) ≢ s) × (w (o s) ≢ s))

-- how many of the first n pages
abbrev pub count : ℕ → (ℕ → Bool) → ℕ
count zero f = 0
count (suc n) f = cond (f n) 1 0 + count n f
