-- The device that a vector holds.
use Rattle.std.specs.Prelude.{◌≡◌, ℕ, Option, reverse, ◌<◌, cond, ◌⊎◌, List, [], ◌∷◌, ◌++◌, length, replicate, vec_items, vec_len, ◌==◌, slice_index_or}
use mathlib.Core.List.{Memᴰ}
use Rattle.std.specs.List.{find}
use Rattle.device.specs.Device.{Device, latest, zeros}
use Rattle.device.specs.declared.vector.Written.{Written}
use Rattle.device.specs.declared.vector.Vector.{Vector}

-- what was written to a sector, the latest first; the list has the earliest first
abbrev pub since_of : ℕ → List Written → List (List ℕ)
since_of s [] = []
since_of s (w ∷ ws) = since_of s ws ++ cond (s == w.sector) (w.bytes ∷ []) []

-- the last write to a sector, if there was any
abbrev pub newest_of : ℕ → List Written → Option Written
newest_of s ws = find (λ w. w.sector == s) (reverse ws)

-- a write is kept, if its sector is there
pub record Kept (xs : List (List ℕ)) (w : Written) (ys : List (List ℕ)) : Type 0 where
  pub long : length ys ≡ length xs
  pub items : (s : ℕ) → s < length xs → slice_index_or ys s [] ≡ cond (s == w.sector) w.bytes (slice_index_or xs s [])

-- writes are kept in their order: of each sector the latest
pub record KeptAll (xs : List (List ℕ)) (ws : List Written) (ys : List (List ℕ)) : Type 0 where
  pub long : length ys ≡ length xs
  pub items : (s : ℕ) → s < length xs → slice_index_or ys s [] ≡ latest (slice_index_or xs s []) (since_of s ws)

-- each sector is as it was, or holds what one of the writes put there
pub record KeptSome (xs : List (List ℕ)) (ws : List Written) (ys : List (List ℕ)) : Type 0 where
  pub long : length ys ≡ length xs
  pub items : (s : ℕ) → s < length xs → (slice_index_or ys s [] ≡ slice_index_or xs s []) ⊎ Memᴰ (slice_index_or ys s []) (since_of s ws)

abbrev pub device_of : Vector → Device
device_of v = record { kept = λ s. slice_index_or (vec_items v.kept) s []; since = λ s. since_of s (vec_items v.since) }

-- the vector holds this device, sector by sector
pub record Agrees (v : Vector) (d : Device) : Type 0 where
  pub kept : (s : ℕ) → s < vec_len v.kept → (device_of v).kept s ≡ d.kept s
  pub since : (s : ℕ) → (device_of v).since s ≡ d.since s

-- sectors of zeros
abbrev pub Blanks : List (List ℕ) → Type 0
Blanks [] = Unit {0}
Blanks (x ∷ xs) = (x ≡ replicate 512 0) × Blanks xs

pub record Blank (size : ℕ) (v : Vector) : Type 0 where
  pub long : vec_len v.kept ≡ size
  pub kept : (s : ℕ) → s < size → (device_of v).kept s ≡ zeros 512
  pub since : (s : ℕ) → (device_of v).since s ≡ []
