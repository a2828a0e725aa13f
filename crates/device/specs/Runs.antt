-- What holds of a store on every content of the device: it stays within the device, and every call ends.
use Rattle.std.specs.Prelude.{ℕ, ◌<◌, List}
use Rattle.device.specs.declared.Ask.{Ask}
use Rattle.device.specs.declared.Ask.TheVariants.{Read, Write, Sync, Again, Hand, Answer}
use Rattle.device.specs.Device.{With, Engine, Judge, Keeps, Sector, Sized}

-- at work, or waiting for a call
pub data Mode : Type 0 where
  works : Mode
  waits : Mode

-- it has not answered
abbrev pub Asks : {V R : Type 0} → Ask V R → Type 0
Asks (Read s) = Unit {0}
Asks (Write s) = Unit {0}
Asks Sync = Unit {0}
Asks Again = Unit {0}
Asks (Hand v) = Unit {0}
Asks (Answer r) = ⊥

-- whatever a store for so many sectors can come to, if each step is given any 512 bytes at all: no device is in here, so it covers every content of one
pub data Runs {M C V R : Type 0} (e : Engine M C V R) (size : ℕ) : Mode → M → Type 0 where
  opened : {m : M} → e.Opens size m → Runs e size works m
  called : {m n : M} (c : With C) → Runs e size waits m → e.Begins m c n → Runs e size works n
  asked : {m n : M} {g : List ℕ} (a : Ask V R) → Runs e size works m → Sector g → e.Steps m g a n → Asks a → Runs e size works n
  replied : {m n : M} {g : List ℕ} (r : R) → Runs e size works m → Sector g → e.Steps m g (Answer r) n → Runs e size waits n

-- an ask for a sector of the device, and a whole sector to write
abbrev pub Fair : {V R : Type 0} → ℕ → List ℕ → Ask V R → Type 0
Fair size b (Read s) = s < size
Fair size b (Write s) = (s < size) × Sector b
Fair size b Sync = Unit {0}
Fair size b Again = Unit {0}
Fair size b (Hand v) = Unit {0}
Fair size b (Answer r) = Unit {0}

-- it asks for nothing outside the device, whatever the device holds
abbrev pub Within : {M C V R : Type 0} → Engine M C V R → ℕ → Type 0
Within {M} {C} {V} {R} e size = (m n : M) (g : List ℕ) (a : Ask V R) → Runs e size works m → Sector g → e.Steps m g a n → Fair size (e.Buffer n) a

-- it answers after finitely many steps, whatever it is given: no way of steps goes on for ever
pub data Halts {M C V R : Type 0} (e : Engine M C V R) : M → Type 0 where
  halts : {m : M} → ((g : List ℕ) (a : Ask V R) (n : M) → Sector g → e.Steps m g a n → Asks a → Halts e n) → Halts e m

-- coming up and every call end, whatever the device holds
abbrev pub Ends : {M C V R : Type 0} → Engine M C V R → ℕ → Type 0
Ends {M} e size = (m : M) → Runs e size works m → Halts e m

-- EVERYTHING THAT IS PROMISED OF A STORE, on a device of any size: all that is ever seen is allowed, nothing outside the device is touched, and every call ends.
pub record Whole {M C V R : Type 0} (j : ℕ → Judge C V R) (e : Engine M C V R) : Type 0 where
  pub keeps : (size : ℕ) → Sized size → Keeps (j size) e size
  pub within : (size : ℕ) → Sized size → Within e size
  pub ends : (size : ℕ) → Sized size → Ends e size
