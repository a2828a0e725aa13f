-- What is promised of a store is promised of a struct that holds it.
use Rattle.std.proofs.Common.{◌≡◌, ℕ, List, refl, subst}
use Rattle.device.specs.Device.{Engine, Event, World, off, rising, idle, busy, Trace, begin, powered, rises, risen, rising_cut, starts, goes_on, replies, busy_cut, idle_cut, Judge}
use Rattle.device.specs.Runs.{Mode, Runs, opened, called, asked, replied, Halts, halts, Whole}
use Rattle.device.specs.Inside.{inside}

module _ {M N C V R : Type 0} (f : N → M) (e : Engine M C V R) where
  abbrev world_of : World N C V → World M C V
  world_of (off d) = off d
  world_of (rising n g d) = rising (f n) g d
  world_of (idle n d) = idle (f n) d
  world_of (busy c vs n g d) = busy c vs (f n) g d

  trace-inside : (size : ℕ) (es : List (Event C V R)) (w : World N C V) → Trace (inside f e) size es w → Trace e size es (world_of w)
  trace-inside size _ _ begin = begin
  trace-inside size _ _ (powered m g t o) = powered (f m) g (trace-inside size _ _ t) o
  trace-inside size _ _ (rises a t p q) = rises a (trace-inside size _ _ t) p q
  trace-inside size _ _ (risen r t p) = risen r (trace-inside size _ _ t) p
  trace-inside size _ _ (rising_cut t x) = rising_cut (trace-inside size _ _ t) x
  trace-inside size _ _ (starts c g t o) = starts c g (trace-inside size _ _ t) o
  trace-inside size _ _ (goes_on a t p q) = goes_on a (trace-inside size _ _ t) p q
  trace-inside size _ _ (replies r t p) = replies r (trace-inside size _ _ t) p
  trace-inside size _ _ (busy_cut t x) = busy_cut (trace-inside size _ _ t) x
  trace-inside size _ _ (idle_cut t x) = idle_cut (trace-inside size _ _ t) x

  runs-inside : (size : ℕ) (k : Mode) (n : N) → Runs (inside f e) size k n → Runs e size k (f n)
  runs-inside size _ _ (opened o) = opened o
  runs-inside size _ _ (called c t o) = called c (runs-inside size _ _ t) o
  runs-inside size _ _ (asked a t z p k) = asked a (runs-inside size _ _ t) z p k
  runs-inside size _ _ (replied r t z p) = replied r (runs-inside size _ _ t) z p

  halts-inside : (m : M) → Halts e m → (n : N) → f n ≡ m → Halts (inside f e) n
  halts-inside _ (halts h) n q = halts (λ g a o z p k. halts-inside (f o) (h g a (f o) z (subst (λ x. e.Steps x g a (f o)) q p) k) o refl)

  pub whole-inside : (j : ℕ → Judge C V R) → Whole j e → Whole j (inside f e)
  whole-inside j w = record {
    keeps = λ size h es v t. w.keeps size h es (world_of v) (trace-inside size es v t);
    within = λ size h m n g a t z p. w.within size h (f m) (f n) g a (runs-inside size _ m t) z p;
    ends = λ size h m t. halts-inside (f m) (w.ends size h (f m) (runs-inside size _ m t)) m refl;
  }
