-- A store that is held in a struct, under a name of the struct's own.
use Rattle.device.specs.Device.{Engine}

-- the store that f finds in a struct
abbrev pub inside : {M N C V R : Type 0} → (N → M) → Engine M C V R → Engine N C V R
inside f e = record {
  Opens = λ size n. e.Opens size (f n);
  Begins = λ n c o. e.Begins (f n) c (f o);
  Steps = λ n g a o. e.Steps (f n) g a (f o);
  Buffer = λ n. e.Buffer (f n);
  Shows = λ n. e.Shows (f n);
}
