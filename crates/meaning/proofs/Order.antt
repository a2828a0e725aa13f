-- The order of values. Assumes nothing.
use Rattle.std.proofs.Common.{◌≡◌, ℕ, Bool, true, false, not, ◌&&◌, ◌||◌, T, eqb, ltb, List, [], ◌∷◌, ℤ, pos, negsuc, sym, refl, ap, ◌∙◌, arith}
use Rattle.std.proofs.lemmas.Bool.Decides.{nat_tests}
use Rattle.meaning.specs.Value.{Value, Null, Num, Text, less_z, less_bytes, less, same}
use Rattle.meaning.specs.Laws.{Ordered}

-- a test that holds, as a type and as an equation
pub holds-true : (b : Bool) → T b → b ≡ true
holds-true true t = refl
holds-true false t = elim t [ ]

pub true-holds : (b : Bool) → b ≡ true → T b
true-holds true e = tt
true-holds false e = let z : ◌≡◌ {A = ℕ} 0 1 = cc in absurd (omega arith)

pub clash : {P : Type 0} → false ≡ true → P
clash h = let z : ◌≡◌ {A = ℕ} 0 1 = cc in absurd (omega arith)

-- bytes
trans-step : (x y z : ℕ) (p q r : Bool) → (p ≡ true → q ≡ true → r ≡ true) → (ltb x y || (eqb x y && p)) ≡ true → (ltb y z || (eqb y z && q)) ≡ true → (ltb x z || (eqb x z && r)) ≡ true
trans-step x y z p q r ih h k = grind (arith, nat_tests)

pub bytes-trans : (a b c : List ℕ) → less_bytes a b ≡ true → less_bytes b c ≡ true → less_bytes a c ≡ true
unfolding less_bytes
bytes-trans a b [] h k = k
bytes-trans a [] (z ∷ c) h k = clash h
bytes-trans [] (y ∷ b) (z ∷ c) h k = refl
bytes-trans (x ∷ a) (y ∷ b) (z ∷ c) h k = trans-step x y z (less_bytes a b) (less_bytes b c) (less_bytes a c) (bytes-trans a b c) h k

asym-step : (x y : ℕ) (p q : Bool) → (p ≡ true → q ≡ false) → (ltb x y || (eqb x y && p)) ≡ true → (ltb y x || (eqb y x && q)) ≡ false
asym-step x y p q ih h = grind (arith, nat_tests)

pub bytes-asym : (a b : List ℕ) → less_bytes a b ≡ true → less_bytes b a ≡ false
unfolding less_bytes
bytes-asym a [] h = clash h
bytes-asym [] (y ∷ b) h = refl
bytes-asym (x ∷ a) (y ∷ b) h = asym-step x y (less_bytes a b) (less_bytes b a) (bytes-asym a b) h

same_step : (x y : ℕ) (p q : Bool) → (ltb x y || (eqb x y && p)) ≡ false → (ltb y x || (eqb y x && q)) ≡ false → (x ≡ y) × (p ≡ false) × (q ≡ false)
same_step x y p q h k = (grind (arith, nat_tests), grind (arith, nat_tests), grind (arith, nat_tests))

pub bytes-neither : (a b : List ℕ) → less_bytes a b ≡ false → less_bytes b a ≡ false → a ≡ b
unfolding less_bytes
bytes-neither [] [] h k = refl
bytes-neither [] (y ∷ b) h k = clash (sym h)
bytes-neither (x ∷ a) [] h k = clash (sym k)
bytes-neither (x ∷ a) (y ∷ b) h k = let s = same_step x y (less_bytes a b) (less_bytes b a) h k in λ i. s.0 i ∷ bytes-neither a b s.1 s.2 i

-- numbers
numbers-asym : (a b : ℤ) → less_z a b ≡ true → less_z b a ≡ false
unfolding less_z
numbers-asym (pos a) (pos b) h = grind (arith, nat_tests)
numbers-asym (pos a) (negsuc b) h = clash h
numbers-asym (negsuc a) (pos b) h = refl
numbers-asym (negsuc a) (negsuc b) h = grind (arith, nat_tests)

numbers-trans : (a b c : ℤ) → less_z a b ≡ true → less_z b c ≡ true → less_z a c ≡ true
unfolding less_z
numbers-trans (pos a) (pos b) (pos c) h k = grind (arith, nat_tests)
numbers-trans (pos a) (pos b) (negsuc c) h k = clash k
numbers-trans (pos a) (negsuc b) c h k = clash h
numbers-trans (negsuc a) (pos b) (pos c) h k = refl
numbers-trans (negsuc a) (pos b) (negsuc c) h k = clash k
numbers-trans (negsuc a) (negsuc b) (pos c) h k = refl
numbers-trans (negsuc a) (negsuc b) (negsuc c) h k = grind (arith, nat_tests)

neither-number : (a b : ℕ) → ltb a b ≡ false → ltb b a ≡ false → a ≡ b
neither-number a b h k = grind (arith, nat_tests)

numbers-neither : (a b : ℤ) → less_z a b ≡ false → less_z b a ≡ false → a ≡ b
unfolding less_z
numbers-neither (pos a) (pos b) h k = ap pos (neither-number a b h k)
numbers-neither (pos a) (negsuc b) h k = clash (sym k)
numbers-neither (negsuc a) (pos b) h k = clash (sym h)
numbers-neither (negsuc a) (negsuc b) h k = ap negsuc (neither-number a b k h)

-- values
asym : (a b : Value) → less a b ≡ true → less b a ≡ false
unfolding less
asym Null Null h = clash h
asym Null (Num b) h = refl
asym Null (Text b) h = refl
asym (Num a) Null h = clash h
asym (Num a) (Num b) h = numbers-asym a b h
asym (Num a) (Text b) h = refl
asym (Text a) Null h = clash h
asym (Text a) (Num b) h = clash h
asym (Text a) (Text b) h = bytes-asym a b h

trans : (a b c : Value) → less a b ≡ true → less b c ≡ true → less a c ≡ true
unfolding less
trans Null Null c h k = clash h
trans Null (Num b) Null h k = clash k
trans Null (Num b) (Num c) h k = refl
trans Null (Num b) (Text c) h k = refl
trans Null (Text b) Null h k = clash k
trans Null (Text b) (Num c) h k = clash k
trans Null (Text b) (Text c) h k = refl
trans (Num a) Null c h k = clash h
trans (Num a) (Num b) Null h k = clash k
trans (Num a) (Num b) (Num c) h k = numbers-trans a b c h k
trans (Num a) (Num b) (Text c) h k = refl
trans (Num a) (Text b) Null h k = clash k
trans (Num a) (Text b) (Num c) h k = clash k
trans (Num a) (Text b) (Text c) h k = refl
trans (Text a) Null c h k = clash h
trans (Text a) (Num b) c h k = clash h
trans (Text a) (Text b) Null h k = clash k
trans (Text a) (Text b) (Num c) h k = clash k
trans (Text a) (Text b) (Text c) h k = bytes-trans a b c h k

neither : (a b : Value) → less a b ≡ false → less b a ≡ false → a ≡ b
unfolding less
neither Null Null h k = refl
neither Null (Num b) h k = clash (sym h)
neither Null (Text b) h k = clash (sym h)
neither (Num a) Null h k = clash (sym k)
neither (Num a) (Num b) h k = ap Num (numbers-neither a b h k)
neither (Num a) (Text b) h k = clash (sym h)
neither (Text a) Null h k = clash (sym k)
neither (Text a) (Num b) h k = clash (sym k)
neither (Text a) (Text b) h k = ap Text (bytes-neither a b h k)

apart-both : (p q : Bool) → (not p && not q) ≡ true → (p ≡ false) × (q ≡ false)
apart-both true q h = clash h
apart-both false true h = clash h
apart-both false false h = (refl, refl)

pub order-stands : Ordered
order-stands = (
  λ a b h k. clash (sym (asym a b (holds-true (less a b) h)) ∙ holds-true (less b a) k),
  λ a b c h k. true-holds (less a c) (trans a b c (holds-true (less a b) h) (holds-true (less b c) k)),
  λ a b h. let e = apart-both (less a b) (less b a) (holds-true (same a b) h) in neither a b e.0 e.1,
)
