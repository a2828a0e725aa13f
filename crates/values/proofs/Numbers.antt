-- `fits` by whether 64 bits hold a number, and texts that are joined. Assumes nothing.
use Rattle.std.proofs.Common.{[], ◌∷◌, get_or, Fits, w8, ◌≡◌, ℕ, suc, ◌+◌, ◌<◌, ◌≤◌, List, ◌++◌, length, ℤ, pos, negsuc, Some, None, Option, sym, ap, ◌∙◌, arith, w64, SFits, ◌/◌, ◌%◌, zero, refl, of_z}
use Rattle.std.specs.Option.{SomeIff}
use Rattle.octets.specs.Numbers.{Bytes, be}
use Rattle.values.specs.Meant.{number_or}
use Rattle.std.proofs.lemmas.Bool.{cond-true, cond-false, lt-ltb, le-ltb}
use Rattle.meaning.specs.Value.{Null, Num, Text, fits, joined, Holds, Fails, less_z, truth}
use lib.Signed.{lt_z}

-- a number that 64 bits hold, and one that they don't
pub fits-some : (z : ℤ) → SFits w64 z → fits z ≡ Num z
unfolding fits
fits-some (pos n) h = cond-true _ _ _ (lt-ltb n 9223372036854775808 h.sfits)
fits-some (negsuc n) h = cond-true _ _ _ (lt-ltb n 9223372036854775808 h.sfits)

pub fits-none : (z : ℤ) → (SFits w64 z → ⊥) → fits z ≡ Null
unfolding fits
fits-none (pos n) h = cond-false _ _ _ (le-ltb n 9223372036854775808 (omega (arith, λ (k : n < 9223372036854775808). h (record { sfits = k }))))
fits-none (negsuc n) h = cond-false _ _ _ (le-ltb n 9223372036854775808 (omega (arith, λ (k : n < 9223372036854775808). h (record { sfits = k }))))

-- what a checked operation gives
pub checked-is : (o : Option ℤ) (z : ℤ) → SomeIff o (SFits w64 z) z → number_or o ≡ fits z
checked-is None z h = sym (fits-none z h)
checked-is (Some n) z h = ap Num h.1 ∙ sym (fits-some z h.0)

-- `<` on numbers
pub lt_z-is : (a b : ℤ) → lt_z a b ≡ less_z a b
unfolding less_z
lt_z-is (pos a) (pos b) = refl
lt_z-is (pos a) (negsuc b) = refl
lt_z-is (negsuc a) (pos b) = refl
lt_z-is (negsuc a) (negsuc b) = refl

-- the test for 0
pub zero-fails : (z : ℤ) → SFits w64 z → of_z w64 z ≡ 0 → Fails ≡ truth (Num z)
unfolding truth
zero-fails (pos zero) f h = refl
zero-fails (pos (suc n)) f h = absurd (omega arith)
zero-fails (negsuc n) f h = absurd (omega (arith, f.sfits))

pub other-holds : (z : ℤ) → (of_z w64 z ≡ 0 → ⊥) → Holds ≡ truth (Num z)
unfolding truth
other-holds (pos zero) h = absurd (h refl)
other-holds (pos (suc n)) h = refl
other-holds (negsuc n) h = refl

-- texts that make at most 4,000 bytes
pub joined-short : (a b : List ℕ) → length a + length b ≤ 4000 → Text (a ++ b) ≡ joined (Text a) (Text b)
unfolding joined
joined-short a b h = sym (cond-false _ _ _ (le-ltb 4000 (length a + length b) h))

-- what a slice holds are bytes
pub bytes-from : (l : List ℕ) → ((i : ℕ) → Fits w8 (get_or l i 0)) → Bytes l
bytes-from [] h = tt
bytes-from (x ∷ l) h = ((h 0).fits, bytes-from l (λ i. h (suc i)))

-- two bytes, as they are made
pub be2-is : (n : ℕ) → (n / 256 % 256) ∷ (n % 256) ∷ [] ≡ be 2 n
unfolding be
be2-is n = refl
