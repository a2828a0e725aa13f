-- Parts of bytes, writes to them, and numbers of two bytes.
use Rattle.std.specs.List.{list_all}
use Rattle.std.specs.Prelude.{ℕ, ◌+◌, ◌*◌, ◌/◌, ◌%◌, Bool, cond, List, [], ◌∷◌, ◌++◌, length, take, drop, ◌==◌, nat_le, slice_index}

-- n bytes from a place on
abbrev pub part : List ℕ → ℕ → ℕ → List ℕ
part xs at n = take n (drop at xs)

-- the bytes with others in their place
unfoldable pub put : List ℕ → ℕ → List ℕ → List ℕ
put xs at ys = take at xs ++ (ys ++ drop (at + length ys) xs)

-- the same where the others fit in, and else the bytes as they are
unfoldable pub put_in : List ℕ → ℕ → List ℕ → List ℕ
put_in xs at ys = cond (nat_le (at + length ys) (length xs)) (put xs at ys) xs

-- whether there is nothing but zeros
abbrev pub blank : List ℕ → Bool
blank xs = list_all (λ b. b == 0) xs

-- the number in two bytes, and its bytes: the high one first
abbrev pub pair : List ℕ → ℕ → ℕ
pair xs at = 256 * slice_index xs at + slice_index xs (at + 1)

abbrev pub pair_of : ℕ → List ℕ
pair_of n = n / 256 ∷ n % 256 ∷ []
