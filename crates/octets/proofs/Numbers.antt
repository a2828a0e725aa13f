-- Numbers as bytes, the highest first: how many, and there and back.
use Rattle.std.proofs.Common.{◌≡◌, ℕ, zero, suc, ◌+◌, ◌*◌, ◌/◌, ◌%◌, ◌^◌, ◌<◌, ◌≤◌, List, [], ◌∷◌, ◌++◌, length, get_or, take, drop, sym, refl, ap, ◌∙◌, append-nil, pow-suc, arith}
use native.Mathlib.Nat.{div-div-eq-div-mul}
use borrow.Rule.Slice.PartMut.{put_mid}
use Rattle.std.specs.Int.Digits.{number_from_digits, number_from_digits_after}
use Rattle.std.proofs.lemmas.Nat.{div_below, div-add-mod'}
use Rattle.std.proofs.lemmas.Int.Digits.{number_push, number_more, number_after_append}
use Rattle.std.proofs.ByRecursion.{All-get_or, All-take}
use Rattle.std.proofs.lemmas.List.{length_push, nil_from_length, take_more, take_all, length-take-le, length-drop, drop_all}
use Rattle.octets.specs.Numbers.{be, Bytes}
use Rattle.octets.specs.Parts.{part, pair, pair_of}
use Rattle.octets.proofs.Parts.{at_part, length_part}

pub length-be : (k n : ℕ) → length (be k n) ≡ k
unfolding be
length-be zero n = refl
length-be (suc k) n = length_push (be k (n / 256)) (n % 256) ∙ (let e = length-be k (n / 256) in omega arith)

-- what is written is what is read
pub number-be : (k n : ℕ) → n < 256 ^ k → number_from_digits 256 (be k n) ≡ n
unfolding be
number-be zero n h = omega arith
number-be (suc k) n h =
    number_push 256 (be k (n / 256)) (n % 256)
    ∙ ap (λ x. x * 256 + n % 256) (number-be k (n / 256) (div_below n 256 (256 ^ k) (omega arith) (rw pow-suc at h)))
    ∙ div-add-mod' n 256

-- what is read is what was written
pub be-number : (k : ℕ) (xs : List ℕ) → length xs ≡ k → Bytes xs → be k (number_from_digits 256 xs) ≡ xs
unfolding be
be-number zero xs e h = sym (nil_from_length xs e)
be-number (suc k) xs e h =
    let front = take k xs in
    let last = get_or xs k 0 in
    let whole : front ++ (last ∷ []) ≡ xs = sym (take_more xs k 0 (omega arith)) ∙ take_all (k + 1) xs (omega arith) in
    let small : last < 256 = All-get_or (λ (b : ℕ). b < 256) xs k 0 (omega arith) h in
    let value : number_from_digits 256 xs ≡ number_from_digits 256 front * 256 + last = ap (number_from_digits 256) (sym whole) ∙ number_push 256 front last in
    let high : number_from_digits 256 xs / 256 ≡ number_from_digits 256 front = omega (arith, value) in
    let low : number_from_digits 256 xs % 256 ≡ last = omega (arith, value) in
    (λ t. be k (high t) ++ (low t ∷ []))
    ∙ ap (λ t. t ++ (last ∷ [])) (be-number k front (length-take-le k xs (omega arith)) (All-take (λ (b : ℕ). b < 256) k xs h))
    ∙ whole

-- eight bytes, as they are made
pub be8-is : (n : ℕ) → (n / 72057594037927936 % 256) ∷ (n / 281474976710656 % 256) ∷ (n / 1099511627776 % 256) ∷ (n / 4294967296 % 256) ∷ (n / 16777216 % 256) ∷ (n / 65536 % 256) ∷ (n / 256 % 256) ∷ (n % 256) ∷ [] ≡ be 8 n
unfolding be
be8-is n = simp div-div-eq-div-mul

-- two bytes
pub pair_of-is : (n : ℕ) → n < 65536 → pair_of n ≡ be 2 n
unfolding be
pair_of-is n h = let e : n / 256 ≡ n / 256 % 256 = omega arith in ap (λ d. d ∷ n % 256 ∷ []) e

-- two bytes, as they are read
pub pair_is : (xs : List ℕ) (at : ℕ) → at + 2 ≤ length xs → pair xs at ≡ number_from_digits 256 (part xs at 2)
pair_is xs at h =
    let a = at_part xs at 2 0 (omega arith) in
    let b = at_part xs at 2 1 (omega arith) in
    let l = length_part xs at 2 h in
    let z : get_or xs (at + 0) 0 ≡ get_or xs at 0 = ap (λ k. get_or xs k 0) (omega arith) in
    omega (arith, number_more 256 (part xs at 2) 0 (omega arith), number_more 256 (part xs at 2) 1 (omega arith), ap (number_from_digits 256) (take_all 2 (part xs at 2) (omega arith)))

-- eight bytes, as they are read
pub places-number : (d : List ℕ) → length d ≡ 8 →
    get_or d 0 0 * 72057594037927936 + get_or d 1 0 * 281474976710656 + get_or d 2 0 * 1099511627776 + get_or d 3 0 * 4294967296 + get_or d 4 0 * 16777216 + get_or d 5 0 * 65536 + get_or d 6 0 * 256 + get_or d 7 0 ≡ number_from_digits 256 d
places-number d l =
    let m : (i : ℕ) → i < 8 → number_from_digits 256 (take (i + 1) d) ≡ number_from_digits 256 (take i d) * 256 + get_or d i 0 = λ i h. number_more 256 d i (omega arith) in
    let a = m 0 (omega arith) in
    let b = m 1 (omega arith) in
    let e = m 2 (omega arith) in
    let f = m 3 (omega arith) in
    let g = m 4 (omega arith) in
    let h = m 5 (omega arith) in
    let j = m 6 (omega arith) in
    let k = m 7 (omega arith) in
    omega (arith, ap (number_from_digits 256) (take_all 8 d (omega arith)))

-- zeros count for nothing, alone or in front
pub number-zeros : (n : ℕ) (l : List ℕ) → ((i : ℕ) → get_or l i 0 ≡ 0) → n ≡ 0 → number_from_digits_after 256 n l ≡ 0
number-zeros n [] h e = e
number-zeros n (x ∷ l) h e = let z : x ≡ 0 = h 0 in number-zeros (n * 256 + x) l (λ i. h (suc i)) (omega arith)

pub take-zeros : (n : ℕ) (l : List ℕ) → ((i : ℕ) → get_or l i 0 ≡ 0) → (i : ℕ) → get_or (take n l) i 0 ≡ 0
take-zeros zero [] h i = refl
take-zeros zero (x ∷ l) h i = refl
take-zeros (suc n) [] h i = refl
take-zeros (suc n) (x ∷ l) h zero = h 0
take-zeros (suc n) (x ∷ l) h (suc i) = take-zeros n l (λ j. h (suc j)) i

pub number_behind : (xs ys : List ℕ) (a k : ℕ) → ((i : ℕ) → get_or xs i 0 ≡ 0) → length xs ≡ a + k → number_from_digits 256 (put_mid a k xs ys) ≡ number_from_digits 256 ys
number_behind xs ys a k z l =
    ap (λ t. number_from_digits 256 (take a xs ++ (ys ++ t))) (drop_all k (drop a xs) (omega (arith, length-drop a xs)))
    ∙ ap (λ t. number_from_digits 256 (take a xs ++ t)) (append-nil ys)
    ∙ number_after_append 256 0 (take a xs) ys
    ∙ ap (λ n. number_from_digits_after 256 n ys) (number-zeros 0 (take a xs) (take-zeros a xs z) refl)
