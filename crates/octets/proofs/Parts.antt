-- The laws of parts and of writes to them.
use Rattle.std.proofs.Common.{◌≡◌, ℕ, zero, suc, ◌+◌, ◌-◌, ◌*◌, ◌/◌, ◌%◌, ◌<◌, ◌≤◌, min, true, false, ◌&&◌, ◌⊎◌, List, [], ◌∷◌, ◌++◌, length, get_or, take, drop, set, replicate, sym, refl, ap, ◌∙◌, inl, inr, append_assoc, arith, rules}
use borrow.Rule.Slice.PartMut.{put_mid}
use Rattle.std.proofs.lemmas.List.{drop-drop, drop_more, drop_all, drop-set-lt, take_more_set, length-set, same_lists, places, get_or_default, get_or_past}
use Rattle.std.proofs.lemmas.Bool.{cond-true, cond-false, cases_lt, le-leb, lt-leb, eq-eqb, ne_eqb}
use Rattle.octets.specs.Parts.{part, put, put_in, blank}

-- a write to `s[a..a + k]`
pub put_is : (a k : ℕ) (xs ys zs : List ℕ) → ys ≡ zs → k ≡ length zs → put_mid a k xs ys ≡ put xs a zs
unfolding put
put_is a k xs ys zs e f =
    ap (λ t. take a xs ++ (t ++ drop k (drop a xs))) e
    ∙ ap (λ t. take a xs ++ (zs ++ t)) (drop-drop k a xs ∙ ap (λ n. drop (a + n) xs) f)

pub length-put : (xs ys : List ℕ) (a : ℕ) → a + length ys ≤ length xs → length (put xs a ys) ≡ length xs
unfolding put
length-put xs ys a h = search (rules, places)

-- a write that fits in, and one that does not
pub put_in-fits : (xs ys : List ℕ) (a : ℕ) → a + length ys ≤ length xs → put_in xs a ys ≡ put xs a ys
unfolding put_in
put_in-fits xs ys a h = cond-true _ _ _ (le-leb (a + length ys) (length xs) h)

pub put_in-not : (xs ys : List ℕ) (a : ℕ) → length xs < a + length ys → put_in xs a ys ≡ xs
unfolding put_in
put_in-not xs ys a h = cond-false _ _ _ (lt-leb (a + length ys) (length xs) h)

pub length-put_in : (xs ys : List ℕ) (a : ℕ) → length (put_in xs a ys) ≡ length xs
length-put_in xs ys a = go (cases_lt (length xs) (a + length ys))
  where
    go : (length xs < a + length ys) ⊎ (a + length ys ≤ length xs) → length (put_in xs a ys) ≡ length xs
    go (inl h) = ap length (put_in-not xs ys a h)
    go (inr h) = ap length (put_in-fits xs ys a h) ∙ length-put xs ys a h

-- one write right behind another is one write
pub put-put : (xs ys zs : List ℕ) (a b : ℕ) → b ≡ a + length ys → a + length ys ≤ length xs → put (put xs a ys) b zs ≡ put xs a (ys ++ zs)
unfolding put
put-put xs ys zs a b e h = same_lists _ _ (search (rules, places)) (λ k d l. grind (arith, places))

pub put_in-behind : (xs ys zs : List ℕ) (a b : ℕ) → b ≡ a + length ys → b + length zs ≤ length xs → put_in (put xs a ys) b zs ≡ put xs a (ys ++ zs)
put_in-behind xs ys zs a b e h = put_in-fits (put xs a ys) zs b (omega (arith, length-put xs ys a (omega arith))) ∙ put-put xs ys zs a b e (omega arith)

-- what was written is read again
pub part-put : (xs ys : List ℕ) (a n : ℕ) → n ≡ length ys → a + n ≤ length xs → part (put xs a ys) a n ≡ ys
unfolding put
part-put xs ys a n e h = same_lists _ _ (search (rules, places)) (λ k d l. grind (arith, places))

-- what lies before a write stays, and what lies behind it
pub part-before : (xs ys : List ℕ) (a b n : ℕ) → b + n ≤ a → a + length ys ≤ length xs → part (put xs a ys) b n ≡ part xs b n
unfolding put
part-before xs ys a b n e h = same_lists _ _ (search (rules, places)) (λ k d l. grind (arith, places))

pub part-behind : (xs ys : List ℕ) (a b n : ℕ) → a + length ys ≤ b → a + length ys ≤ length xs → part (put xs a ys) b n ≡ part xs b n
unfolding put
part-behind xs ys a b n e h = same_lists _ _ (search (rules, places)) (λ k d l. grind (arith, places))

-- a byte outside a write stays, and one inside is the one written
pub get_or-before : (xs ys : List ℕ) (a i : ℕ) → i < a → a + length ys ≤ length xs → get_or (put xs a ys) i 0 ≡ get_or xs i 0
unfolding put
get_or-before xs ys a i h l = grind (arith, places)

pub get_or-behind : (xs ys : List ℕ) (a i : ℕ) → a + length ys ≤ i → a + length ys ≤ length xs → get_or (put xs a ys) i 0 ≡ get_or xs i 0
unfolding put
get_or-behind xs ys a i h l = grind (arith, places)

pub get_or-inside : (xs ys : List ℕ) (a i : ℕ) → i < length ys → a + length ys ≤ length xs → get_or (put xs a ys) (a + i) 0 ≡ get_or ys i 0
unfolding put
get_or-inside xs ys a i h l = grind (arith, places)

pub length_part : (xs : List ℕ) (a n : ℕ) → a + n ≤ length xs → length (part xs a n) ≡ n
length_part xs a n h = search (rules, places)

-- `&s[at..]` has all from there on: past the end nothing, else no more than there is
pub part-past : (xs : List ℕ) (at n : ℕ) → length xs ≤ at → [] ≡ part xs at n
part-past xs at n h = same_lists _ _ (search (rules, places)) (λ k d l. grind (arith, places))

pub part-rest : (xs : List ℕ) (at n m : ℕ) → length xs ≤ at + m → length xs ≤ at + n → take m (drop at xs) ≡ part xs at n
part-rest xs at n m h p = same_lists _ _ (search (rules, places)) (λ k d l. grind (arith, places))

pub part-front : (xs : List ℕ) (at n m : ℕ) → n ≤ m → take n (take m (drop at xs)) ≡ part xs at n
part-front xs at n m h = same_lists _ _ (search (rules, places)) (λ k d l. grind (arith, places))

-- a byte of a part
pub at_part : (xs : List ℕ) (a n k : ℕ) → k < n → get_or (part xs a n) k 0 ≡ get_or xs (a + k) 0
at_part xs a n k h = grind (arith, places)

-- parts by their bytes
pub part-from : (xs ys : List ℕ) (a : ℕ) → a + length ys ≤ length xs → ((k : ℕ) → k < length ys → get_or xs (a + k) 0 ≡ get_or ys k 0) → part xs a (length ys) ≡ ys
part-from xs ys a h f =
    same_lists _ _ (length_part xs a (length ys) h)
    (λ k d l. let m : k < length ys = omega (arith, length_part xs a (length ys) h, l) in
    get_or_default (part xs a (length ys)) k d 0 l ∙ at_part xs a (length ys) k m ∙ f k m ∙ get_or_default ys k 0 d m)

pub part-agrees : (xs ys : List ℕ) (a n : ℕ) → length xs ≡ length ys → a + n ≤ length xs → ((x : ℕ) → a ≤ x → x < a + n → get_or xs x 0 ≡ get_or ys x 0) → part xs a n ≡ part ys a n
part-agrees xs ys a n e h f =
    same_lists _ _ (length_part xs a n h ∙ sym (length_part ys a n (omega (arith, e))))
    (λ k d l. let m : k < n = omega (arith, length_part xs a n h, l) in
    get_or_default (part xs a n) k d 0 l ∙ at_part xs a n k m ∙ f (a + k) (omega arith) (omega arith) ∙ sym (at_part ys a n k m)
    ∙ get_or_default (part ys a n) k 0 d (omega (arith, length_part ys a n (omega (arith, e)))))

-- what was filled
pub replicate-at : {A : Type 0} (a : A) (n k : ℕ) → get_or (replicate n a) k a ≡ a
replicate-at a zero k = refl
replicate-at a (suc n) zero = refl
replicate-at a (suc n) (suc k) = replicate-at a n k

-- past the end there is nothing, so that a byte behind another may be looked for at any place
pub get_or-next : (xs : List ℕ) (at next : ℕ) → length xs < 18446744073709551616 → next ≡ min (at + 1) 18446744073709551615 → get_or xs next 0 ≡ get_or xs (at + 1) 0
get_or-next xs at next l e = go (cases_lt at 18446744073709551615)
  where
    go : (at < 18446744073709551615) ⊎ (18446744073709551615 ≤ at) → get_or xs next 0 ≡ get_or xs (at + 1) 0
    go (inl h) = let n : next ≡ at + 1 = omega arith in ap (λ k. get_or xs k 0) n
    go (inr h) = get_or_past xs next 0 (omega arith) ∙ sym (get_or_past xs (at + 1) 0 (omega arith))

-- a byte written, and then what goes behind it
pub put-cons : (xs ys : List ℕ) (a b y : ℕ) → b ≡ a + 1 → a < length xs → put (set xs a y) b ys ≡ put xs a (y ∷ ys)
unfolding put
put-cons xs ys a b y e h =
    ap (λ t. t ++ (ys ++ drop (b + length ys) (set xs a y))) (ap (λ n. take n (set xs a y)) e ∙ take_more_set xs a y h)
    ∙ append_assoc (take a xs) (y ∷ []) (ys ++ drop (b + length ys) (set xs a y))
    ∙ ap (λ t. take a xs ++ (y ∷ (ys ++ t))) (drop-set-lt (b + length ys) xs a y (omega arith) ∙ ap (λ n. drop n xs) (omega arith))

pub put-nil : (xs : List ℕ) (a : ℕ) → put xs a [] ≡ xs
unfolding put
put-nil xs a = same_lists _ _ (search (rules, places)) (λ k d l. grind (arith, places))

pub put_one : (xs : List ℕ) (a y : ℕ) → a < length xs → set xs a y ≡ put xs a (y ∷ [])
put_one xs a y h = sym (put-nil (set xs a y) (a + 1)) ∙ put-cons xs [] a (a + 1) y refl h

-- a write over another of the same length
pub put-over : (xs ys zs : List ℕ) (a : ℕ) → length ys ≡ length zs → a + length ys ≤ length xs → put (put xs a ys) a zs ≡ put xs a zs
unfolding put
put-over xs ys zs a e h = same_lists _ _ (search (rules, places)) (λ k d l. grind (arith, places))

pub put_two : (xs ys : List ℕ) (a b c x y : ℕ) → b ≡ a + 1 → c ≡ b + 1 → b < length xs → put (set (set xs a x) b y) c ys ≡ put xs a (x ∷ y ∷ ys)
put_two xs ys a b c x y e f h = put-cons (set xs a x) ys b c y f (rw length-set h) ∙ put-cons xs (y ∷ ys) a b x e (omega arith)

-- a part, by its first byte and the rest
pub part-more : (xs : List ℕ) (k to : ℕ) → k < to → to ≤ length xs → part xs k (to - k) ≡ get_or xs k 0 ∷ part xs (k + 1) (to - (k + 1))
part-more xs k to h l = let n : to - k ≡ suc (to - (k + 1)) = omega arith in rw (n, drop_more xs k 0 (omega arith)) refl

-- two copies to the front, one right behind the other, and the part that they fill
pub two-copies : (a b x y out : List ℕ) → x ≡ a → y ≡ b → length a + length b ≤ length out → take (length a + length b - 0) (drop 0 (put_mid (length a) (length a + length b - length a) (x ++ drop (length a - 0) out) y)) ≡ a ++ b
two-copies a b x y out e f h = same_lists _ _ (search (rules, places)) (λ k d l. grind (arith, places))

-- what a write leaves before its end
pub take_put : (xs ys : List ℕ) (a : ℕ) → a + length ys ≤ length xs → take (a + length ys) (put xs a ys) ≡ take a xs ++ ys
unfolding put
take_put xs ys a h = same_lists _ _ (search (rules, places)) (λ k d l. grind (arith, places))

-- whether what is left is blank
blank-first : (x : ℕ) (l : List ℕ) → x ≡ 0 → blank (x ∷ l) ≡ blank l
blank-first x l e = ap (λ t. t && blank l) (eq-eqb x 0 e)

blank-first-not : (x : ℕ) (l : List ℕ) → (x ≡ 0 → ⊥) → blank (x ∷ l) ≡ false
blank-first-not x l e = ap (λ t. t && blank l) (ne_eqb x 0 e)

blank-nil : blank [] ≡ true
blank-nil = refl

pub blank-more : (l : List ℕ) (i : ℕ) → i < length l → get_or l i 0 ≡ 0 → blank (drop (i + 1) l) ≡ blank (drop i l)
blank-more l i h e = sym (ap blank (drop_more l i 0 h) ∙ blank-first (get_or l i 0) (drop (i + 1) l) e)

pub blank-not : (l : List ℕ) (i : ℕ) → i < length l → (get_or l i 0 ≡ 0 → ⊥) → blank (drop i l) ≡ false
blank-not l i h e = ap blank (drop_more l i 0 h) ∙ blank-first-not (get_or l i 0) (drop (i + 1) l) e

pub blank-end : (l : List ℕ) (i : ℕ) → length l ≤ i → blank (drop i l) ≡ true
blank-end l i h = ap blank (drop_all i l h) ∙ blank-nil

-- two bytes are their number, and back
pub pair-of : (n : ℕ) → n / 256 * 256 + n % 256 ≡ n
pair-of n = omega arith

pub zeros-at : (n k : ℕ) → ◌≡◌ {A = ℕ} (get_or (replicate n 0) k 0) 0
zeros-at zero k = refl
zeros-at (suc n) zero = refl
zeros-at (suc n) (suc k) = zeros-at n k
