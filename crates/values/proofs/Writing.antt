-- The steps of writing a key. Assumes nothing.
use Rattle.std.proofs.Common.{◌≡◌, ℕ, zero, suc, ◌+◌, ◌-◌, ◌<◌, ◌≤◌, cond, ltb, List, [], ◌∷◌, length, get_or, drop, set, ℤ, pos, negsuc, ◌+ℤ◌, ◌-ℤ◌, nat_abs, sym, refl, ap, ◌∙◌, arith, w64, SFits, to_z, of_z, take}
use mir.Syntax.{w128}
use borrow.Rule.Slice.PartMut.{put_mid}
use Rattle.std.proofs.lemmas.List.{drop_more, drop_all, length-map, length-set, drop-set-lt}
use Rattle.std.proofs.lemmas.Int.{to_z-of_z, to_z_pos}
use Rattle.std.proofs.lemmas.Bool.{cond-false, cond_both, le-ltb}
use Rattle.meaning.specs.Value.{Value, Null, Num, Text}
use Rattle.meaning.specs.Doing.{weight}
use Rattle.octets.specs.Numbers.{turned}
use Rattle.octets.specs.Parts.{part, put, put_in}
use Rattle.values.specs.Key.{lifted, escaped}
use Rattle.values.specs.Row.{lowered}
use Rattle.octets.proofs.Parts.{put-cons, put-over}
use Rattle.octets.proofs.Parts.{part-put, put_in-fits, put_is}

-- one byte of a text

escaped-other : (b : ℕ) (bs : List ℕ) → (b ≡ 0 → ⊥) → escaped (b ∷ bs) ≡ b ∷ escaped bs
unfolding escaped
escaped-other zero bs h = absurd (h refl)
escaped-other (suc b) bs h = refl

escaped-zero : (b : ℕ) (bs : List ℕ) → b ≡ 0 → escaped (b ∷ bs) ≡ b ∷ 255 ∷ escaped bs
unfolding escaped
escaped-zero zero bs h = refl
escaped-zero (suc b) bs h = absurd (omega arith)

module _ (text : List ℕ) (i : ℕ) (within : i < length text) where
  pub left-zero : get_or text i 0 ≡ 0 → escaped (drop i text) ≡ get_or text i 0 ∷ 255 ∷ escaped (drop (i + 1) text)
  left-zero h = ap escaped (drop_more text i 0 within) ∙ escaped-zero (get_or text i 0) (drop (i + 1) text) h

  pub left_other : (get_or text i 0 ≡ 0 → ⊥) → escaped (drop i text) ≡ get_or text i 0 ∷ escaped (drop (i + 1) text)
  left_other h = ap escaped (drop_more text i 0 within) ∙ escaped-other (get_or text i 0) (drop (i + 1) text) h

pub left-none : (text : List ℕ) (i : ℕ) → length text ≤ i → escaped (drop i text) ≡ 0 ∷ 1 ∷ []
unfolding escaped
left-none text i h = ap escaped (drop_all i text h)

-- one byte taken from 255
pub turn_more : (out : List ℕ) (k to : ℕ) → k < to → to ≤ length out → put (set out k (255 - get_or out k 0)) (k + 1) (turned (part (set out k (255 - get_or out k 0)) (k + 1) (to - (k + 1)))) ≡ put out k (turned (part out k (to - k)))
turn_more out k to h l =
    let n : to - k ≡ suc (to - (k + 1)) = omega arith in
    let first : part out k (to - k) ≡ get_or out k 0 ∷ part out (k + 1) (to - (k + 1)) = rw (n, drop_more out k 0 (omega arith)) refl in
    ap (λ t. put (set out k (255 - get_or out k 0)) (k + 1) (turned (take (to - (k + 1)) t))) (drop-set-lt (k + 1) out k (255 - get_or out k 0) (omega arith))
    ∙ put-cons out (turned (part out (k + 1) (to - (k + 1)))) k (k + 1) (255 - get_or out k 0) refl (omega arith)
    ∙ ap (λ t. put out k (turned t)) (sym first)

-- a number with 2^63 added, in 128 bits

wider : (z : ℤ) → SFits w64 z → SFits w128 z
wider (pos n) f = record { sfits = omega (arith, f.sfits) }
wider (negsuc n) f = record { sfits = omega (arith, f.sfits) }

lifted-sum : (z : ℤ) → SFits w64 z → z +ℤ pos 9223372036854775808 ≡ pos (lifted z)
unfolding lifted
lifted-sum (pos n) f = refl
lifted-sum (negsuc n) f = cond-false _ _ _ (le-ltb 9223372036854775808 (suc n) (omega (arith, f.sfits))) ∙ ap pos (omega arith)

pub lifted-fits : (z : ℤ) → SFits w64 z → lifted z < 18446744073709551616
unfolding lifted
lifted-fits (pos n) f = omega (arith, f.sfits)
lifted-fits (negsuc n) f = omega arith

pub lift-is : (z : ℤ) → SFits w64 z → nat_abs (to_z w128 (of_z w128 (to_z w128 (of_z w128 (to_z w64 (of_z w64 z))) +ℤ pos 9223372036854775808))) ≡ lifted z
lift-is z f =
    let sum = ap (λ t. to_z w128 (of_z w128 t) +ℤ pos 9223372036854775808) (to_z-of_z w64 z f) ∙ ap (λ t. t +ℤ pos 9223372036854775808) (to_z-of_z w128 z (wider z f)) ∙ lifted-sum z f in
    ap (λ t. nat_abs (to_z w128 (of_z w128 t))) sum ∙ ap nat_abs (to_z-of_z w128 (pos (lifted z)) (record { sfits = let h = lifted-fits z f in omega arith }))

-- all of a column taken from 255
pub turned-put : (out last rising part' : List ℕ) (at end : ℕ) → last ≡ put out at rising → end ≡ at + length rising → at + length rising ≤ length out → part' ≡ turned (part last at (end - at)) → put_mid at (end - at) last part' ≡ put out at (turned rising)
turned-put out last rising part' at end e f h p =
    let long : length rising ≡ length (turned rising) = sym (length-map rising (λ (b : ℕ). 255 - b)) in
    let back : part' ≡ turned rising = p ∙ ap (λ t. turned (part t at (end - at))) e ∙ ap turned (part-put out rising at (end - at) (omega arith) (omega arith)) in
    put_is at (end - at) last part' (turned rising) back (omega arith) ∙ ap (λ t. put t at (turned rising)) e ∙ put-over out rising (turned rising) at long h

-- 2^63 taken away again, in 128 bits

lowered-fits : (n : ℕ) → n < 18446744073709551616 → SFits w64 (lowered n)
unfolding lowered
lowered-fits n h = cond_both (ltb n 9223372036854775808) (negsuc (9223372036854775807 - n)) (pos (n - 9223372036854775808)) (λ (z : ℤ). SFits w64 z) (λ e. record { sfits = omega arith }) (λ e. record { sfits = omega arith })

lowered-sum : (n : ℕ) → pos n -ℤ pos 9223372036854775808 ≡ lowered n
unfolding lowered
lowered-sum n = ap (λ m. cond (ltb n 9223372036854775808) (negsuc m) (pos (n - 9223372036854775808))) (omega arith)

pub lower-is : (n : ℕ) → n < 18446744073709551616 → to_z w64 (of_z w64 (to_z w128 (of_z w128 (to_z w128 n -ℤ pos 9223372036854775808)))) ≡ lowered n
lower-is n h =
    let f = lowered-fits n h in
    ap (λ z. to_z w64 (of_z w64 (to_z w128 (of_z w128 (z -ℤ pos 9223372036854775808))))) (to_z_pos w128 n (omega arith))
    ∙ ap (λ z. to_z w64 (of_z w64 (to_z w128 (of_z w128 z)))) (lowered-sum n)
    ∙ ap (λ z. to_z w64 (of_z w64 z)) (to_z-of_z w128 (lowered n) (wider (lowered n) f))
    ∙ to_z-of_z w64 (lowered n) f

-- a first byte, and what goes behind it
pub first-put : (out last rest : List ℕ) (at first kind : ℕ) → first ≡ kind → last ≡ put (set out at first) (at + 1) rest → at < length out → last ≡ put out at (kind ∷ rest)
first-put out last rest at first kind e f h = f ∙ put-cons out rest at (at + 1) first refl h ∙ ap (λ k. put out at (k ∷ rest)) e

pub first-put_in : (out last rest : List ℕ) (at first kind : ℕ) → first ≡ kind → last ≡ put_in (set out at first) (at + 1) rest → at + 1 + length rest ≤ length out → last ≡ put out at (kind ∷ rest)
first-put_in out last rest at first kind e f h = first-put out last rest at first kind e (f ∙ put_in-fits (set out at first) rest (at + 1) (simp length-set h)) (omega arith)

pub some-weight : (v : Value) → 1 ≤ weight v
unfolding weight
some-weight Null = omega arith
some-weight (Num n) = omega arith
some-weight (Text t) = omega arith
