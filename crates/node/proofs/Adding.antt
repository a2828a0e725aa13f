-- What adding an entry to a page leaves, and what it makes.
use Rattle.std.proofs.Common.{◌≡◌, ℕ, zero, suc, ◌+◌, ◌-◌, ◌*◌, ◌/◌, ◌%◌, ◌<◌, ◌≤◌, min, ◌≢◌, ◌⊎◌, List, [], ◌∷◌, ◌++◌, length, get_or, set, replicate, sym, refl, ap, ◌∙◌, subst, inl, inr, add-one, arith, length-append, length-set, get_or-set_other, get_or-set_same}
use lib.ListN.{length-replicate}
use Rattle.std.proofs.lemmas.List.{places}
use Rattle.octets.specs.Parts.{part, put, put_in, pair, pair_of}
use Rattle.octets.proofs.Parts.{length-put, length-put_in, put_in-fits, put-put, get_or-before, get_or-behind, get_or-inside, part-from, part-agrees, replicate-at}
use Rattle.std.proofs.lemmas.Bool.{cases_lt}
use Rattle.node.proofs.Places.{starts-rise, start_first, start-later, start-least}
use Rattle.node.specs.Node.{count_in, start_of, key_len, key_at, value_at, entry_at, entries_to, Formed, Cleared, Written, Added}

-- the bytes of an entry
abbrev item : List ℕ → List ℕ → List ℕ
item key value = pair_of (length key) ++ (key ++ value)

length-item : (key value : List ℕ) → length (item key value) ≡ 2 + (length key + length value)
length-item key value = omega (arith, length-append key value)

in-key : (key value : List ℕ) (k : ℕ) → k < length key → get_or (item key value) (2 + k) 0 ≡ get_or key k 0
in-key key value k h = grind (arith, places)

in-value : (key value : List ℕ) (k : ℕ) → k < length value → get_or (item key value) (2 + (length key + k)) 0 ≡ get_or value k 0
in-value key value k h = grind (arith, places)

-- three writes: the entry, its end, the count
module _ (page key value : List ℕ) (n at end : ℕ) (long : length page ≡ 4096) (first : 8 ≤ at) (is : end ≡ at + (2 + (length key + length value))) (room : end + 2 * (n + 1) ≤ 4096) where
  abbrev p3 : List ℕ
  p3 = put page at (item key value)

  abbrev p4 : List ℕ
  p4 = put p3 (4096 - 2 * (n + 1)) (pair_of end)

  abbrev p5 : List ℕ
  p5 = put p4 2 (pair_of (n + 1))

  long3 : length p3 ≡ 4096
  long3 = length-put page (item key value) at (omega (arith, length-item key value)) ∙ long

  long4 : length p4 ≡ 4096
  long4 = length-put p3 (pair_of end) (4096 - 2 * (n + 1)) (omega (arith, long3)) ∙ long3

  long5 : length p5 ≡ 4096
  long5 = length-put p4 (pair_of (n + 1)) 2 (omega (arith, long4)) ∙ long4

  -- behind the count, and before the ends that are new
  same_mid : (x : ℕ) → 4 ≤ x → x < 4096 - 2 * (n + 1) → get_or p5 x 0 ≡ get_or p3 x 0
  same_mid x h l =
      get_or-behind p4 (pair_of (n + 1)) 2 x (omega arith) (omega (arith, long4))
      ∙ get_or-before p3 (pair_of end) (4096 - 2 * (n + 1)) x (omega arith) (omega (arith, long3))

  at_item : (x : ℕ) → x < length (item key value) → get_or p5 (at + x) 0 ≡ get_or (item key value) x 0
  at_item x h =
      same_mid (at + x) (omega arith) (omega (arith, length-item key value, h))
      ∙ get_or-inside page (item key value) at x h (omega (arith, length-item key value))

  low : (x : ℕ) → 4 ≤ x → x < at → get_or p5 x 0 ≡ get_or page x 0
  low x h l = same_mid x h (omega arith) ∙ get_or-before page (item key value) at x l (omega (arith, length-item key value))

  high : (x : ℕ) → 4096 ≤ x + 2 * n → get_or p5 x 0 ≡ get_or page x 0
  high x h =
      get_or-behind p4 (pair_of (n + 1)) 2 x (omega arith) (omega (arith, long4))
      ∙ get_or-behind p3 (pair_of end) (4096 - 2 * (n + 1)) x (omega arith) (omega (arith, long3))
      ∙ get_or-behind page (item key value) at x (omega (arith, length-item key value)) (omega (arith, length-item key value))

  keyed : pair p5 at ≡ length key
  keyed =
      let z : at + 0 ≡ at = omega arith in
      let a : get_or p5 at 0 ≡ length key / 256 = subst (λ x. get_or p5 x 0 ≡ length key / 256) z (at_item 0 (omega (arith, length-item key value))) in
      let b : get_or p5 (at + 1) 0 ≡ length key % 256 = at_item 1 (omega (arith, length-item key value)) in
      omega arith

  key-is : part p5 (at + 2) (length key) ≡ key
  key-is =
      part-from p5 key (at + 2) (omega (arith, long5))
      (λ k h. let e : at + 2 + k ≡ at + (2 + k) = omega arith in
      subst (λ x. get_or p5 x 0 ≡ get_or key k 0) (sym e) (at_item (2 + k) (omega (arith, length-item key value)) ∙ in-key key value k h))

  value-is : part p5 (at + (2 + length key)) (length value) ≡ value
  value-is =
      part-from p5 value (at + (2 + length key)) (omega (arith, long5))
      (λ k h. let e : at + (2 + length key) + k ≡ at + (2 + (length key + k)) = omega arith in
      subst (λ x. get_or p5 x 0 ≡ get_or value k 0) (sym e) (at_item (2 + (length key + k)) (omega (arith, length-item key value)) ∙ in-value key value k h))

  end_is : pair p5 (4096 - 2 * (n + 1)) ≡ end
  end_is =
      let s = 4096 - 2 * (n + 1) in
      let z : s + 0 ≡ s = omega arith in
      let a : get_or p5 s 0 ≡ end / 256 =
      get_or-behind p4 (pair_of (n + 1)) 2 s (omega arith) (omega (arith, long4)) ∙ subst (λ x. get_or p4 x 0 ≡ end / 256) z (get_or-inside p3 (pair_of end) s 0 (omega arith) (omega (arith, long3))) in
      let b : get_or p5 (s + 1) 0 ≡ end % 256 = get_or-behind p4 (pair_of (n + 1)) 2 (s + 1) (omega arith) (omega (arith, long4)) ∙ get_or-inside p3 (pair_of end) s 1 (omega arith) (omega (arith, long3)) in
      omega arith

  counted : pair p5 2 ≡ n + 1
  counted =
      let a : get_or p5 2 0 ≡ (n + 1) / 256 = get_or-inside p4 (pair_of (n + 1)) 2 0 (omega arith) (omega (arith, long4)) in
      let b : get_or p5 3 0 ≡ (n + 1) % 256 = get_or-inside p4 (pair_of (n + 1)) 2 1 (omega arith) (omega (arith, long4)) in
      omega arith

  front : get_or p5 0 0 ≡ get_or page 0 0
  front =
      get_or-before p4 (pair_of (n + 1)) 2 0 (omega arith) (omega (arith, long4))
      ∙ get_or-before p3 (pair_of end) (4096 - 2 * (n + 1)) 0 (omega arith) (omega (arith, long3))
      ∙ get_or-before page (item key value) at 0 (omega arith) (omega (arith, length-item key value))

  pub written : Written page n at key value p5
  written = record { long = long5; front = front; low = low; high = high; keyed = keyed; key_is = key-is; value_is = value-is; end = end_is ∙ is; counted = counted }

-- what the page then holds
module _ (page key value next : List ℕ) (n at : ℕ) (f : Formed page n) (begins : at ≡ start_of page n) (room : at + (2 + (length key + length value)) + 2 * (n + 1) ≤ 4096) (w : Written page n at key value next) where
  pair-high : (x : ℕ) → 4096 ≤ x + 2 * n → pair next x ≡ pair page x
  pair-high x h = let a = w.high x h in let b = w.high (x + 1) (omega arith) in omega arith

  starts : (j : ℕ) → j ≤ n → start_of next j ≡ start_of page j
  starts zero h = start_first next ∙ sym (start_first page)
  starts (suc j) h = start-later next (suc j) (omega arith) ∙ pair-high (4096 - 2 * suc j) (omega arith) ∙ sym (start-later page (suc j) (omega arith))

  start-new : start_of next (n + 1) ≡ at + (2 + (length key + length value))
  start-new = start-later next (n + 1) (omega arith) ∙ w.end

  least : (i : ℕ) → i ≤ n → 8 + 2 * i ≤ start_of page i
  least i h = start-least page n i f h

  inside : (i : ℕ) → i < n → start_of page (i + 1) ≤ at
  inside i h =
      let e : i + 1 + (n - (i + 1)) ≡ n = omega arith in
      let a : start_of page (i + 1) + 2 * (n - (i + 1)) ≤ start_of page n = subst (λ j. start_of page (i + 1) + 2 * (n - (i + 1)) ≤ start_of page j) e (starts-rise page n f (i + 1) (n - (i + 1)) (omega arith)) in
      omega arith

  key-len : (i : ℕ) → i < n → key_len next i ≡ key_len page i
  key-len i h =
      let s = f.in_order i h in
      let l = least i (omega arith) in
      let m = inside i h in
      let a = w.low (start_of page i) (omega arith) (omega arith) in
      let b = w.low (start_of page i + 1) (omega arith) (omega arith) in
      ap (pair next) (starts i (omega arith)) ∙ omega arith

  part_low : (a m : ℕ) → 4 ≤ a → a + m ≤ at → part next a m ≡ part page a m
  part_low a m h l = part-agrees next page a m (w.long ∙ sym f.long) (omega (arith, w.long)) (λ x p q. w.low x (omega arith) (omega arith))

  key-at : (i : ℕ) → i < n → key_at next i ≡ key_at page i
  key-at i h =
      let s = f.in_order i h in
      let l = least i (omega arith) in
      let m = inside i h in
      ap (λ x. part next (x + 2) (key_len next i)) (starts i (omega arith)) ∙ ap (λ k. part next (start_of page i + 2) k) (key-len i h) ∙ part_low (start_of page i + 2) (key_len page i) (omega arith) (omega arith)

  value-at : (i : ℕ) → i < n → value_at next i ≡ value_at page i
  value-at i h =
      let s = f.in_order i h in
      let l = least i (omega arith) in
      let m = inside i h in
      let a : start_of next i + (2 + key_len next i) ≡ start_of page i + (2 + key_len page i) = omega (arith, starts i (omega arith), key-len i h) in
      let b : start_of next (i + 1) - (start_of next i + (2 + key_len next i)) ≡ start_of page (i + 1) - (start_of page i + (2 + key_len page i)) = omega (arith, a, starts (i + 1) (omega arith)) in
      ap (λ x. part next x (start_of next (i + 1) - (start_of next i + (2 + key_len next i)))) a
      ∙ ap (λ y. part next (start_of page i + (2 + key_len page i)) y) b
      ∙ part_low (start_of page i + (2 + key_len page i)) (start_of page (i + 1) - (start_of page i + (2 + key_len page i))) (omega arith) (omega arith)

  entries-to : (m : ℕ) → m ≤ n → entries_to next m ≡ entries_to page m
  unfolding entries_to
  entries-to zero h = refl
  entries-to (suc m) h =
      ap (λ xs. xs ++ (entry_at next m ∷ [])) (entries-to m (omega arith))
      ∙ ap (λ e. entries_to page m ++ (e ∷ [])) (λ i. record { key = key-at m (omega arith) i; value = value-at m (omega arith) i })

  new-entry : entry_at next n ≡ record { key = key; value = value }
  new-entry =
      let s : start_of next n ≡ at = starts n (omega arith) ∙ sym begins in
      let k : key_len next n ≡ length key = ap (pair next) s ∙ w.keyed in
      let a : start_of next n + (2 + key_len next n) ≡ at + (2 + length key) = omega arith in
      let b : start_of next (n + 1) - (start_of next n + (2 + key_len next n)) ≡ length value = omega (arith, a, start-new) in
      let ke : key_at next n ≡ key = ap (λ x. part next (x + 2) (key_len next n)) s ∙ ap (λ x. part next (at + 2) x) k ∙ w.key_is in
      let ve : value_at next n ≡ value =
      ap (λ x. part next x (start_of next (n + 1) - (start_of next n + (2 + key_len next n)))) a ∙ ap (λ y. part next (at + (2 + length key)) y) b ∙ w.value_is in
      λ i. record { key = ke i; value = ve i }

  in_order : (i : ℕ) → i < n + 1 → start_of next i + (2 + key_len next i) ≤ start_of next (i + 1)
  in_order i h = go (cases_lt i n)
    where
      go : (i < n) ⊎ (n ≤ i) → start_of next i + (2 + key_len next i) ≤ start_of next (i + 1)
      go (inl l) = omega (arith, f.in_order i l, starts i (omega arith), starts (i + 1) (omega arith), key-len i l)
      go (inr l) =
          let e : i ≡ n = omega arith in
          subst (λ j. start_of next j + (2 + key_len next j) ≤ start_of next (j + 1)) (sym e)
          (let s : start_of next n ≡ at = starts n (omega arith) ∙ sym begins in
          let k : key_len next n ≡ length key = ap (pair next) s ∙ w.keyed in
          omega (arith, start-new))

  pub added : count_in page ≡ n → Added page key value next
  unfolding entries_to
  added e =
      let c : count_in next ≡ suc n = w.counted ∙ add-one n in
      record {
        formed = subst (Formed next) (sym w.counted) (record { long = w.long; in_order = in_order; apart = omega (arith, start-new) });
        entries =
            ap (entries_to next) c
            ∙ ap (λ xs. xs ++ (entry_at next n ∷ [])) (entries-to n (omega arith))
            ∙ ap (λ x. entries_to page n ++ (x ∷ [])) new-entry
            ∙ ap (λ m. entries_to page m ++ (record { key = key; value = value } ∷ [])) (sym e);
        level = w.front;
      }

-- the five writes of the code
pub written-by : (page key value p1 p2 q3 q4 q5 : List ℕ) (n at end : ℕ) → length page ≡ 4096 → 8 ≤ at → end ≡ at + 2 + length key + length value → at + (2 + (length key + length value)) + 2 * (n + 1) ≤ 4096 →
    p1 ≡ put_in page at (pair_of (length key)) → p2 ≡ put_in p1 (at + 2) key → q3 ≡ put_in p2 (at + 2 + length key) value → q4 ≡ put_in q3 (4096 - 2 * (n + 1)) (pair_of end) → q5 ≡ put_in q4 2 (pair_of (n + 1)) →
    Written page n at key value q5
written-by page key value p1 p2 q3 q4 q5 n at end long first is room a b d e f =
    let l1 : length p1 ≡ 4096 = ap length a ∙ length-put_in page (pair_of (length key)) at ∙ long in
    let l2 : length p2 ≡ 4096 = ap length b ∙ length-put_in p1 key (at + 2) ∙ l1 in
    let l3 : length q3 ≡ 4096 = ap length d ∙ length-put_in p2 value (at + 2 + length key) ∙ l2 in
    let l4 : length q4 ≡ 4096 = ap length e ∙ length-put_in q3 (pair_of end) (4096 - 2 * (n + 1)) ∙ l3 in
    let a : p1 ≡ put page at (pair_of (length key)) = a ∙ put_in-fits page (pair_of (length key)) at (omega arith) in
    let b : p2 ≡ put p1 (at + 2) key = b ∙ put_in-fits p1 key (at + 2) (omega arith) in
    let d : q3 ≡ put p2 (at + 2 + length key) value = d ∙ put_in-fits p2 value (at + 2 + length key) (omega arith) in
    let e : q4 ≡ put q3 (4096 - 2 * (n + 1)) (pair_of end) = e ∙ put_in-fits q3 (pair_of end) (4096 - 2 * (n + 1)) (omega arith) in
    let f : q5 ≡ put q4 2 (pair_of (n + 1)) = f ∙ put_in-fits q4 (pair_of (n + 1)) 2 (omega arith) in
    let two = put-put page (pair_of (length key)) key at (at + 2) refl (omega arith) in
    let three =
    put-put page (pair_of (length key) ++ key) value at (at + 2 + length key) (omega arith) (omega arith) in
    let all : q3 ≡ put page at (item key value) = d ∙ ap (λ p. put p (at + 2 + length key) value) (b ∙ ap (λ p. put p (at + 2) key) a ∙ two) ∙ three in
    let whole : q5 ≡ put (put (put page at (item key value)) (4096 - 2 * (n + 1)) (pair_of end)) 2 (pair_of (n + 1)) =
    f ∙ ap (λ p. put p 2 (pair_of (n + 1))) (e ∙ ap (λ p. put p (4096 - 2 * (n + 1)) (pair_of end)) all) in
    subst (Written page n at key value) (sym whole) (written page key value n at end long first (omega arith) (omega arith))

-- a page of zeros but for its first byte has no entries
pub cleared : (level mark : ℕ) (page zeroed : List ℕ) → length page ≡ 4096 → zeroed ≡ replicate (length page) 0 → mark ≡ min (level + 1) 255 → Cleared level (set zeroed 0 mark)
cleared level mark page zeroed l e h =
    let z : length zeroed ≡ 4096 = ap length e ∙ length-replicate (length page) 0 ∙ l in
    let at : (k : ℕ) → 0 < k → get_or (set zeroed 0 mark) k 0 ≡ 0 = λ k p. let ne : k ≢ 0 = (λ q. omega arith) in rw get_or-set_other (ap (λ xs. get_or xs k 0) e ∙ replicate-at 0 (length page) k) in
    let none : count_in (set zeroed 0 mark) ≡ 0 = let a = at 2 (omega arith) in let b = at 3 (omega arith) in omega arith in
    let lt : 0 < length zeroed = omega arith in
    let first : get_or (set zeroed 0 mark) 0 0 ≡ mark = rw get_or-set_same in
    record {
      formed = subst (Formed (set zeroed 0 mark)) (sym none) (record { long = length-set zeroed 0 mark ∙ z; in_order = λ i q. absurd (omega arith); apart = omega (arith, start_first (set zeroed 0 mark)) });
      none = none;
      marked = first ∙ h;
    }
