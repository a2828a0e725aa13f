-- Where the entries of a page lie.
use Rattle.std.proofs.Common.{◌≡◌, ℕ, zero, suc, ◌+◌, ◌-◌, ◌*◌, ◌<◌, ◌≤◌, false, eqb, List, sym, refl, ap, ◌∙◌, subst, arith, ne_eqb}
use Rattle.node.specs.Node.{start_of, key_len, value_at, Formed}
use Rattle.octets.specs.Parts.{part, pair}

-- starts rise, by two at least
pub starts-rise : (page : List ℕ) (n : ℕ) → Formed page n → (i d : ℕ) → i + d ≤ n → start_of page i + 2 * d ≤ start_of page (i + d)
starts-rise page n h i zero l = let e : i + 0 ≡ i = omega arith in subst (λ j. start_of page i + 0 ≤ start_of page j) (sym e) (omega arith)
starts-rise page n h i (suc d) l =
    let ih = starts-rise page n h i d (omega arith) in
    let s = h.in_order (i + d) (omega arith) in
    let e : i + d + 1 ≡ i + suc d = omega arith in
    subst (λ j. start_of page i + 2 * suc d ≤ start_of page j) e (omega arith)

pub start_first : (page : List ℕ) → start_of page 0 ≡ 8
unfolding start_of
start_first page = refl

pub start-later : (page : List ℕ) (i : ℕ) → 0 < i → start_of page i ≡ pair page (4096 - 2 * i)
unfolding start_of
start-later page i h = let e : eqb i 0 ≡ false = ne_eqb i 0 (λ z. omega arith) in rw e

-- so a page has few entries, and each begins within it
pub record Placed (page : List ℕ) (i : ℕ) : Type 0 where
  pub few : i < 2045
  pub begins : start_of page i < 4095

pub start-least : (page : List ℕ) (n i : ℕ) → Formed page n → i ≤ n → 8 + 2 * i ≤ start_of page i
start-least page n i h l =
    let e : 0 + i ≡ i = omega arith in
    let a : start_of page 0 + 2 * i ≤ start_of page i = subst (λ j. start_of page 0 + 2 * i ≤ start_of page j) e (starts-rise page n h 0 i (omega arith)) in
    omega (arith, start_first page)

pub start-most : (page : List ℕ) (n i : ℕ) → Formed page n → i ≤ n → start_of page i + 2 * i ≤ 4096
start-most page n i h l =
    let e : i + (n - i) ≡ n = omega arith in
    let a : start_of page i + 2 * (n - i) ≤ start_of page n = subst (λ j. start_of page i + 2 * (n - i) ≤ start_of page j) e (starts-rise page n h i (n - i) (omega arith)) in
    omega (arith, h.apart)

pub placed : (page : List ℕ) (n i : ℕ) → Formed page n → i < n → Placed page i
placed page n i h l =
    let a = start-least page n i h (omega arith) in
    let b = start-most page n (i + 1) h (omega arith) in
    let s = h.in_order i l in
    record { few = omega (arith, a, b, s); begins = omega (arith, a, b, s) }

-- a value, from where its entry begins and ends
pub value-is : (page r : List ℕ) (i start len end from rest : ℕ) → start ≡ start_of page i → len ≡ key_len page i → end ≡ start_of page (i + 1) → from ≡ start + 2 + len → rest ≡ end - from → r ≡ part page from rest → r ≡ value_at page i
value-is page r i start len end from rest a b d f g q =
    let u : from ≡ start_of page i + (2 + key_len page i) = omega arith in
    let v : rest ≡ start_of page (i + 1) - (start_of page i + (2 + key_len page i)) = omega arith in
    q ∙ ap (λ x. part page x rest) u ∙ ap (λ y. part page (start_of page i + (2 + key_len page i)) y) v
