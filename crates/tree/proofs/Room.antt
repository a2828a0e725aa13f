-- Want of room says how much is kept.
use Rattle.std.proofs.Common.{◌≡◌, ℕ, zero, suc, ◌+◌, ◌-◌, ◌*◌, ◌/◌, ◌^◌, ◌<◌, ◌≤◌, ◌⊎◌, List, [], ◌∷◌, length, sym, ap, ◌∙◌, subst, inl, inr, mul_assoc, mul-le-mul_left, mul_left_comm, arith, lit≤, pow_pos}
use native.Mathlib.Nat.{pow-succ', le_of_mul-le-mul_left}
use Rattle.std.proofs.lemmas.Bool.{cases_lt}
use Rattle.tree.specs.Entries.{Entry}
use Rattle.tree.specs.Pages.{weigh, Apart}
use Rattle.tree.specs.Tree.{Node, pages, entries, Stands}
use Rattle.tree.specs.Room.{slots, Sized, StandsSized, RoomSays}
use Rattle.tree.proofs.Bound.{leaf-bound, height_bound, pages-length}
use Rattle.tree.proofs.Change.{space-1226}

-- five to the power outgrows two to it
outgrows : (k : ℕ) → 2 * (2 ^ (10 + k) * (114600 * (12 + k))) ≤ 4089 * 5 ^ (10 + k)
outgrows zero = lit≤ tt
outgrows (suc k) =
    let ih = outgrows k in
    let e : 10 + suc k ≡ suc (10 + k) = omega arith in
    let five : 5 ^ (10 + suc k) ≡ 5 * 5 ^ (10 + k) = ap (λ n. 5 ^ n) e ∙ pow-succ' 5 (10 + k) in
    let a : 2 ^ (10 + suc k) * (114600 * (12 + suc k)) ≡ 2 * (2 ^ (10 + k) * (114600 * (12 + suc k))) =
    ap (λ x. x * (114600 * (12 + suc k))) (ap (λ n. 2 ^ n) e ∙ pow-succ' 2 (10 + k)) ∙ mul_assoc 2 (2 ^ (10 + k)) (114600 * (12 + suc k)) in
    let m : 2 ^ (10 + k) * (114600 * (12 + suc k)) ≤ 2 ^ (10 + k) * (2 * (114600 * (12 + k))) = mul-le-mul_left (2 ^ (10 + k)) (omega arith) in
    let d : 2 ^ (10 + k) * (2 * (114600 * (12 + k))) ≡ 2 * (2 ^ (10 + k) * (114600 * (12 + k))) = mul_left_comm (2 ^ (10 + k)) 2 (114600 * (12 + k)) in
    omega arith

-- from the twelfth level on, what the entries weigh pays for eighteen pages a level
grows : (k b : ℕ) → 4089 * 5 ^ (10 + k) ≤ 2 * (2 ^ (10 + k) * b) → 114600 * (12 + k) ≤ b
grows k b h = let g : 2 ^ (10 + k) * (114600 * (12 + k)) ≤ 2 ^ (10 + k) * b = omega (arith, outgrows k) in le_of_mul-le-mul_left g (pow_pos (10 + k))

-- so levels are few, or paid for
pub few-levels : (levels count bytes : ℕ) → Sized levels count bytes → 114600 * levels ≤ 114600 * 11 + bytes
few-levels levels count bytes s = go (cases_lt levels 12)
  where
    go : (levels < 12) ⊎ (12 ≤ levels) → 114600 * levels ≤ 114600 * 11 + bytes
    go (inl h) = omega arith
    go (inr h) =
        let e : levels ≡ 12 + (levels - 12) = omega arith in
        let d : levels - 2 ≡ 10 + (levels - 12) = omega arith in
        let g = grows (levels - 12) bytes (subst (λ n. 4089 * 5 ^ n ≤ 2 * (2 ^ n * bytes)) d (s.height h)) in
        omega arith

-- the slots are nearly an eighth of the sectors
slots-least : (size : ℕ) → 4096 ≤ size → 255 * size ≤ 2048 * slots size + 2552
slots-least size h =
    let m = (size / 8 + 63) / 64 in
    let a : 512 * m ≤ size + 504 = omega arith in
    let b : size - 1 - 2 * m ≤ 8 * slots size + 7 = omega arith in
    omega arith

enough : (size s c₀ c l₀ l b₀ b : ℕ) → 255 * size ≤ 2048 * s + 2552 → 1226 * c₀ ≤ 1226 * l₀ + b₀ → 1226 * c ≤ 1226 * l + b → 114600 * l₀ ≤ 1260600 + b₀ → 114600 * l ≤ 1260600 + b → 1048576 + 4 * (b₀ + b) ≤ 512 * size → c₀ + c + (17 * l + 24) ≤ s
enough size s c₀ c l₀ l b₀ b e p₀ p f₀ f h =
    let x : 66520064 + 255 * (b₀ + b) ≤ 262144 * s = omega arith in
    let y : 1226 * (c₀ + c + (17 * l + 24)) ≤ 1226 * (l₀ + 18 * l + 24) + (b₀ + b) = omega arith in
    let z : 114600 * (l₀ + 18 * l) ≤ 114600 * 209 + 18 * (b₀ + b) = omega arith in
    omega arith

pub room_says : RoomSays
room_says size l₀ c₀ b₀ l c b least s₀ s h = go (cases_lt (512 * size) (1048576 + 4 * (b₀ + b)))
  where
    go : (512 * size < 1048576 + 4 * (b₀ + b)) ⊎ (1048576 + 4 * (b₀ + b) ≤ 512 * size) → 512 * size < 1048576 + 4 * (b₀ + b)
    go (inl z) = z
    go (inr z) = absurd (omega (arith, enough size (slots size) c₀ c l₀ l b₀ b (slots-least size least) s₀.space s.space (few-levels l₀ c₀ b₀ s₀) (few-levels l c b s) z))

-- A TREE IS SO SIZED
tall : (v w : Entry → ℕ) (below : List Node) (more : List (List Node)) → Apart v 4088 (pages below) → Stands w 4088 1012 below more → 12 ≤ length (below ∷ more) → 4089 * 5 ^ (length (below ∷ more) - 2) ≤ 2 * (2 ^ (length (below ∷ more) - 2) * weigh v (entries below))
tall v w below [] a s h = absurd (omega arith)
tall v w below (ns ∷ more) a s h =
    let e : length (below ∷ ns ∷ more) - 2 ≡ length more = omega arith in
    let t = height_bound w 4088 1012 (lit≤ tt) below ns more s in
    let l : (length below - 1) * 4089 ≤ 2 * weigh v (entries below) = subst (λ n. (n - 1) * 4089 ≤ 2 * weigh v (entries below)) (pages-length below) (leaf-bound v 4088 (pages below) a) in
    let b : 2 ^ length more * ((length below - 1) * 4089) ≤ 2 ^ length more * (2 * weigh v (entries below)) = mul-le-mul_left (2 ^ length more) l in
    let c : 2 ^ length more * (2 * weigh v (entries below)) ≡ 2 * (2 ^ length more * weigh v (entries below)) = mul_left_comm (2 ^ length more) 2 (weigh v (entries below)) in
    let d : 2 ^ length more * ((length below - 1) * 4089) ≡ 2 ^ length more * (length below - 1) * 4089 = sym (mul_assoc (2 ^ length more) (length below - 1) 4089) in
    subst (λ n. 4089 * 5 ^ n ≤ 2 * (2 ^ n * weigh v (entries below))) (sym e) (omega arith)

pub stands-sized : StandsSized
stands-sized v w below more a s = record { space = space-1226 v w below more a s; height = tall v w below more a s }
