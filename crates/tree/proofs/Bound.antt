-- How many pages a level and a tree have.
use Rattle.std.proofs.Common.{◌≡◌, ℕ, suc, ◌+◌, ◌-◌, ◌*◌, ◌^◌, ◌<◌, ◌≤◌, List, [], ◌∷◌, ◌++◌, length, sym, refl, ap, subst, subst₂, ⊎_elim, mul-le-mul_left, arith, length-append}
use native.Mathlib.Nat.{pow-succ'}
use Rattle.std.specs.List.{AllByRecursion as All}
use Rattle.std.proofs.lemmas.Bool.{cases_lt}
use Rattle.tree.specs.Entries.{Entry}
use Rattle.tree.specs.Pages.{Page, weigh, concat, Fits, ApartFrom, Apart}
use Rattle.tree.specs.Tree.{Node, heads, pages, entries, Stands, count_all}
use Rattle.tree.proofs.Joins.{weigh-append}

-- a number of each page, any two adjacent ones together at least c
total : (Page → ℕ) → List Page → ℕ
total f [] = 0
total f (p ∷ ps) = f p + total f ps

abbrev OverFrom : (Page → ℕ) → ℕ → Page → List Page → Type 0
OverFrom f c p [] = Unit {0}
OverFrom f c p (q ∷ qs) = (c ≤ f p + f q) × OverFrom f c q qs

over : (f : Page → ℕ) (c e : ℕ) (p : Page) (qs : List Page) → e ≤ f p → All (λ q. e ≤ f q) qs → OverFrom f c p qs → c * length qs + f p + e ≤ 2 * (f p + total f qs)
unfolding total
over f c e p [] h t o = omega arith
over f c e p (q ∷ qs) h t o = omega (arith, over f c e q qs t.0 t.1 o.1, o.0)

total-weigh : (w : Entry → ℕ) (ps : List Page) → total (weigh w) ps ≡ weigh w (concat ps)
unfolding total concat weigh
total-weigh w [] = refl
total-weigh w (p ∷ ps) = omega (arith, total-weigh w ps, weigh-append w p (concat ps))

total-length : (ps : List Page) → total length ps ≡ length (concat ps)
unfolding total concat
total-length [] = refl
total-length (p ∷ ps) = omega (arith, total-length ps, length-append p (concat ps))

over-weigh : (w : Entry → ℕ) (cap : ℕ) (p : Page) (qs : List Page) → ApartFrom w cap p qs → OverFrom (weigh w) (suc cap) p qs
over-weigh w cap p [] h = tt
over-weigh w cap p (q ∷ qs) h = (h.0, over-weigh w cap q qs h.1)

any-zero : (f : Page → ℕ) (qs : List Page) → All (λ q. 0 ≤ f q) qs
any-zero f [] = tt
any-zero f (q ∷ qs) = (omega arith, any-zero f qs)

pub leaf-bound : (w : Entry → ℕ) (cap : ℕ) (ps : List Page) → Apart w cap ps → (length ps - 1) * (cap + 1) ≤ 2 * weigh w (concat ps)
unfolding concat weigh total
leaf-bound w cap [] h = omega arith
leaf-bound w cap (p ∷ ps) h =
    let z : length ps * (cap + 1) ≤ 2 * weigh w (concat (p ∷ ps)) = omega (arith, over (weigh w) (suc cap) 0 p ps (omega arith) (any-zero (weigh w) ps) (over-weigh w cap p ps h), total-weigh w (p ∷ ps)) in
    let e : length ps ≡ length (p ∷ ps) - 1 = omega arith in
    subst (λ n. n * (cap + 1) ≤ 2 * weigh w (concat (p ∷ ps))) e z

-- two adjacent inner pages have five entries
pub weigh-most : (w : Entry → ℕ) (m : ℕ) (xs : Page) → All (λ (x : Entry). w x ≤ m) xs → weigh w xs ≤ m * length xs
unfolding weigh
weigh-most w m [] h = omega arith
weigh-most w m (x ∷ xs) h = omega (arith, weigh-most w m xs h.1, h.0)

pub five : (m cap a b x y : ℕ) → 4 * m ≤ cap → a ≤ m * x → b ≤ m * y → cap < a + b → 5 ≤ x + y
five m cap a b x y h p q k = ⊎_elim (λ (l : 4 < x + y). l) (λ l. let z : m * (x + y) ≤ m * 4 = mul-le-mul_left m l in absurd (omega arith)) (cases_lt 4 (x + y))

pub all_left : {X : Type 0} (P : X → Type 0) (xs ys : List X) → All P (xs ++ ys) → All P xs
all_left P [] ys h = tt
all_left P (x ∷ xs) ys h = (h.0, all_left P xs ys h.1)

pub all_right : {X : Type 0} (P : X → Type 0) (xs ys : List X) → All P (xs ++ ys) → All P ys
all_right P [] ys h = h
all_right P (x ∷ xs) ys h = all_right P xs ys h.1

over-length : (w : Entry → ℕ) (cap m : ℕ) (p : Page) (qs : List Page) → 4 * m ≤ cap → All (λ (x : Entry). w x ≤ m) (p ++ concat qs) → ApartFrom w cap p qs → OverFrom length 5 p qs
unfolding concat
over-length w cap m p [] k s h = tt
over-length w cap m p (q ∷ qs) k s h =
    let P : Entry → Type 0 = λ x. w x ≤ m in
    let s₁ : All P (q ++ concat qs) = all_right P p (q ++ concat qs) s in
    (five m cap (weigh w p) (weigh w q) (length p) (length q) k (weigh-most w m p (all_left P p (q ++ concat qs) s)) (weigh-most w m q (all_left P q (concat qs) s₁)) h.0, over-length w cap m q qs k s₁ h.1)

all-some : (w : Entry → ℕ) (cap : ℕ) (qs : List Page) → All (Fits w cap) qs → All (λ (q : Page). 1 ≤ length q) qs
all-some w cap [] h = tt
all-some w cap (q ∷ qs) h = (h.0.1, all-some w cap qs h.1)

pub inner_bound : (w : Entry → ℕ) (cap m : ℕ) (ps : List Page) → 4 * m ≤ cap → All (Fits w cap) ps → Apart w cap ps → All (λ (x : Entry). w x ≤ m) (concat ps) → 5 * (length ps - 1) ≤ 2 * (length (concat ps) - 1)
unfolding concat total
inner_bound w cap m [] k f h s = omega arith
inner_bound w cap m (p ∷ ps) k f h s = let e : 1 ≤ length p = f.0.1 in omega (arith, over length 5 1 p ps e (all-some w cap ps f.1) (over-length w cap m p ps k s h), total-length (p ∷ ps))

-- levels
pub heads-length : (ns : List Node) → length (heads ns) ≡ length ns
unfolding heads
heads-length [] = refl
heads-length (n ∷ ns) = ap suc (heads-length ns)

pub pages-length : (ns : List Node) → length (pages ns) ≡ length ns
unfolding pages
pages-length [] = refl
pages-length (n ∷ ns) = ap suc (pages-length ns)

module _ (w : Entry → ℕ) (cap m : ℕ) (small : 4 * m ≤ cap) where
  pub level-bound : (below ns : List Node) (more : List (List Node)) → Stands w cap m below (ns ∷ more) → 5 * (length ns - 1) ≤ 2 * (length below - 1)
  level-bound below ns more s =
      let h = inner_bound w cap m (pages ns) small s.0.fit s.0.apart s.1 in
      let e : length (entries ns) ≡ length (heads below) = ap length s.2 in
      omega (arith, h, e, heads-length below, pages-length ns)

  pub tree-bound : (below : List Node) (more : List (List Node)) → Stands w cap m below more → 3 * count_all (below ∷ more) ≤ 3 * length (below ∷ more) + 5 * (length below - 1)
  unfolding count_all
  tree-bound below [] s = omega arith
  tree-bound below (ns ∷ more) s = let two : 2 ≤ length below = s.3 in omega (arith, tree-bound ns more s.4, level-bound below ns more s)

  height-step : (p q a b : ℕ) → p ≤ q * a → 5 * a ≤ 2 * b → 5 * p ≤ 2 * q * b
  height-step p q a b h k = let z : q * (5 * a) ≤ q * (2 * b) = mul-le-mul_left q k in omega arith

  pub height_bound : (below ns : List Node) (more : List (List Node)) → Stands w cap m below (ns ∷ more) → 5 ^ length more ≤ 2 ^ length more * (length below - 1)
  height_bound below ns [] s = let two : 2 ≤ length below = s.3 in omega arith
  height_bound below ns (ms ∷ more) s =
      let h = height_bound ns ms more s.4 in
      let z : 5 * 5 ^ length more ≤ 2 * 2 ^ length more * (length below - 1) = height-step (5 ^ length more) (2 ^ length more) (length ns - 1) (length below - 1) h (level-bound below ns (ms ∷ more) s) in
      subst₂ (λ x y. x ≤ y * (length below - 1)) (sym (pow-succ' 5 (length more))) (sym (pow-succ' 2 (length more))) z

-- in bytes: three times the pages, at cap + 1 bytes, are at most three times the height, and ten times what all leaves weigh
space-step : (c n h l b : ℕ) → 3 * n ≤ 3 * h + 5 * l → l * c ≤ 2 * b → 3 * (c * n) ≤ 3 * (c * h) + 10 * b
space-step c n h l b p q = let z : c * (3 * n) ≤ c * (3 * h + 5 * l) = mul-le-mul_left c p in omega arith

pub space-bound : (v w : Entry → ℕ) (cap m : ℕ) (below : List Node) (more : List (List Node)) → 4 * m ≤ cap → Apart v cap (pages below) → Stands w cap m below more → 3 * ((cap + 1) * count_all (below ∷ more)) ≤ 3 * ((cap + 1) * length (below ∷ more)) + 10 * weigh v (entries below)
space-bound v w cap m below more k a s =
    space-step (cap + 1) (count_all (below ∷ more)) (length (below ∷ more)) (length below - 1) (weigh v (entries below)) (tree-bound w cap m k below more s)
    (subst (λ n. (n - 1) * (cap + 1) ≤ 2 * weigh v (entries below)) (pages-length below) (leaf-bound v cap (pages below) a))
