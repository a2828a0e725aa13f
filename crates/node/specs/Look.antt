-- Looking for a key in a page: which entry leads on, and what is found.
use Rattle.std.specs.Prelude.{◌≡◌, ℕ, ◌+◌, ◌<◌, ◌≤◌, Bool, true, false, cond, List, [], ◌∷◌, nat_lt}
use Rattle.tree.specs.Entries.{Reply, Nothing, Found}
use Rattle.tree.specs.Look.{pick, child, next_in}
use Rattle.node.specs.Node.{count_in, key_at, value_at, entry_at, entries_in}

-- the key of an entry, if the page has it
abbrev pub key_from : List ℕ → ℕ → List (List ℕ)
key_from page i = cond (nat_lt i (count_in page)) (key_at page i ∷ []) []

-- the entry at a place, if the page has it
abbrev pub found_at : List ℕ → ℕ → Reply
found_at page i = cond (nat_lt i (count_in page)) (Found (entry_at page i)) Nothing

-- the entry at i is the last whose key isn't above k, or the first, and what key comes after it
pub record Picked (page k : List ℕ) (i : ℕ) : Type 0 where
  pub within : i < count_in page
  pub leads : child pick k (entries_in page) ≡ value_at page i
  pub next : next_in k (entries_in page) ≡ key_from page (i + 1)

-- a test that tells f of the numbers below n
abbrev pub Tells : (ℕ → Bool → Type 0) → ℕ → (ℕ → Bool) → Type 0
Tells post n f = (i : ℕ) (t : Bool) → i < n → post i t → t ≡ f i

-- f holds of no number below n behind one that fails it
abbrev pub Falls : ℕ → (ℕ → Bool) → Type 0
Falls n f = (i j : ℕ) → i < j → j < n → f j ≡ true → f i ≡ true

-- f holds of the numbers below r, and of no other below n
pub record Halved (n : ℕ) (f : ℕ → Bool) (r : ℕ) : Type 0 where
  pub few : r ≤ n
  pub under : (i : ℕ) → i < r → f i ≡ true
  pub from : (i : ℕ) → r ≤ i → i < n → f i ≡ false
