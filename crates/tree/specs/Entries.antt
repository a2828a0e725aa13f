-- Entries in the order of their keys, as lists.
use Rattle.std.specs.Prelude.{◌≡◌, ℕ, Bool, true, false, cond, not, ◌||◌, List, [], ◌∷◌}
use Rattle.std.specs.List.{AllByRecursion}
use Rattle.meaning.specs.Value.{less_bytes}

pub record Entry : Type 0 where
  pub key : List ℕ
  pub value : List ℕ

-- an entry put in its place; what stood at its key goes
unfoldable pub enter : Entry → List Entry → List Entry
enter e [] = e ∷ []
enter e (x ∷ xs) = cond (less_bytes e.key x.key) (e ∷ x ∷ xs) (cond (less_bytes x.key e.key) (x ∷ enter e xs) (e ∷ xs))

-- without the entry at a key
unfoldable pub take_out : List ℕ → List Entry → List Entry
take_out k [] = []
take_out k (x ∷ xs) = cond (less_bytes k x.key || less_bytes x.key k) (x ∷ take_out k xs) xs

pub data Reply : Type 0 where
  Nothing : Reply
  Found : Entry → Reply

-- the first entry from a key on
unfoldable pub first_from : List ℕ → List Entry → Reply
first_from k [] = Nothing
first_from k (x ∷ xs) = cond (less_bytes x.key k) (first_from k xs) (Found x)

-- the last entry before a key, or r
unfoldable pub last_before : List ℕ → List Entry → Reply → Reply
last_before k [] r = r
last_before k (x ∷ xs) r = cond (less_bytes x.key k) (last_before k xs (Found x)) r

unfoldable pub first_key : List Entry → List ℕ
first_key [] = []
first_key (x ∷ xs) = x.key

-- every key is above k; below k; not below k
abbrev pub Above : List ℕ → List Entry → Type 0
Above k = AllByRecursion (λ (x : Entry). less_bytes k x.key ≡ true)

abbrev pub Under : List ℕ → List Entry → Type 0
Under k = AllByRecursion (λ (x : Entry). less_bytes x.key k ≡ true)

abbrev pub From : List ℕ → List Entry → Type 0
From k = AllByRecursion (λ (x : Entry). less_bytes x.key k ≡ false)

-- keys strictly rising
abbrev pub Rising : List Entry → Type 0
Rising [] = Unit {0}
Rising (x ∷ xs) = Above x.key xs × Rising xs

-- an edit puts an entry, or takes out what stands at a key
pub data Edit : Type 0 where
  put : Entry → Edit
  del : List ℕ → Edit

-- what holds of the entry that an edit puts, if it puts one
abbrev pub Puts : (Entry → Type 0) → Edit → Type 0
Puts P (put e) = P e
Puts P (del k) = Unit {0}

unfoldable pub spot : Edit → List ℕ
spot (put e) = e.key
spot (del k) = k

unfoldable pub apply : Edit → List Entry → List Entry
apply (put e) xs = enter e xs
apply (del k) xs = take_out k xs

unfoldable pub applies : List Edit → List Entry → List Entry
applies [] xs = xs
applies (e ∷ es) xs = applies es (apply e xs)

-- the edits below a key, and the others
unfoldable pub lower : List ℕ → List Edit → List Edit
lower k [] = []
lower k (e ∷ es) = cond (less_bytes (spot e) k) (e ∷ lower k es) (lower k es)

unfoldable pub upper : List ℕ → List Edit → List Edit
upper k [] = []
upper k (e ∷ es) = cond (less_bytes (spot e) k) (upper k es) (e ∷ upper k es)

-- does an edit name this entry's key
unfoldable pub edited : List Edit → Entry → Bool
edited [] x = false
edited (e ∷ es) x = not (less_bytes (spot e) x.key || less_bytes x.key (spot e)) || edited es x
