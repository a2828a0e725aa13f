-- A page of the tree as bytes. Byte 0: the level and 1, so that no node is blank; bytes 2 and 3: how many entries; from byte 8 on the entries, one after another: two bytes for the length of
-- the key, the key, the value. From the page's end downwards, two bytes an entry: where it ends. So an entry takes 4 bytes and its key and value, and a page holds 4,088 bytes of them.
use Rattle.std.specs.Prelude.{◌≡◌, ℕ, zero, suc, ◌+◌, ◌-◌, ◌*◌, ◌<◌, ◌≤◌, min, true, false, Result, Ok, Err, ⊤, cond, List, [], ◌∷◌, ◌++◌, length, ◌==◌, slice_index, slice_index_or}
use Rattle.octets.specs.Parts.{part, pair}
use Rattle.meaning.specs.Value.{less_bytes}
use Rattle.tree.specs.Entries.{Entry}
use Rattle.node.specs.declared.Entry as C
use Rattle.node.specs.declared.Full.{Full}

-- how many entries a page says it has
abbrev pub count_in : List ℕ → ℕ
count_in page = pair page 2

-- where an entry begins: the first at 8, any other where the one before it ends
unfoldable pub start_of : List ℕ → ℕ → ℕ
start_of page i = cond (i == 0) 8 (pair page (4096 - 2 * i))

-- the length of an entry's key
abbrev pub key_len : List ℕ → ℕ → ℕ
key_len page i = pair page (start_of page i)

abbrev pub key_at : List ℕ → ℕ → List ℕ
key_at page i = part page (start_of page i + 2) (key_len page i)

abbrev pub value_at : List ℕ → ℕ → List ℕ
value_at page i = part page (start_of page i + (2 + key_len page i)) (start_of page (i + 1) - (start_of page i + (2 + key_len page i)))

abbrev pub entry_at : List ℕ → ℕ → Entry
entry_at page i = record { key = key_at page i; value = value_at page i }

-- the same of the code
abbrev pub lies : C.Entry → Entry
lies e = record { key = e.key.now; value = e.value.now }

-- the first n entries
unfoldable pub entries_to : List ℕ → ℕ → List Entry
entries_to page zero = []
entries_to page (suc n) = entries_to page n ++ (entry_at page n ∷ [])

-- d entries from the one at i on
unfoldable pub entries_from : List ℕ → ℕ → ℕ → List Entry
entries_from page i zero = []
entries_from page i (suc d) = entry_at page i ∷ entries_from page (i + 1) d

abbrev pub entries_in : List ℕ → List Entry
entries_in page = entries_to page (count_in page)

-- a page whose first n entries lie one after another, and end before the places where their ends stand
pub record Formed (page : List ℕ) (n : ℕ) : Type 0 where
  pub long : length page ≡ 4096
  pub in_order : (i : ℕ) → i < n → start_of page i + (2 + key_len page i) ≤ start_of page (i + 1)
  pub apart : start_of page n + 2 * n ≤ 4096

-- so of all that the page says it has
abbrev pub Whole : List ℕ → Type 0
Whole page = Formed page (count_in page)

-- so of the first n pages
abbrev pub Sound : List (List ℕ) → ℕ → Type 0
Sound pages n = (i : ℕ) → i < n → Whole (slice_index_or pages i [])

-- the keys of the first n entries rise
abbrev pub Sorted : List ℕ → ℕ → Type 0
Sorted page n = (i j : ℕ) → i < j → j < n → less_bytes (key_at page i) (key_at page j) ≡ true

-- the first r keys are below k, and the others are not
pub record Parted (page k : List ℕ) (n r : ℕ) : Type 0 where
  pub few : r ≤ n
  pub under : (i : ℕ) → i < r → less_bytes (key_at page i) k ≡ true
  pub from : (i : ℕ) → r ≤ i → i < n → less_bytes (key_at page i) k ≡ false

-- how many bytes the first n entries take, with the places of their ends
abbrev pub used_by : List ℕ → ℕ → ℕ
used_by page n = start_of page n - 8 + 2 * n

-- a page to which an entry was added
pub record Added (page : List ℕ) (key value next : List ℕ) : Type 0 where
  pub formed : Whole next
  pub entries : entries_in next ≡ entries_in page ++ (record { key = key; value = value } ∷ [])
  pub level : slice_index_or next 0 0 ≡ slice_index page 0

-- what adding an entry answers: it is added where the page has room for it, and else nothing changes
abbrev pub Pushed : List ℕ → List ℕ → List ℕ → Result ⊤ Full → List ℕ → Type 0
Pushed page key value (Ok u) next = (used_by page (count_in page) + (4 + (length key + length value)) ≤ 4088) × Added page key value next
Pushed page key value (Err e) next = (4088 < used_by page (count_in page) + (4 + (length key + length value))) × (next ≡ page)

pub record Cleared (level : ℕ) (page : List ℕ) : Type 0 where
  pub formed : Whole page
  pub none : count_in page ≡ 0
  pub marked : slice_index_or page 0 0 ≡ min (level + 1) 255

-- an entry was written behind the first n, which begin at 8 and end at `at`: bytes before it and the ends above it stay
pub record Written (page : List ℕ) (n at : ℕ) (key value next : List ℕ) : Type 0 where
  pub long : length next ≡ 4096
  pub front : slice_index_or next 0 0 ≡ slice_index page 0
  pub low : (x : ℕ) → 4 ≤ x → x < at → slice_index next x ≡ slice_index page x
  pub high : (x : ℕ) → 4096 ≤ x + 2 * n → slice_index next x ≡ slice_index page x
  pub keyed : pair next at ≡ length key
  pub key_is : part next (at + 2) (length key) ≡ key
  pub value_is : part next (at + (2 + length key)) (length value) ≡ value
  pub end : pair next (4096 - 2 * (n + 1)) ≡ at + (2 + (length key + length value))
  pub counted : pair next 2 ≡ n + 1
