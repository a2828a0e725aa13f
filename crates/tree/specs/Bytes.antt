-- A page's entries as bytes: for each, two bytes for the length of its key, two for that of its value, then both.
use Rattle.std.specs.Prelude.{◌≡◌, ℕ, zero, suc, ◌+◌, List, [], ◌∷◌, ◌++◌, length, take, drop}
use Rattle.octets.specs.Parts.{pair, pair_of}
use Rattle.tree.specs.Entries.{Entry}
use Rattle.tree.specs.Pages.{Page, weigh}

abbrev pub entry_bytes : Entry → List ℕ
entry_bytes x = pair_of (length x.key) ++ (pair_of (length x.value) ++ (x.key ++ x.value))

unfoldable pub page_bytes : Page → List ℕ
page_bytes [] = []
page_bytes (x ∷ xs) = entry_bytes x ++ page_bytes xs

-- what an entry takes
abbrev pub taken : Entry → ℕ
taken x = 4 + (length x.key + length x.value)

abbrev pub key_len : List ℕ → ℕ
key_len bs = pair bs 0

abbrev pub value_len : List ℕ → ℕ
value_len bs = pair bs 2

-- n entries from bytes
unfoldable pub decode : ℕ → List ℕ → Page
decode zero bs = []
decode (suc n) bs =
    record { key = take (key_len bs) (drop 4 bs); value = take (value_len bs) (drop (key_len bs) (drop 4 bs)) } ∷ decode n (drop (value_len bs) (drop (key_len bs) (drop 4 bs)))

-- What was written is read; the bytes are as many as the page weighs; and pages joined are bytes joined.
abbrev pub BytesAre : Type 0
BytesAre =
    ((p : Page) (rest : List ℕ) → decode (length p) (page_bytes p ++ rest) ≡ p) × ((p : Page) → length (page_bytes p) ≡ weigh taken p) × ((p q : Page) → page_bytes (p ++ q) ≡ page_bytes p ++ page_bytes q)
