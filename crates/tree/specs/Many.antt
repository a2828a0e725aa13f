-- Many maps in one list: each key has its map's number before it, in two bytes.
use Rattle.std.specs.Prelude.{◌≡◌, ℕ, zero, suc, ◌/◌, ◌%◌, ◌<◌, ◌≤◌, Bool, cond, ◌&&◌, List, [], ◌∷◌, ◌++◌, drop, ◌==◌, slice_index}
use Rattle.tree.specs.Entries.{Entry, enter, take_out, Reply, Nothing, Found, first_from, last_before, Rising}

-- a key with its map's number before it; an entry with such a key
abbrev pub prefixed : ℕ → List ℕ → List ℕ
prefixed m k = m / 256 ∷ m % 256 ∷ k

abbrev pub tag : ℕ → Entry → Entry
tag m e = record { key = prefixed m e.key; value = e.value }

unfoldable pub tagged : ℕ → List Entry → List Entry
tagged m [] = []
tagged m (e ∷ es) = tag m e ∷ tagged m es

-- the entries of the maps below n
unfoldable pub together : ℕ → (ℕ → List Entry) → List Entry
together zero f = []
together (suc n) f = together n f ++ tagged n (f n)

-- maps, one of which has other entries
abbrev pub at : ℕ → List Entry → (ℕ → List Entry) → ℕ → List Entry
at m es f n = cond (n == m) es (f n)

-- what was found, if it is an entry of this map
abbrev pub is_of : ℕ → Entry → Bool
is_of m e = slice_index e.key 0 == m / 256 && slice_index e.key 1 == m % 256

abbrev pub own : ℕ → Reply → Reply
own m Nothing = Nothing
own m (Found e) = cond (is_of m e) (Found (record { key = drop 2 e.key; value = e.value })) Nothing

-- What is done to one map is done to its entries in the list of all, and what is looked for there is what the map has.
abbrev pub ManyMaps : Type 0
ManyMaps =
    (n m : ℕ) (f : ℕ → List Entry) → n ≤ 65536 → m < n →
    ((e : Entry) → enter (tag m e) (together n f) ≡ together n (at m (enter e (f m)) f))
    × ((k : List ℕ) → take_out (prefixed m k) (together n f) ≡ together n (at m (take_out k (f m)) f))
    × ((k : List ℕ) → own m (first_from (prefixed m k) (together n f)) ≡ first_from k (f m))
    × ((k : List ℕ) → own m (last_before (prefixed m k) (together n f) Nothing) ≡ last_before k (f m) Nothing)

-- and where the keys of each map rise, those of all do
abbrev pub ManyRise : Type 0
ManyRise = (n : ℕ) (f : ℕ → List Entry) → n ≤ 65536 → ((m : ℕ) → Rising (f m)) → Rising (together n f)
