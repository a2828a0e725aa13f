-- A page's entries as bytes.
use Rattle.std.proofs.Common.{◌≡◌, ℕ, suc, ◌+◌, ◌*◌, ◌/◌, ◌%◌, List, [], ◌∷◌, ◌++◌, length, take, drop, sym, refl, ap, ◌∙◌, ap₂, append_assoc, arith, length-append}
use Rattle.std.proofs.lemmas.List.{take_at, drop_at}
use Rattle.tree.specs.Entries.{Entry}
use Rattle.tree.specs.Pages.{Page, weigh}
use Rattle.tree.specs.Bytes.{entry_bytes, page_bytes, taken, decode, BytesAre}

whole : (n : ℕ) → 256 * (n / 256) + n % 256 ≡ n
whole n = omega arith

read_one : (x : Entry) (n : ℕ) (r : List ℕ) → decode (suc n) (entry_bytes x ++ r) ≡ x ∷ decode n r
unfolding decode
read_one x n r =
    ap₂ (λ k v. at k v) (whole (length x.key)) (whole (length x.value))
    ∙ ap (λ z. record { key = z; value = take (length x.value) (drop (length x.key) body) } ∷ decode n (drop (length x.value) (drop (length x.key) body))) (ap (take (length x.key)) assoc ∙ take_at x.key (x.value ++ r) (length x.key) refl)
    ∙ ap (λ z. record { key = x.key; value = take (length x.value) z } ∷ decode n (drop (length x.value) z)) (ap (drop (length x.key)) assoc ∙ drop_at x.key (x.value ++ r) (length x.key) refl)
    ∙ ap (λ z. record { key = x.key; value = z } ∷ decode n (drop (length x.value) (x.value ++ r))) (take_at x.value r (length x.value) refl)
    ∙ ap (λ z. x ∷ decode n z) (drop_at x.value r (length x.value) refl)
  where
    body : List ℕ
    body = (x.key ++ x.value) ++ r

    assoc : body ≡ x.key ++ (x.value ++ r)
    assoc = append_assoc x.key x.value r

    at : ℕ → ℕ → Page
    at k v = record { key = take k body; value = take v (drop k body) } ∷ decode n (drop v (drop k body))

pub decode-bytes : (p : Page) (rest : List ℕ) → decode (length p) (page_bytes p ++ rest) ≡ p
unfolding page_bytes
decode-bytes [] rest = unfold decode in refl
decode-bytes (x ∷ xs) rest = ap (decode (suc (length xs))) (append_assoc (entry_bytes x) (page_bytes xs) rest) ∙ read_one x (length xs) (page_bytes xs ++ rest) ∙ ap (λ z. x ∷ z) (decode-bytes xs rest)

pub bytes-length : (p : Page) → length (page_bytes p) ≡ weigh taken p
unfolding page_bytes weigh
bytes-length [] = refl
bytes-length (x ∷ xs) = omega (arith, bytes-length xs, length-append (entry_bytes x) (page_bytes xs), length-append x.key x.value)

pub bytes-append : (p q : Page) → page_bytes (p ++ q) ≡ page_bytes p ++ page_bytes q
unfolding page_bytes
bytes-append [] q = refl
bytes-append (x ∷ p) q = ap (λ z. entry_bytes x ++ z) (bytes-append p q) ∙ sym (append_assoc (entry_bytes x) (page_bytes p) (page_bytes q))

pub bytes-are : BytesAre
bytes-are = (decode-bytes, bytes-length, bytes-append)
