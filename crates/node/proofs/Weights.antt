-- A page's entries weigh what the page says it uses.
use Rattle.std.proofs.Common.{◌≡◌, ℕ, zero, suc, ◌+◌, ◌-◌, ◌*◌, ◌<◌, ◌≤◌, List, [], ◌∷◌, ◌++◌, ap, add-one, arith}
use Rattle.octets.proofs.Parts.{length_part}
use Rattle.tree.specs.Pages.{weigh}
use Rattle.tree.specs.Bytes.{taken}
use Rattle.tree.proofs.Joins.{weigh-append}
use Rattle.node.specs.Node.{count_in, start_of, key_len, entry_at, entries_to, entries_in, used_by, Formed}
use Rattle.node.proofs.Places.{start_first, start-least, start-most}

module _ (page : List ℕ) (n : ℕ) (f : Formed page n) where
  one : (i : ℕ) → i < n → taken (entry_at page i) + (start_of page i + 2 * i) ≡ start_of page (i + 1) + 2 * (i + 1)
  one i h =
      let s = f.in_order i h in
      let m = start-most page n (i + 1) f (omega arith) in
      let k = length_part page (start_of page i + 2) (key_len page i) (omega (arith, f.long)) in
      let v = length_part page (start_of page i + (2 + key_len page i)) (start_of page (i + 1) - (start_of page i + (2 + key_len page i))) (omega (arith, f.long)) in
      omega arith

  weighs-to : (m : ℕ) → m ≤ n → weigh taken (entries_to page m) + 8 ≡ start_of page m + 2 * m
  unfolding entries_to weigh
  weighs-to zero h = omega (arith, start_first page)
  weighs-to (suc m) h =
      let e : weigh taken (entries_to page m ++ (entry_at page m ∷ [])) ≡ weigh taken (entries_to page m) + (taken (entry_at page m) + 0) = weigh-append taken (entries_to page m) (entry_at page m ∷ []) in
      let o = one m (omega arith) in
      let ih = weighs-to m (omega arith) in
      let z : start_of page (m + 1) ≡ start_of page (suc m) = ap (start_of page) (add-one m) in
      omega arith

pub weighs : (page : List ℕ) → Formed page (count_in page) → weigh taken (entries_in page) ≡ used_by page (count_in page)
weighs page f =
    let a = weighs-to page (count_in page) f (count_in page) (omega arith) in
    let b = start-least page (count_in page) (count_in page) f (omega arith) in
    omega arith
