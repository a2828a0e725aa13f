-- One write more.
use Rattle.std.proofs.Common.{◌≡◌, ℕ, zero, suc, ◌+◌, ◌<◌, ◌≤◌, Bool, true, false, cond, eqb, ◌⊎◌, List, [], ◌∷◌, ◌++◌, length, get_or, take, replicate, ◌==◌, reverse, None, Some, Option, sym, refl, ap, ◌∙◌, subst, inl, inr, arith, eq-eqb, ne_eqb, ◌-◌, set, length-set, get_or-set_other, get_or-set_same}
use mathlib.Core.List.{Memᴰ}
use Rattle.std.proofs.lemmas.Bool.{cases_eq, cases_lt}
use Rattle.std.proofs.lemmas.List.{take_more, get_or_default, reverse-append}
use Rattle.std.proofs.lemmas.List.Folds.{find-append}
use Rattle.std.specs.List.{find}
use Rattle.std.specs.Option.{option_or}
use Rattle.device.specs.Device.{latest, zeros}
use Rattle.device.specs.Vector.{since_of, newest_of, Kept, KeptAll, KeptSome, Blanks}
use Rattle.device.specs.declared.vector.Written.{Written}

cond-append : (b : Bool) (x : List ℕ) (a c : List (List ℕ)) → cond b (x ∷ a) a ++ c ≡ cond b (x ∷ (a ++ c)) (a ++ c)
cond-append true x a c = refl
cond-append false x a c = refl

pub since-push : (s : ℕ) (ws : List Written) (w : Written) → since_of s (ws ++ (w ∷ [])) ≡ cond (eqb s w.sector) (w.bytes ∷ since_of s ws) (since_of s ws)
since-push s [] w = refl
since-push s (v ∷ ws) w =
    ap (λ l. l ++ cond (eqb s v.sector) (v.bytes ∷ []) []) (since-push s ws w) ∙ cond-append (eqb s w.sector) w.bytes (since_of s ws) (cond (eqb s v.sector) (v.bytes ∷ []) [])

pub since-more : (s : ℕ) (ws : List Written) (i : ℕ) (w : Written) → i < length ws → w ≡ get_or ws i w → since_of s (take (i + 1) ws) ≡ cond (eqb s w.sector) (w.bytes ∷ since_of s (take i ws)) (since_of s (take i ws))
since-more s ws i w h e = ap (since_of s) (take_more ws i w h ∙ ap (λ y. take i ws ++ (y ∷ [])) (sym e)) ∙ since-push s (take i ws) w

pub latest-cond : (b : Bool) (old x : List ℕ) (a : List (List ℕ)) → latest old (cond b (x ∷ a) a) ≡ cond b x (latest old a)
latest-cond true old x a = refl
latest-cond false old x a = refl

-- a write to a sector that is there is kept by one set, and one to any other changes nothing
set_at : (xs : List (List ℕ)) (i s : ℕ) (v : List ℕ) → i < length xs → get_or (set xs i v) s [] ≡ cond (eqb s i) v (get_or xs s [])
set_at xs i s v h =
    elim (cases_eq s i) [
      | inl e ↦ rw (eq-eqb s i e, e) (get_or-set_same xs i v [] h)
      | inr n ↦ rw (ne_eqb s i n) (get_or-set_other xs i s v [] n)
    ]

pub kept_set : (xs : List (List ℕ)) (w : Written) (ys : List (List ℕ)) → ys ≡ set xs w.sector w.bytes → w.sector < length xs → Kept xs w ys
kept_set xs w ys e h = record { long = ap length e ∙ simp length-set; items = λ s l. ap (λ y. get_or y s []) e ∙ set_at xs w.sector s w.bytes h }

pub kept-none : (xs : List (List ℕ)) (w : Written) → length xs ≤ w.sector → Kept xs w xs
kept-none xs w h = record { long = refl; items = λ s l. rw (ne_eqb s w.sector (λ e. omega arith)) refl }

-- the write's own sector goes by its own name in the device
pub since-written : (s : ℕ) (ws : List Written) (x : ℕ) (b : List ℕ) → since_of s (ws ++ (record { sector = x; bytes = b } ∷ [])) ≡ cond (eqb s x) (b ∷ since_of x ws) (since_of s ws)
since-written s ws x b =
    since-push s ws (record { sector = x; bytes = b }) ∙ elim (cases_eq s x) [
      | inl e ↦ rw (eq-eqb s x e) (ap (λ y. b ∷ since_of y ws) e)
      | inr n ↦ rw (ne_eqb s x n) refl
    ]

-- A STEP OF EACH LOOP
module _ (xs₀ : List (List ℕ)) (ws : List Written) (i : ℕ) (w : Written) (h : i < length ws) (e : w ≡ get_or ws i w) where
  latest-more : (s : ℕ) (f : List ℕ) → f ≡ latest (get_or xs₀ s []) (since_of s (take i ws)) → cond (eqb s w.sector) w.bytes f ≡ latest (get_or xs₀ s []) (since_of s (take (i + 1) ws))
  latest-more s f q =
      ap (cond (eqb s w.sector) w.bytes) q ∙ sym (latest-cond (eqb s w.sector) (get_or xs₀ s []) w.bytes (since_of s (take i ws))) ∙ ap (latest (get_or xs₀ s [])) (sym (since-more s ws i w h e))

  pub kept_more : (xs ys : List (List ℕ)) → Kept xs w ys → KeptAll xs₀ (take i ws) xs → KeptAll xs₀ (take (i + 1) ws) ys
  kept_more xs ys k all = record { long = k.long ∙ all.long; items = λ s l. k.items s (omega (arith, all.long, l)) ∙ latest-more s (get_or xs s []) (all.items s l) }

  same_at : (b : Bool) (y old x : List ℕ) (bs : List (List ℕ)) → (y ≡ old) ⊎ Memᴰ y bs → (y ≡ old) ⊎ Memᴰ y (cond b (x ∷ bs) bs)
  same_at b y old x bs (inl p) = inl p
  same_at true y old x bs (inr m) = inr (Memᴰ.tail m)
  same_at false y old x bs (inr m) = inr m

  new_at : (b : Bool) (y z old x : List ℕ) (bs : List (List ℕ)) → z ≡ cond b x y → (y ≡ old) ⊎ Memᴰ y bs → (z ≡ old) ⊎ Memᴰ z (cond b (x ∷ bs) bs)
  new_at true y z old x bs q m = inr (Memᴰ.head q)
  new_at false y z old x bs q m = subst (λ u. (u ≡ old) ⊎ Memᴰ u bs) (sym q) m

  more : (s : ℕ) (f : List ℕ) → (f ≡ get_or xs₀ s []) ⊎ Memᴰ f (cond (eqb s w.sector) (w.bytes ∷ since_of s (take i ws)) (since_of s (take i ws))) → (f ≡ get_or xs₀ s []) ⊎ Memᴰ f (since_of s (take (i + 1) ws))
  more s f m = subst (λ a. (f ≡ get_or xs₀ s []) ⊎ Memᴰ f a) (sym (since-more s ws i w h e)) m

  pub some_more : (xs ys : List (List ℕ)) → Kept xs w ys → KeptSome xs₀ (take i ws) xs → KeptSome xs₀ (take (i + 1) ws) ys
  some_more xs ys k some =
      record {
        long = k.long ∙ some.long;
        items = λ s l. more s (get_or ys s []) (new_at (eqb s w.sector) (get_or xs s []) (get_or ys s []) (get_or xs₀ s []) w.bytes (since_of s (take i ws)) (k.items s (omega (arith, some.long, l))) (some.items s l));
      }

  not-kept : (xs : List (List ℕ)) → KeptSome xs₀ (take i ws) xs → KeptSome xs₀ (take (i + 1) ws) xs
  not-kept xs some = record { long = some.long; items = λ s l. more s (get_or xs s []) (same_at (eqb s w.sector) (get_or xs s []) (get_or xs₀ s []) w.bytes (since_of s (take i ws)) (some.items s l)) }

pub some-same : (xs₀ : List (List ℕ)) (ws : List Written) (i : ℕ) → i < length ws → (xs : List (List ℕ)) → KeptSome xs₀ (take i ws) xs → KeptSome xs₀ (take (i + 1) ws) xs
some-same xs₀ ws i h xs some = let w = get_or ws i (record { sector = 0; bytes = [] }) in not-kept xs₀ ws i w h (get_or_default ws i _ w h) xs some

pub blanks-push : (xs : List (List ℕ)) → Blanks xs → Blanks (xs ++ (replicate 512 0 ∷ []))
blanks-push [] b = (refl, tt)
blanks-push (x ∷ xs) b = (b.0, blanks-push xs b.1)

zeros-is : (n : ℕ) → replicate n 0 ≡ zeros n
unfolding zeros
zeros-is zero = refl
zeros-is (suc n) = ap (λ l. 0 ∷ l) (zeros-is n)

pub blanks_at : (xs : List (List ℕ)) → Blanks xs → (s : ℕ) → s < length xs → get_or xs s [] ≡ zeros 512
blanks_at [] b s h = absurd (omega arith)
blanks_at (x ∷ xs) b zero h = b.0 ∙ zeros-is 512
blanks_at (x ∷ xs) b (suc s) h = blanks_at xs b.1 s (omega arith)

past : (xs : List (List ℕ)) (s : ℕ) → length xs ≤ s → get_or xs s [] ≡ []
past [] s h = refl
past (x ∷ xs) zero h = absurd (omega arith)
past (x ∷ xs) (suc s) h = past xs s (omega arith)

-- past the end nothing is held, before and after
pub each_all : (xs ys : List (List ℕ)) (ws : List Written) → KeptSome xs ws ys → (s : ℕ) → (get_or ys s [] ≡ get_or xs s []) ⊎ Memᴰ (get_or ys s []) (since_of s ws)
each_all xs ys ws k s = elim (cases_lt s (length xs)) [ inl h ↦ k.items s h | inr h ↦ inl (past ys s (omega (arith, k.long, h)) ∙ sym (past xs s h)) ]

-- LOOKING FOR THE LAST WRITE TO A SECTOR
-- one to another sector is passed by
pub passed-by : (s : ℕ) (ws : List Written) (at : ℕ) (w : Written) → 0 < at → at ≤ length ws → w ≡ get_or ws (at - 1) w → (w.sector ≡ s → ⊥) → since_of s (take at ws) ≡ since_of s ws → since_of s (take (at - 1) ws) ≡ since_of s ws
passed-by s ws at w h l e n q =
    let z : at - 1 + 1 ≡ at = omega arith in
    let up_to = subst (λ k. since_of s (take k ws) ≡ cond (eqb s w.sector) (w.bytes ∷ since_of s (take (at - 1) ws)) (since_of s (take (at - 1) ws))) z (since-more s ws (at - 1) w (omega arith) e) in
    sym (up_to ∙ rw (ne_eqb s w.sector (λ z. n (sym z))) refl) ∙ q

latest-append : (old : List ℕ) (a b : List (List ℕ)) → latest old (a ++ b) ≡ latest (latest old b) a
latest-append old [] b = refl
latest-append old (x ∷ a) b = refl

-- what the last write left, or what was kept before
abbrev left : List ℕ → Option Written → List ℕ
left old None = old
left old (Some w) = w.bytes

-- the first write is looked for last
looked_last : (s : ℕ) (old : List ℕ) (w : Written) (o : Option Written) →
    left (latest old (cond (s == w.sector) (w.bytes ∷ []) [])) o ≡ left old (option_or o (find (λ v. v.sector == s) (w ∷ [])))
looked_last s old w (Some v) = refl
looked_last s old w None =
    elim (cases_eq s w.sector) [
      | inl e ↦ rw (eq-eqb s w.sector e, eq-eqb w.sector s (sym e)) refl
      | inr n ↦ rw (ne_eqb s w.sector n, ne_eqb w.sector s (λ e. n (sym e))) refl
    ]

newest-is : (s : ℕ) (old : List ℕ) (ws : List Written) → latest old (since_of s ws) ≡ left old (newest_of s ws)
newest-is s old [] = refl
newest-is s old (w ∷ ws) =
    latest-append old (since_of s ws) (cond (s == w.sector) (w.bytes ∷ []) [])
    ∙ newest-is s (latest old (cond (s == w.sector) (w.bytes ∷ []) [])) ws
    ∙ looked_last s old w (find (λ v. v.sector == s) (reverse ws))
    ∙ ap (left old) (sym (ap (find (λ v. v.sector == s)) (reverse-append (w ∷ []) ws) ∙ find-append (λ v. v.sector == s) (reverse ws) (w ∷ [])))

pub found_some : (s : ℕ) (old : List ℕ) (ws : List Written) (w : Written) → newest_of s ws ≡ Some w → w.bytes ≡ latest old (since_of s ws)
found_some s old ws w e = sym (newest-is s old ws ∙ ap (left old) e)

pub found_none : (s : ℕ) (old : List ℕ) (ws : List Written) → newest_of s ws ≡ None → old ≡ latest old (since_of s ws)
found_none s old ws e = sym (newest-is s old ws ∙ ap (left old) e)
