-- Rows as bytes: what is written is read, and what is read was written. Assumes nothing.
use Rattle.std.proofs.Common.{◌≡◌, ℕ, zero, suc, ◌+◌, ◌-◌, ◌<◌, ◌≤◌, Bool, true, false, cond, eqb, ltb, leb, ◌⊎◌, List, [], ◌∷◌, ◌++◌, length, take, drop, ℤ, pos, negsuc, Some, None, Option, sym, refl, ap, ◌∙◌, subst, inl, inr, append_assoc, append-nil, arith, length-append, length-drop}
use Rattle.std.specs.Option.{option_map, MatchOption, is_some}
use Rattle.std.specs.Bool.{then_some}
use Rattle.std.specs.Iterator.{YieldsThen}
use Rattle.std.specs.Int.Digits.{number_from_digits}
use Rattle.std.proofs.ByRecursion.{All-take, All-drop}
use Rattle.std.proofs.lemmas.List.{take_at, drop_at, take-append-drop, length-take-le, nil_from_length}
use Rattle.std.proofs.lemmas.Int.Digits.{number_lt}
use Rattle.std.proofs.lemmas.Bool.{cond-true, cond-false, lt-ltb, le-ltb, le-leb, leb-true, eqb-true, ltb-true, ltb-false, ne_eqb}
use Rattle.std.proofs.lemmas.Bool.Decides.{nat_tests}
use Rattle.meaning.specs.Value.{Value, Null, Num, Text}
use Rattle.meaning.specs.Meaning.{nth}
use Rattle.meaning.specs.Doing.{weight, weight_all}
use Rattle.octets.specs.Numbers.{be, Bytes}
use Rattle.values.specs.Key.{lifted, Storable}
use Rattle.values.specs.Row.{bytes_of, row_bytes, lowered, Split, text_front, Takes, chained, front_of, front, column_of, row_by, row_of, RowsRead, RowsWritten, RowsColumns, RowsWeigh}
use Rattle.values.specs.Meant.{meaning_of}
use Rattle.values.specs.declared.Value as V
use Rattle.values.specs.declared.row.Values.{Values}
use Rattle.values.specs.contracts.row.ValuesIterator.TheImpl.{next_gives-value}
use Rattle.octets.proofs.Numbers.{length-be, number-be, be-number}
use Rattle.values.proofs.Keys.{Held, held-storable, lifted-below}

-- numbers with 2^63 added and taken away

lowered-lifted : (z : ℤ) → Held z → lowered (lifted z) ≡ z
unfolding lowered lifted
lowered-lifted (pos n) h = cond-false _ _ _ (le-ltb (n + 9223372036854775808) 9223372036854775808 (omega arith)) ∙ ap pos (omega arith)
lowered-lifted (negsuc n) h = cond-true _ _ _ (lt-ltb (9223372036854775807 - n) 9223372036854775808 (omega arith)) ∙ ap negsuc (omega arith)

lifted-lowered : (n : ℕ) → n < 18446744073709551616 → lifted (lowered n) ≡ n
unfolding lowered lifted
lifted-lowered n h = go (ltb n 9223372036854775808) refl
  where
    go : (b : Bool) → ltb n 9223372036854775808 ≡ b → lifted (cond b (negsuc (9223372036854775807 - n)) (pos (n - 9223372036854775808))) ≡ n
    go true e = let k = ltb-true n 9223372036854775808 e in omega arith
    go false e = let k = ltb-false n 9223372036854775808 e in omega arith

-- tests that a value passed

pub guarded : {A : Type 0} (b : Bool) (o : Option A) (s : A) → cond b o None ≡ Some s → (b ≡ true) × (o ≡ Some s)
guarded true o s e = (refl, e)
guarded false o s e = cc

pub chosen : {A : Type 0} (b : Bool) (o p : Option A) (s : A) → cond b o p ≡ Some s → ((b ≡ true) × (o ≡ Some s)) ⊎ (p ≡ Some s)
chosen true o p s e = inl (refl, e)
chosen false o p s e = inr e

pub same_some : {A : Type 0} (x y : A) → Some x ≡ Some y → y ≡ x
same_some x y e = cc

-- what the first value of bytes can be
unfoldable pub View : ℕ → List ℕ → Split → Type 0
View kind bs s =
    ((kind ≡ 0) × (s ≡ record { value = Null; rest = bs })) ⊎
    (((kind ≡ 1) × (8 ≤ length bs) × (s ≡ record { value = Num (lowered (number_from_digits 256 (take 8 bs))); rest = drop 8 bs })) ⊎
    ((kind ≡ 2) × (2 ≤ length bs) × (number_from_digits 256 (take 2 bs) ≤ length (drop 2 bs)) × (s ≡ record { value = Text (take (number_from_digits 256 (take 2 bs)) (drop 2 bs)); rest = drop (number_from_digits 256 (take 2 bs)) (drop 2 bs) })))

pub view : (kind : ℕ) (bs : List ℕ) (s : Split) → front_of kind bs ≡ Some s → View kind bs s
unfolding View
view kind bs s e = at_null (chosen (eqb kind 0) _ _ s e)
  where
    at-text : (cond (eqb kind 2) (cond (leb 2 (length bs)) (text_front (number_from_digits 256 (take 2 bs)) (drop 2 bs)) None) None ≡ Some s) → View kind bs s
    at-text e =
        let p = guarded (eqb kind 2) _ s e in
        let q = guarded (leb 2 (length bs)) _ s p.1 in
        let r = guarded (leb (number_from_digits 256 (take 2 bs)) (length (drop 2 bs))) _ s q.1 in
        inr (inr (eqb-true kind 2 p.0, leb-true 2 (length bs) q.0, leb-true _ _ r.0, same_some _ s r.1))

    at-number : (((eqb kind 1 ≡ true) × (cond (leb 8 (length bs)) (Some (record { value = Num (lowered (number_from_digits 256 (take 8 bs))); rest = drop 8 bs })) None ≡ Some s)) ⊎ (cond (eqb kind 2) (cond (leb 2 (length bs)) (text_front (number_from_digits 256 (take 2 bs)) (drop 2 bs)) None) None ≡ Some s)) → View kind bs s
    at-number (inl p) = let q = guarded (leb 8 (length bs)) _ s p.1 in inr (inl (eqb-true kind 1 p.0, leb-true 8 (length bs) q.0, same_some _ s q.1))
    at-number (inr p) = at-text p

    at_null : (((eqb kind 0 ≡ true) × (Some (record { value = Null; rest = bs }) ≡ Some s)) ⊎ (cond (eqb kind 1) (cond (leb 8 (length bs)) (Some (record { value = Num (lowered (number_from_digits 256 (take 8 bs))); rest = drop 8 bs })) None) (cond (eqb kind 2) (cond (leb 2 (length bs)) (text_front (number_from_digits 256 (take 2 bs)) (drop 2 bs)) None) None) ≡ Some s)) → View kind bs s
    at_null (inl p) = inl (eqb-true kind 0 p.0, same_some _ s p.1)
    at_null (inr p) = at-number (chosen (eqb kind 1) _ _ s p)

-- fewer bytes are left
pub front-shorter : (bs : List ℕ) (s : Split) → front bs ≡ Some s → length s.rest < length bs
unfolding front View
front-shorter [] s e = cc
front-shorter (kind ∷ bs) s e = go (view kind bs s e)
  where
    go : View kind bs s → length s.rest < suc (length bs)
    go (inl p) = let q = ap (λ (t : Split). length t.rest) p.1 in omega (arith, q)
    go (inr (inl p)) = let q = ap (λ (t : Split). length t.rest) p.2 in omega (arith, q, length-drop 8 bs)
    go (inr (inr p)) = let q = ap (λ (t : Split). length t.rest) p.3 in omega (arith, q, length-drop (number_from_digits 256 (take 2 bs)) (drop 2 bs), length-drop 2 bs)

pub front-nil : front [] ≡ None
unfolding front
front-nil = refl

row-nil : row_of [] ≡ Some []
unfolding row_by
row-nil = refl

-- one value taken off
pub row_more : (f : ℕ) (bs : List ℕ) (s : Split) → front bs ≡ Some s → row_by (suc f) bs ≡ option_map (λ (vs : List Value). s.value ∷ vs) (row_by f s.rest)
unfolding row_by
row_more f [] s e = cc (sym front-nil ∙ e)
row_more f (b ∷ bs) s e = ap (λ (o : Option Split). chained o (λ (t : Split). option_map (λ (vs : List Value). t.value ∷ vs) (row_by f t.rest))) e

pub row-stops : (f : ℕ) (bs : List ℕ) → (length bs ≡ 0 → ⊥) → front bs ≡ None → row_by f bs ≡ None
unfolding row_by
row-stops f [] h e = absurd (h refl)
row-stops zero (b ∷ bs) h e = refl
row-stops (suc f) (b ∷ bs) h e = ap (λ (o : Option Split). chained o (λ (t : Split). option_map (λ (vs : List Value). t.value ∷ vs) (row_by f t.rest))) e

-- turns to spare change nothing
row-turns : (f g : ℕ) (bs : List ℕ) → length bs ≤ f → length bs ≤ g → row_by f bs ≡ row_by g bs
unfolding row_by
row-turns f g [] h k = refl
row-turns zero g (b ∷ bs) h k = absurd (omega arith)
row-turns (suc f) zero (b ∷ bs) h k = absurd (omega arith)
row-turns (suc f) (suc g) (b ∷ bs) h k = go (front (b ∷ bs)) refl (row-turns f g)
  where
    go : (o : Option Split) → front (b ∷ bs) ≡ o → ((rest : List ℕ) → length rest ≤ f → length rest ≤ g → row_by f rest ≡ row_by g rest) → row_by (suc f) (b ∷ bs) ≡ row_by (suc g) (b ∷ bs)
    go None e turns = row-stops (suc f) (b ∷ bs) (λ z. omega arith) e ∙ sym (row-stops (suc g) (b ∷ bs) (λ z. omega arith) e)
    go (Some s) e turns =
        let l = front-shorter (b ∷ bs) s e in
        row_more f (b ∷ bs) s e ∙ ap (option_map (λ (vs : List Value). s.value ∷ vs)) (turns s.rest (omega arith) (omega arith)) ∙ sym (row_more g (b ∷ bs) s e)

pub row-front : (bs : List ℕ) (s : Split) → front bs ≡ Some s → row_of bs ≡ option_map (λ (vs : List Value). s.value ∷ vs) (row_of s.rest)
row-front bs s e =
    let l = front-shorter bs s e in
    row-turns (length bs) (suc (length bs)) bs (omega arith) (omega arith)
    ∙ row_more (length bs) bs s e
    ∙ ap (option_map (λ (vs : List Value). s.value ∷ vs)) (row-turns (length bs) (length s.rest) s.rest (omega arith) (omega arith))

-- what is written is read

length-bytes : (v : Value) → length (bytes_of v) ≡ weight v
unfolding bytes_of weight
length-bytes Null = refl
length-bytes (Num n) = ap suc (length-be 8 (lifted n))
length-bytes (Text t) = ap suc (length-append (be 2 (length t)) t) ∙ (let e = length-be 2 (length t) in omega arith)

pub rows-weigh : RowsWeigh
unfolding row_bytes weight_all
rows-weigh [] = refl
rows-weigh (v ∷ vs) = length-append (bytes_of v) (row_bytes vs) ∙ (let e = length-bytes v in let f = rows-weigh vs in omega arith)

pub front_read : (v : Value) (rest : List ℕ) → Storable v → weight v ≤ 65538 → front (bytes_of v ++ rest) ≡ Some (record { value = v; rest = rest })
unfolding front bytes_of weight
front_read Null rest h w = refl
front_read (Num n) rest h w =
    let bs = be 8 (lifted n) ++ rest in
    let held = held-storable n h in
    let long : 8 ≤ length bs = (let e = length-append (be 8 (lifted n)) rest in let f = length-be 8 (lifted n) in omega arith) in
    let value : lowered (number_from_digits 256 (take 8 bs)) ≡ n = ap (λ t. lowered (number_from_digits 256 t)) (take_at (be 8 (lifted n)) rest 8 (length-be 8 (lifted n))) ∙ ap lowered (number-be 8 (lifted n) (lifted-below n held)) ∙ lowered-lifted n held in
    cond-true (leb 8 (length bs)) _ _ (le-leb 8 (length bs) long)
    ∙ (λ i. Some (record { value = Num (value i); rest = drop_at (be 8 (lifted n)) rest 8 (length-be 8 (lifted n)) i }))
front_read (Text t) rest h w =
    let head = be 2 (length t) in
    let bs = (head ++ t) ++ rest in
    let same : bs ≡ head ++ (t ++ rest) = append_assoc head t rest in
    let two = length-be 2 (length t) in
    let long : 2 ≤ length bs = (let e = length-append (head ++ t) rest in let f = length-append head t in omega arith) in
    let behind : drop 2 bs ≡ t ++ rest = ap (drop 2) same ∙ drop_at head (t ++ rest) 2 two in
    let size : number_from_digits 256 (take 2 bs) ≡ length t = ap (λ l. number_from_digits 256 (take 2 l)) same ∙ ap (number_from_digits 256) (take_at head (t ++ rest) 2 two) ∙ number-be 2 (length t) (omega arith) in
    cond-true (leb 2 (length bs)) _ _ (le-leb 2 (length bs) long)
    ∙ (λ i. text_front (size i) (behind i))
    ∙ cond-true (leb (length t) (length (t ++ rest))) _ _ (le-leb (length t) (length (t ++ rest)) (let e = length-append t rest in omega arith))
    ∙ (λ i. Some (record { value = Text (take_at t rest (length t) refl i); rest = drop_at t rest (length t) refl i }))

pub rows-read : RowsRead
unfolding row_bytes weight_all
rows-read [] h w = row-nil
rows-read (v ∷ vs) h w =
    row-front (bytes_of v ++ row_bytes vs) (record { value = v; rest = row_bytes vs }) (front_read v (row_bytes vs) h.0 (omega arith))
    ∙ ap (option_map (λ (ws : List Value). v ∷ ws)) (rows-read vs h.1 (omega arith))

-- what is read was written

pub number-written : (bs : List ℕ) → Bytes bs → 8 ≤ length bs → be 8 (lifted (lowered (number_from_digits 256 (take 8 bs)))) ++ drop 8 bs ≡ bs
number-written bs b h =
    let digits = All-take (λ (x : ℕ). x < 256) 8 bs b in
    let below : number_from_digits 256 (take 8 bs) < 18446744073709551616 = (let l = number_lt 256 (take 8 bs) digits in let k = length-take-le 8 bs h in rw k at l) in
    ap (λ n. be 8 n ++ drop 8 bs) (lifted-lowered (number_from_digits 256 (take 8 bs)) below)
    ∙ ap (λ t. t ++ drop 8 bs) (be-number 8 (take 8 bs) (length-take-le 8 bs h) digits)
    ∙ take-append-drop 8 bs

front-written : (bs : List ℕ) (s : Split) → Bytes bs → front bs ≡ Some s → (bytes_of s.value ++ s.rest ≡ bs) × Bytes s.rest
unfolding front View bytes_of
front-written [] s b e = cc
front-written (kind ∷ bs) s b e = go (view kind bs s e)
  where
    go : View kind bs s → (bytes_of s.value ++ s.rest ≡ kind ∷ bs) × Bytes s.rest
    go (inl p) = (ap (λ (t : Split). bytes_of t.value ++ t.rest) p.1 ∙ ap (λ k. k ∷ bs) (sym p.0), subst (λ (t : Split). Bytes t.rest) (sym p.1) b.1)
    go (inr (inl p)) = (
      ap (λ (t : Split). bytes_of t.value ++ t.rest) p.2 ∙ ap (λ t. 1 ∷ t) (number-written bs b.1 p.1) ∙ ap (λ k. k ∷ bs) (sym p.0),
      subst (λ (t : Split). Bytes t.rest) (sym p.2) (All-drop (λ (x : ℕ). x < 256) 8 bs b.1),
    )
    go (inr (inr p)) =
        let n = number_from_digits 256 (take 2 bs) in
        let text = take n (drop 2 bs) in (
          ap (λ (t : Split). bytes_of t.value ++ t.rest) p.3
              ∙ ap (λ m. 2 ∷ (be 2 m ++ text) ++ drop n (drop 2 bs)) (length-take-le n (drop 2 bs) p.2)
              ∙ ap (λ t. 2 ∷ (t ++ text) ++ drop n (drop 2 bs)) (be-number 2 (take 2 bs) (length-take-le 2 bs p.1) (All-take (λ (x : ℕ). x < 256) 2 bs b.1))
              ∙ ap (λ t. 2 ∷ t) (append_assoc (take 2 bs) text (drop n (drop 2 bs)) ∙ ap (λ t. take 2 bs ++ t) (take-append-drop n (drop 2 bs)) ∙ take-append-drop 2 bs)
              ∙ ap (λ k. k ∷ bs) (sym p.0),
          subst (λ (t : Split). Bytes t.rest) (sym p.3) (All-drop (λ (x : ℕ). x < 256) n (drop 2 bs) (All-drop (λ (x : ℕ). x < 256) 2 bs b.1)),
        )

-- a row of one value more
mapped-some : (v : Value) (o : Option (List Value)) (vs : List Value) → option_map (λ (ws : List Value). v ∷ ws) o ≡ Some vs → (ws : List Value) × (o ≡ Some ws) × (vs ≡ v ∷ ws)
mapped-some v None vs e = cc
mapped-some v (Some ws) vs e = (ws, refl, same_some (v ∷ ws) vs e)

row_written : (f : ℕ) (bs : List ℕ) (vs : List Value) → Bytes bs → row_by f bs ≡ Some vs → row_bytes vs ≡ bs
unfolding row_by row_bytes
row_written f [] vs b e = ap row_bytes (same_some [] vs e)
row_written zero (x ∷ bs) vs b e = cc
row_written (suc f) (x ∷ bs) vs b e = go (front (x ∷ bs)) refl (row_written f)
  where
    go : (o : Option Split) → front (x ∷ bs) ≡ o → ((rest : List ℕ) (ws : List Value) → Bytes rest → row_by f rest ≡ Some ws → row_bytes ws ≡ rest) → row_bytes vs ≡ x ∷ bs
    go None e' rest = cc (sym (row-stops (suc f) (x ∷ bs) (λ z. omega arith) e') ∙ e)
    go (Some s) e' rest =
        let p = mapped-some s.value (row_by f s.rest) vs (sym (row_more f (x ∷ bs) s e') ∙ e) in
        let q = front-written (x ∷ bs) s b e' in
        ap row_bytes p.2 ∙ ap (λ t. bytes_of s.value ++ t) (rest s.rest p.0 q.1 p.1) ∙ q.0

pub rows_written : RowsWritten
rows_written bs vs b e = row_written (length bs) bs vs b e

-- for whoever writes a row value by value
pub row-push : (vs : List Value) (v : Value) → row_bytes (vs ++ (v ∷ [])) ≡ row_bytes vs ++ bytes_of v
unfolding row_bytes
row-push [] v = append-nil (bytes_of v)
row-push (w ∷ vs) v = ap (λ t. bytes_of w ++ t) (row-push vs v) ∙ sym (append_assoc (bytes_of w) (row_bytes vs) (bytes_of v))

-- columns

pub column-none : (i : ℕ) (bs : List ℕ) → front bs ≡ None → column_of i bs ≡ None
unfolding column_of
column-none zero bs e = ap (λ (o : Option Split). chained o (λ (t : Split). Some t.value)) e
column-none (suc i) bs e = ap (λ (o : Option Split). chained o (λ (t : Split). column_of i t.rest)) e

pub column-here : (i : ℕ) (bs : List ℕ) (s : Split) → i ≡ 0 → front bs ≡ Some s → column_of i bs ≡ Some s.value
unfolding column_of
column-here zero bs s z e = ap (λ (o : Option Split). chained o (λ (t : Split). Some t.value)) e
column-here (suc i) bs s z e = absurd (omega arith)

pub column-more : (i : ℕ) (bs : List ℕ) (s : Split) → 0 < i → front bs ≡ Some s → column_of i bs ≡ column_of (i - 1) s.rest
unfolding column_of
column-more zero bs s z e = absurd (omega arith)
column-more (suc i) bs s z e = ap (λ (o : Option Split). chained o (λ (t : Split). column_of i t.rest)) e ∙ ap (λ n. column_of n s.rest) (omega arith)

-- taking values off, one after the other, gives the columns
pub nth-is : (i : ℕ) (s t : Values) (vs : List V.Value) (r : Option V.Value) → YieldsThen next_gives-value.it s vs r t → MatchOption r (length vs ≤ i) (λ v. length vs ≡ i) → option_map meaning_of r ≡ column_of i s.rest.now
nth-is i s t [] None (j, e, a) m = sym (column-none i s.rest.now (ap (λ (k : Values). front k.rest.now) e ∙ a.0))
nth-is i s t [] (Some v) (j, e, a) m = sym (column-here i s.rest.now (record { value = meaning_of v; rest = t.rest.now }) (omega arith) (ap (λ (k : Values). front k.rest.now) e ∙ a))
nth-is i s t (w ∷ vs) None (j, (u, a, y), b) m = nth-is (i - 1) u t vs None (j, y, b) (omega arith) ∙ sym (column-more i s.rest.now (record { value = meaning_of w; rest = u.rest.now }) (omega arith) a)
nth-is i s t (w ∷ vs) (Some v) (j, (u, a, y), b) m = nth-is (i - 1) u t vs (Some v) (j, y, b) (omega arith) ∙ sym (column-more i s.rest.now (record { value = meaning_of w; rest = u.rest.now }) (omega arith) a)

row-columns : (f : ℕ) (bs : List ℕ) (vs : List Value) (i : ℕ) → row_by f bs ≡ Some vs → column_of i bs ≡ cond (ltb i (length vs)) (Some (nth i vs)) None
unfolding row_by nth
row-columns f [] vs i e = column-none i [] front-nil ∙ sym (cond-false (ltb i 0) (Some (nth i [])) None (le-ltb i 0 (omega arith))) ∙ ap (λ (ws : List Value). cond (ltb i (length ws)) (Some (nth i ws)) None) (sym (same_some [] vs e))
row-columns zero (x ∷ bs) vs i e = cc
row-columns (suc f) (x ∷ bs) vs i e = go (front (x ∷ bs)) refl i (row-columns f)
  where
    at_first : (s : Split) (ws : List Value) (i : ℕ) → front (x ∷ bs) ≡ Some s → ((j : ℕ) → column_of j s.rest ≡ cond (ltb j (length ws)) (Some (nth j ws)) None) → column_of i (x ∷ bs) ≡ cond (ltb i (suc (length ws))) (Some (nth i (s.value ∷ ws))) None
    at_first s ws zero e' rest = column-here 0 (x ∷ bs) s refl e' ∙ sym (cond-true (ltb 0 (suc (length ws))) (Some s.value) None (lt-ltb 0 (suc (length ws)) (omega arith)))
    at_first s ws (suc i) e' rest =
        let n : suc i - 1 ≡ i = omega arith in
        let t : ltb i (length ws) ≡ ltb (suc i) (suc (length ws)) = grind (arith, nat_tests) in
        column-more (suc i) (x ∷ bs) s (omega arith) e' ∙ ap (λ k. column_of k s.rest) n ∙ rest i ∙ ap (λ (b : Bool). cond b (Some (nth i ws)) None) t

    go : (o : Option Split) → front (x ∷ bs) ≡ o → (i : ℕ) → ((rest : List ℕ) (ws : List Value) (j : ℕ) → row_by f rest ≡ Some ws → column_of j rest ≡ cond (ltb j (length ws)) (Some (nth j ws)) None) → column_of i (x ∷ bs) ≡ cond (ltb i (length vs)) (Some (nth i vs)) None
    go None e' i rest = cc (sym (row-stops (suc f) (x ∷ bs) (λ z. omega arith) e') ∙ e)
    go (Some s) e' i rest =
        let p = mapped-some s.value (row_by f s.rest) vs (sym (row_more f (x ∷ bs) s e') ∙ e) in
        at_first s p.0 i e' (λ j. rest s.rest p.0 j p.1) ∙ ap (λ (ws : List Value). cond (ltb i (length ws)) (Some (nth i ws)) None) (sym p.2)

pub rows-columns : RowsColumns
rows-columns bs vs i e = row-columns (length bs) bs vs i e

-- the steps of reading

pub front-none : (bs : List ℕ) → length bs ≡ 0 → front bs ≡ None
front-none bs h = ap front (nil_from_length bs h) ∙ front-nil

pub front-is : (bs rest : List ℕ) (byte kind : ℕ) → bs ≡ byte ∷ rest → byte ≡ kind → front bs ≡ front_of kind rest
unfolding front
front-is bs rest byte kind e f = ap front e ∙ ap (λ k. front_of k rest) f

pub front-other : (bs rest : List ℕ) (byte : ℕ) → bs ≡ byte ∷ rest → 2 < byte → front bs ≡ None
front-other bs rest byte e h = front-is bs rest byte byte e refl ∙ rw (ne_eqb byte 0 (λ k. omega arith), ne_eqb byte 1 (λ k. omega arith), ne_eqb byte 2 (λ k. omega arith)) refl

-- a count of columns goes on and ends
pub count-more : (n : ℕ) (v : Value) (o : Option (List Value)) → option_map (λ (vs : List Value). n + 1 + length vs) o ≡ option_map (λ (vs : List Value). n + length vs) (option_map (λ (vs : List Value). v ∷ vs) o)
count-more n v None = refl
count-more n v (Some vs) = ap Some (omega arith)

pub count_none : (n : ℕ) (bs : List ℕ) → length bs ≡ 0 → Some n ≡ option_map (λ (vs : List Value). n + length vs) (row_of bs)
unfolding row_by
count_none n bs h = ap Some (omega arith) ∙ ap (λ (l : List ℕ). option_map (λ (vs : List Value). n + length vs) (row_of l)) (sym (nil_from_length bs h))

pub count-taken : (n : ℕ) (bs rest : List ℕ) (r : Option V.Value) → Takes bs r rest → true ≡ is_some r → (option_map (λ (vs : List Value). n + 1 + length vs) (row_of rest) ≡ option_map (λ (vs : List Value). n + length vs) (row_of bs)) × (length rest < length bs)
count-taken n bs rest None t e = cc
count-taken n bs rest (Some v) t e =
    let s : Split = record { value = meaning_of v; rest = rest } in
    (count-more n s.value (row_of rest) ∙ ap (option_map (λ (vs : List Value). n + length vs)) (sym (row-front bs s t)), front-shorter bs s t)

pub count-ends : (n : ℕ) (bs rest : List ℕ) (r : Option V.Value) → Takes bs r rest → false ≡ is_some r → then_some (eqb (length rest) 0) n ≡ option_map (λ (vs : List Value). n + length vs) (row_of bs)
unfolding row_by
count-ends n bs rest (Some v) t e = cc
count-ends n bs rest None t e = ap (λ (l : List ℕ). then_some (eqb (length l) 0) n) t.1 ∙ go bs t.0
  where
    go : (l : List ℕ) → front l ≡ None → then_some (eqb (length l) 0) n ≡ option_map (λ (vs : List Value). n + length vs) (row_of l)
    go [] f = ap Some (omega arith)
    go (b ∷ l) f = ap (λ t. then_some t n) (ne_eqb (suc (length l)) 0 (λ z. omega arith)) ∙ ap (option_map (λ (vs : List Value). n + length vs)) (sym (row-stops (length (b ∷ l)) (b ∷ l) (λ z. omega arith) f))
