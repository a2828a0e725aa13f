-- Where a line ends, how it is read in parts, and how lines are answered one after the other.
use Rattle.std.proofs.Common.{◌≡◌, ◌≢◌, ℕ, zero, suc, ◌+◌, ◌-◌, ◌^◌, ◌<◌, ◌≤◌, Bool, true, false, cond, eqb, ◌↔◌, List, [], ◌∷◌, ◌++◌, map, length, get_or, take, Option, None, Some, IfSome, Result, Ok, Err, IfOk, IsTrue, All, Contains, Bor, refl, sym, ap, subst, ◌∙◌, arith, append_assoc, append-nil, length-append, length-take, true≢false, eq-eqb, ne_eqb, eqb-true, ltb, ltb-false, position, min, MatchResult, IsErrAnd}
use Rattle.std.specs.Fn.{Mut, CalledAt}
use Rattle.std.specs.List.{onto_first, position_or_len}
use Rattle.std.specs.Io.{StartsWith}
use Rattle.std.specs.Io.KnownBytes.{Consumes, Keeps}
use Rattle.std.specs.Io.BufRead.{take_through, drop_through, DropsConsumable}
use Rattle.std.proofs.KnownBytes.{Consumes-nil, Consumes-trans}
use Rattle.std.proofs.BufReadLemmas.{take_through-append, drop_through-append, Consumes_shown}
use Rattle.std.proofs.lemmas.List.{take_min}
use Rattle.std.proofs.lemmas.List.Quantifiers.{position-Some}
use Rattle.std.proofs.lemmas.List.Sums.{fails_before_first}
use Rattle.std.proofs.lemmas.List.Elements.{All-nil, All-cons, All-head, All-tail, All-append, All-take, All-push}
use Rattle.std.proofs.lemmas.Fn.{FoldsTo-push}
use Rattle.std.proofs.lemmas.Result.{IfOk-at_ok}
use Rattle.std.specs.declared.io.Error.{Error}
use Rattle.console.specs.declared.drive.Stop.{Stop}
use Rattle.console.specs.declared.drive.Stop.TheVariants.{Failed}
use Rattle.console.specs.Lines.{first_line, lines, held, held_lines, IsHeld, IfKnown, IsFailed, AnswersEach, StopsByAnswer, BreaksOff}

-- ---- where a line ends

abbrev pub Lacks : List ℕ → Type 0
Lacks xs = All (λ b. b ≢ 10) xs

lacks-head : (x : ℕ) (xs : List ℕ) → Lacks (x ∷ xs) → eqb x 10 ≡ false
lacks-head x xs h = ne_eqb x 10 (All-head (λ b. b ≢ 10) x xs h)

pub first_line-append : (xs ys : List ℕ) → Lacks xs → first_line (xs ++ ys) ≡ xs ++ first_line ys
first_line-append [] ys h = refl
first_line-append (x ∷ xs) ys h =
    ap (λ t. cond t [] (x ∷ first_line (xs ++ ys))) (lacks-head x xs h)
    ∙ ap (λ l. x ∷ l) (first_line-append xs ys (All-tail (λ b. b ≢ 10) x xs h))

pub first_line_whole : (xs : List ℕ) → Lacks xs → first_line xs ≡ xs
first_line_whole xs h = ap first_line (sym (append-nil xs)) ∙ first_line-append xs [] h ∙ append-nil xs

pub take_through_whole : (xs : List ℕ) → Lacks xs → take_through 10 xs ≡ xs
take_through_whole xs h = ap (take_through 10) (sym (append-nil xs)) ∙ take_through-append 10 xs [] h ∙ append-nil xs

pub drop_through_whole : (xs : List ℕ) → Lacks xs → drop_through 10 xs ≡ []
drop_through_whole xs h = ap (drop_through 10) (sym (append-nil xs)) ∙ drop_through-append 10 xs [] h

pub first_line_lacks : (xs : List ℕ) → Lacks (first_line xs)
first_line_lacks [] = All-nil (λ b. b ≢ 10)
first_line_lacks (x ∷ xs) = at (eqb x 10) refl (first_line_lacks xs)
  where
    at : (t : Bool) → eqb x 10 ≡ t → Lacks (first_line xs) → Lacks (cond t [] (x ∷ first_line xs))
    at true e h = All-nil (λ b. b ≢ 10)
    at false e h = All-cons (λ b. b ≢ 10) x (first_line xs) (λ q. true≢false (sym (eq-eqb x 10 q) ∙ e)) h

pub Lacks-of_none : (xs : List ℕ) → ¬ Contains xs 10 → Lacks xs
Lacks-of_none xs h = λ k d l e. h (k, l, subst (λ v. v ≡ 10) (same xs k d l) e)
  where
    same : (ys : List ℕ) (k d : ℕ) → k < length ys → get_or ys k d ≡ get_or ys k 10
    same [] k d l = absurd (omega arith)
    same (y ∷ ys) zero d l = refl
    same (y ∷ ys) (suc k) d l = same ys k d (omega arith)

Contains-tail : (x : ℕ) (xs : List ℕ) → eqb x 10 ≡ false → Contains (x ∷ xs) 10 → Contains xs 10
Contains-tail x xs e (zero, l, is) = absurd (true≢false (sym (eq-eqb x 10 is) ∙ e))
Contains-tail x xs e (suc k, l, is) = (k, omega arith, is)

-- what is taken through a line feed is a front of the part, and ends the line whatever follows
pub found : (xs ys : List ℕ) → Contains xs 10 → (first_line (take_through 10 xs ++ ys) ≡ first_line xs) × (drop_through 10 (take_through 10 xs ++ ys) ≡ ys)
found [] ys h = absurd (omega (arith, h.1))
found (x ∷ xs) ys h = at (eqb x 10) refl (found xs ys)
  where
    at : (t : Bool) → eqb x 10 ≡ t
        → (Contains xs 10 → (first_line (take_through 10 xs ++ ys) ≡ first_line xs) × (drop_through 10 (take_through 10 xs ++ ys) ≡ ys))
        → (first_line (cond t (x ∷ []) (x ∷ take_through 10 xs) ++ ys) ≡ cond t [] (x ∷ first_line xs))
        × (drop_through 10 (cond t (x ∷ []) (x ∷ take_through 10 xs) ++ ys) ≡ ys)
    at true e more = (ap (λ b. cond b [] (x ∷ first_line ys)) e, ap (λ b. cond b ys (drop_through 10 ys)) e)
    at false e more =
        let rest = more (Contains-tail x xs e h) in
        let taken = take_through 10 xs ++ ys in (
          ap (λ b. cond b [] (x ∷ first_line taken)) e ∙ ap (λ l. x ∷ l) rest.0,
          ap (λ b. cond b taken (drop_through 10 taken)) e ∙ rest.1,
        )

pub take_through_front : (xs : List ℕ) → take (length (take_through 10 xs)) xs ≡ take_through 10 xs
take_through_front [] = refl
take_through_front (x ∷ xs) = at (eqb x 10) (take_through_front xs)
  where
    at : (t : Bool) → take (length (take_through 10 xs)) xs ≡ take_through 10 xs
        → take (length (cond t (x ∷ []) (x ∷ take_through 10 xs))) (x ∷ xs) ≡ cond t (x ∷ []) (x ∷ take_through 10 xs)
    at true h = refl
    at false h = ap (λ l. x ∷ l) h

pub length-take_through : (xs : List ℕ) → length (take_through 10 xs) ≤ length xs
length-take_through xs =
    let front = ap length (take_through_front xs) in
    omega (arith, length-take (length (take_through 10 xs)) xs)

take_through_some : (xs : List ℕ) → Contains xs 10 → 0 < length (take_through 10 xs)
take_through_some [] h = absurd (omega (arith, h.1))
take_through_some (x ∷ xs) h = at (eqb x 10)
  where
    at : (t : Bool) → 0 < length (cond t (x ∷ []) (x ∷ take_through 10 xs))
    at true = omega arith
    at false = omega arith

drop_through-le : (xs : List ℕ) → length (drop_through 10 xs) ≤ length xs
drop_through-le [] = omega arith
drop_through-le (x ∷ xs) = at (eqb x 10) (drop_through-le xs)
  where
    at : (t : Bool) → length (drop_through 10 xs) ≤ length xs → length (cond t xs (drop_through 10 xs)) ≤ suc (length xs)
    at true h = omega arith
    at false h = omega arith

pub drop_through-lt : (xs : List ℕ) → 0 < length xs → length (drop_through 10 xs) < length xs
drop_through-lt [] h = h
drop_through-lt (x ∷ xs) h = at (eqb x 10) (drop_through-le xs)
  where
    at : (t : Bool) → length (drop_through 10 xs) ≤ length xs → length (cond t xs (drop_through 10 xs)) < suc (length xs)
    at true h = omega arith
    at false h = omega arith

-- the first line, and those after it
pub lines_first : (xs : List ℕ) → 0 < length xs → lines xs ≡ first_line xs ∷ lines (drop_through 10 xs)
lines_first [] h = absurd (omega arith)
lines_first (x ∷ []) h = at (eqb x 10)
  where
    at : (t : Bool) → cond t ([] ∷ []) ((x ∷ []) ∷ []) ≡ cond t [] (x ∷ []) ∷ lines (cond t [] [])
    at true = refl
    at false = refl
lines_first (x ∷ y ∷ ys) h = at (eqb x 10) (lines_first (y ∷ ys) (omega arith))
  where
    at : (t : Bool) → lines (y ∷ ys) ≡ first_line (y ∷ ys) ∷ lines (drop_through 10 (y ∷ ys))
        → cond t ([] ∷ lines (y ∷ ys)) (onto_first x (lines (y ∷ ys))) ≡ cond t [] (x ∷ first_line (y ∷ ys)) ∷ lines (cond t (y ∷ ys) (drop_through 10 (y ∷ ys)))
    at true e = refl
    at false e = ap (onto_first x) e

pub held_lines_first : (xs : List ℕ) → 0 < length xs → held_lines xs ≡ held (first_line xs) ∷ held_lines (drop_through 10 xs)
held_lines_first xs h = ap (map held) (lines_first xs h)

-- the first byte that is a line feed, by its place
pub line_to : (xs : List ℕ) (i : ℕ) → i < length xs → get_or xs i 0 ≡ 10 → ((k : ℕ) → k < i → eqb (get_or xs k 0) 10 ≡ false)
    → (first_line xs ≡ take i xs) × (length (take_through 10 xs) ≡ i + 1)
line_to [] i l is before = absurd (omega arith)
line_to (x ∷ xs) zero l is before =
    let yes = eq-eqb x 10 is in
    (ap (λ t. cond t [] (x ∷ first_line xs)) yes, ap (λ t. length (cond t (x ∷ []) (x ∷ take_through 10 xs))) yes)
line_to (x ∷ xs) (suc i) l is before =
    let no : eqb x 10 ≡ false = before 0 (omega arith) in
    let rest = line_to xs i (omega arith) is (λ k h. before (suc k) (omega arith)) in (
      ap (λ t. cond t [] (x ∷ first_line xs)) no ∙ ap (λ l. x ∷ l) rest.0,
      ap (λ t. length (cond t (x ∷ []) (x ∷ take_through 10 xs))) no ∙ omega (arith, rest.1),
    )

-- what `position` gives of the line feed
pub feed_at : (xs : List ℕ) (i : ℕ) → position (λ b. eqb b 10) xs ≡ Some i → (first_line xs ≡ take i xs) × (length (take_through 10 xs) ≡ i + 1)
feed_at xs i e =
    let at = position-Some (λ b. eqb b 10) xs i 0 e in
    line_to xs i at.0 (eqb-true (get_or xs i 0) 10 at.1) at.2

pub Lacks-of_position : (xs : List ℕ) → position (λ b. eqb b 10) xs ≡ None → Lacks xs
Lacks-of_position xs e = λ k d l is.
    true≢false (sym (eq-eqb (get_or xs k d) 10 is) ∙ fails_before_first (λ b. eqb b 10) xs k d (long (ltb (position_or_len (λ b. eqb b 10) xs) (length xs)) refl e k l))
  where
    long : (t : Bool) → ltb (position_or_len (λ b. eqb b 10) xs) (length xs) ≡ t → cond t (Some (position_or_len (λ b. eqb b 10) xs)) None ≡ None
        → (k : ℕ) → k < length xs → k < position_or_len (λ b. eqb b 10) xs
    long true is none k l = absurd (cc none)
    long false is none k l = omega (arith, ltb-false (position_or_len (λ b. eqb b 10) xs) (length xs) is)

-- what is appended, with its bounds as they are computed
pub room_text : (part old next : List ℕ) (len stop n : ℕ) → next ≡ old ++ take n (take stop part) → n ≡ min (4097 - len) (length (take stop part)) → first_line part ≡ take stop part
    → next ≡ old ++ take (4097 - len) (first_line part)
room_text part old next len stop n e bound line =
    e ∙ ap (λ k. old ++ take k (take stop part)) bound ∙ ap (λ l. old ++ l) (take_min (4097 - len) (take stop part)) ∙ ap (λ l. old ++ take (4097 - len) l) (sym line)

-- a part is consumed through its line feed
pub moved_through : (a b c : Option (List ℕ)) (limit : Option ℕ) (shown : List ℕ) (n : ℕ) → n ≡ length (take_through 10 shown)
    → IfSome a (λ xs. StartsWith xs shown) → IfSome a (λ xs. length shown ≡ 0 → xs ≡ []) → Keeps a b
    → IfSome a (λ _. IfSome limit (λ k. length shown ≤ k)) → DropsConsumable b c limit n → Consumes a c (take_through 10 shown)
moved_through a b c limit shown n e front end kept fits drops =
    subst (Consumes a c) (ap (λ k. take k shown) e ∙ take_through_front shown)
    (Consumes_shown a b c limit shown n (omega (arith, e, length-take_through shown)) front end kept fits drops).0

-- ---- what is held of a line

pub held-short : (xs : List ℕ) → length (held xs) ≤ 4097
unfolding held
held-short xs = omega (arith, length-take 4097 xs)

pub held-nil : held [] ≡ []
unfolding held
held-nil = refl

pub IsHeld-held : (xs : List ℕ) → Lacks xs → IsHeld (held xs)
unfolding held
IsHeld-held xs h = (held-short xs, All-take (λ b. b ≢ 10) 4097 xs h)

take-room : (n : ℕ) (xs ys : List ℕ) → take n (xs ++ ys) ≡ take n xs ++ take (n - length (take n xs)) ys
take-room zero xs ys = refl
take-room (suc n) [] ys =
    let same : suc n ≡ suc n - 0 = omega arith in
    ap (λ k. take k ys) same
take-room (suc n) (x ∷ xs) ys =
    let same : n - length (take n xs) ≡ suc n - suc (length (take n xs)) = omega arith in
    ap (λ l. x ∷ l) (take-room n xs ys ∙ ap (λ k. take n xs ++ take k ys) same)

-- what is held of more of a line
pub held-append : (xs ys : List ℕ) → held (xs ++ ys) ≡ held xs ++ take (4097 - length (held xs)) ys
unfolding held
held-append xs ys = take-room 4097 xs ys

-- ---- known bytes

pub known_at : (left : Option (List ℕ)) (bytes : List ℕ) (P : List ℕ → Type 0) → left ≡ Some bytes → length bytes < 2 ^ 64 - 1 → IfKnown left P → P bytes
known_at left bytes P e small h = subst (λ o. IfKnown o P) e h small

pub known_by : (old new : Option (List ℕ)) (done : List ℕ) (P : List ℕ → Type 0) → Consumes old new done
    → ((bytes rest : List ℕ) → bytes ≡ done ++ rest → new ≡ Some rest → P bytes) → IfKnown old P
known_by None new done P taken f = tt
known_by (Some xs) None done P taken f = absurd taken
known_by (Some xs) (Some ys) done P taken f = λ small. f xs ys taken refl

-- so many bytes are not known
pub known_never : (old new : Option (List ℕ)) (done : List ℕ) (P : List ℕ → Type 0) → Consumes old new done → 2 ^ 64 - 1 ≤ length done → IfKnown old P
known_never None new done P taken many = tt
known_never (Some xs) None done P taken many = absurd taken
known_never (Some xs) (Some ys) done P taken many = λ small. absurd (omega (arith, ap length taken, length-append done ys))

Keeps-some : (rest : List ℕ) (new : Option (List ℕ)) → Keeps (Some rest) new → new ≡ Some rest
Keeps-some rest None kept = absurd kept
Keeps-some rest (Some ys) kept = ap Some kept

-- ---- the parts of one line

-- the bytes `done` were taken of a line that has not ended, in `turns` parts or more bytes
pub record PartsRead (old now : Option (List ℕ)) (text : List ℕ) (any : Bool) (turns : ℕ) : Type 0 where
  pub done : List ℕ
  pub taken : Consumes old now done
  pub lacks : Lacks done
  pub text_is : text ≡ held done
  pub any_is : IsTrue any ↔ (0 < length done)
  pub counted : turns ≤ length done

-- a line was read
pub record LineRead (old new : Option (List ℕ)) (text : List ℕ) (any : Bool) : Type 0 where
  pub short : IsHeld text
  pub none : ¬ IsTrue any → text ≡ []
  pub any_is : IfKnown old (λ bytes. IsTrue any ↔ (0 < length bytes))
  pub text_is : IfKnown old (λ bytes. text ≡ held (first_line bytes))
  pub rest : IfKnown old (λ bytes. new ≡ Some (drop_through 10 bytes))

-- the error of `read_line`, as it is handed on
pub IsFailed-of_map_err : {T : Type 0} (r : Result T Error) (stop : Stop) → MatchResult r (λ x. ◌≡◌ {A = Result T Stop} (Err stop) (Ok x)) (λ e. IsErrAnd {T = T} {E = Stop} (Err stop) (λ s. s ≡ Failed e)) → IsFailed stop
IsFailed-of_map_err (Ok x) stop h = absurd (cc h)
IsFailed-of_map_err (Err e) stop h = subst IsFailed (sym h) tt

-- from what `read_line` says of its result
pub line_read : {E : Type 0} (old new : Option (List ℕ)) (text : List ℕ) (r : Result Bool E) (any : Bool) → r ≡ Ok any → IsHeld text
    → IfOk r (λ b. ¬ IsTrue b → text ≡ []) → IfOk r (λ b. IfKnown old (λ bytes. IsTrue b ↔ (0 < length bytes)))
    → IfOk r (λ _. IfKnown old (λ bytes. text ≡ held (first_line bytes))) → IfOk r (λ _. IfKnown old (λ bytes. new ≡ Some (drop_through 10 bytes))) → LineRead old new text any
line_read old new text r any is short none any_is text_is rest = record {
  short = short;
  none = IfOk-at_ok (λ b. ¬ IsTrue b → text ≡ []) is none;
  any_is = IfOk-at_ok (λ b. IfKnown old (λ bytes. IsTrue b ↔ (0 < length bytes))) is any_is;
  text_is = IfOk-at_ok (λ _. IfKnown old (λ bytes. text ≡ held (first_line bytes))) is text_is;
  rest = IfOk-at_ok (λ _. IfKnown old (λ bytes. new ≡ Some (drop_through 10 bytes))) is rest;
}

pub parts_none : (old : Option (List ℕ)) (text : List ℕ) → text ≡ [] → PartsRead old old text false 0
parts_none old text e = record {
  done = [];
  taken = Consumes-nil old;
  lacks = All-nil (λ b. b ≢ 10);
  text_is = e ∙ sym held-nil;
  any_is = (λ q. absurd (true≢false (sym q)), λ l. absurd (omega arith));
  counted = omega arith;
}

module _ (old now : Option (List ℕ)) (text : List ℕ) (any : Bool) (turns : ℕ) (parts : PartsRead old now text any turns) where
  pub parts-short : IsHeld text
  parts-short = subst IsHeld (sym parts.text_is) (IsHeld-held parts.done parts.lacks)

  parts-none : ¬ IsTrue any → text ≡ []
  parts-none unread = parts.text_is ∙ ap held (nil parts.done (λ l. unread (parts.any_is.1 l))) ∙ held-nil
    where
      nil : (xs : List ℕ) → ¬ (0 < length xs) → xs ≡ []
      nil [] h = refl
      nil (x ∷ xs) h = absurd (h (omega arith))

  held_more : (len : ℕ) (part next : List ℕ) → len ≡ length text → next ≡ text ++ take (4097 - len) part → next ≡ held (parts.done ++ part)
  held_more len part next long e =
      e ∙ ap (λ n. text ++ take (4097 - n) part) long ∙ ap (λ t. t ++ take (4097 - length t) part) parts.text_is ∙ sym (held-append parts.done part)

  -- a part with no line feed in it
  pub parts-more : (new : Option (List ℕ)) (part next : List ℕ) (len : ℕ) → Consumes now new (take_through 10 part) → ¬ Contains part 10 → 0 < length part
      → len ≡ length text → next ≡ text ++ take (4097 - len) (first_line part) → PartsRead old new next true (turns + 1)
  parts-more new part next len moved no_feed some long e = let lacks = Lacks-of_none part no_feed in record {
    done = parts.done ++ part;
    taken = Consumes-trans old now new parts.done part parts.taken (subst (Consumes now new) (take_through_whole part lacks) moved);
    lacks = All-append (λ b. b ≢ 10) parts.done part parts.lacks lacks;
    text_is = held_more len part next long (e ∙ ap (λ l. text ++ take (4097 - len) l) (first_line_whole part lacks));
    any_is = (λ _. omega (arith, length-append parts.done part), λ _. refl);
    counted = omega (arith, length-append parts.done part, parts.counted);
  }

  -- the part with the line feed
  pub parts-ended : (new : Option (List ℕ)) (part next : List ℕ) (len : ℕ) → Consumes now new (take_through 10 part) → Contains part 10
      → len ≡ length text → next ≡ text ++ take (4097 - len) (first_line part) → LineRead old new next true
  parts-ended new part next len moved feed long e =
      let whole = parts.done ++ first_line part in
      let text_is = held_more len (first_line part) next long e in
      let taken = Consumes-trans old now new parts.done (take_through 10 part) parts.taken moved in
      let split : (bytes rest : List ℕ) → bytes ≡ (parts.done ++ take_through 10 part) ++ rest → bytes ≡ parts.done ++ (take_through 10 part ++ rest) =
      λ bytes rest is. is ∙ append_assoc parts.done (take_through 10 part) rest in
      record {
        short = subst IsHeld (sym text_is) (IsHeld-held whole (All-append (λ b. b ≢ 10) parts.done (first_line part) parts.lacks (first_line_lacks part)));
        none = λ unread. absurd (unread refl);
        any_is = known_by old new _ (λ bytes. IsTrue true ↔ (0 < length bytes)) taken (λ bytes rest is left. (λ _. omega (arith, ap length (split bytes rest is), length-append parts.done (take_through 10 part ++ rest), length-append (take_through 10 part) rest, take_through_some part feed), λ _. refl));
        text_is = known_by old new _ (λ bytes. next ≡ held (first_line bytes)) taken (λ bytes rest is left.
            text_is ∙ ap held (sym (ap first_line (split bytes rest is) ∙ first_line-append parts.done (take_through 10 part ++ rest) parts.lacks ∙ ap (λ l. parts.done ++ l) (found part rest feed).0)));
        rest = known_by old new _ (λ bytes. new ≡ Some (drop_through 10 bytes)) taken (λ bytes rest is left.
            left ∙ ap Some (sym (ap (drop_through 10) (split bytes rest is) ∙ drop_through-append 10 parts.done (take_through 10 part ++ rest) parts.lacks ∙ (found part rest feed).1)));
      }

  -- the input's end
  pub parts-end : (new : Option (List ℕ)) (shown : List ℕ) → length shown ≡ 0 → IfSome now (λ xs. length shown ≡ 0 → xs ≡ []) → Keeps now new → LineRead old new text any
  parts-end new shown empty end kept =
      let ended : (rest : List ℕ) → now ≡ Some rest → rest ≡ [] = λ rest is. subst (λ o. IfSome o (λ xs. length shown ≡ 0 → xs ≡ [])) is end empty in
      let whole : (bytes rest : List ℕ) → bytes ≡ parts.done ++ rest → now ≡ Some rest → bytes ≡ parts.done =
      λ bytes rest is left. is ∙ ap (λ l. parts.done ++ l) (ended rest left) ∙ append-nil parts.done in
      record {
        short = parts-short;
        none = parts-none;
        any_is = known_by old now _ (λ bytes. IsTrue any ↔ (0 < length bytes)) parts.taken (λ bytes rest is left. subst (λ l. IsTrue any ↔ (0 < length l)) (sym (whole bytes rest is left)) parts.any_is);
        text_is = known_by old now _ (λ bytes. text ≡ held (first_line bytes)) parts.taken (λ bytes rest is left.
            parts.text_is ∙ ap held (sym (ap first_line (whole bytes rest is left) ∙ first_line_whole parts.done parts.lacks)));
        rest = known_by old now _ (λ bytes. new ≡ Some (drop_through 10 bytes)) parts.taken (λ bytes rest is left.
            Keeps-some rest new (subst (λ o. Keeps o new) left kept)
            ∙ ap Some (ended rest left ∙ sym (ap (drop_through 10) (whole bytes rest is left) ∙ drop_through_whole parts.done parts.lacks)));
      }

  -- more parts than a loop counts
  pub parts-never : 2 ^ 64 - 1 ≤ turns → (new : Option (List ℕ)) → LineRead old new text any
  parts-never many new =
      let long : 2 ^ 64 - 1 ≤ length parts.done = omega (arith, parts.counted) in
      record {
        short = parts-short;
        none = parts-none;
        any_is = known_never old now parts.done (λ bytes. IsTrue any ↔ (0 < length bytes)) parts.taken long;
        text_is = known_never old now parts.done (λ bytes. text ≡ held (first_line bytes)) parts.taken long;
        rest = known_never old now parts.done (λ bytes. new ≡ Some (drop_through 10 bytes)) parts.taken long;
      }

-- ---- lines answered one after the other

-- of `bytes`, the lines `texts` were read and `now` is left
pub record Left (now : Option (List ℕ)) (texts : List (List ℕ)) (turns : ℕ) (bytes : List ℕ) : Type 0 where
  pub rest : List ℕ
  pub now_is : now ≡ Some rest
  pub split : held_lines bytes ≡ texts ++ held_lines rest
  pub counted : turns + length rest ≤ length bytes

known_weaker : (old : Option (List ℕ)) (P Q : List ℕ → Type 0) → ((bytes : List ℕ) → P bytes → Q bytes) → IfKnown old P → IfKnown old Q
known_weaker None P Q f h = tt
known_weaker (Some bytes) P Q f h = λ small. f bytes (h small)

left_start : (old : Option (List ℕ)) → IfKnown old (Left old [] 0)
left_start None = tt
left_start (Some bytes) = λ small. record { rest = bytes; now_is = refl; split = refl; counted = omega arith }

module _ (old now new : Option (List ℕ)) (texts : List (List ℕ)) (turns : ℕ) where
  -- what holds of the bytes that are left, given that they are known
  left_by : (Q : List ℕ → Type 0) → ((bytes : List ℕ) (l : Left now texts turns bytes) → length l.rest < 2 ^ 64 - 1 → Q bytes) → IfKnown old (Left now texts turns) → IfKnown old Q
  left_by Q f h = by old h
    where
      by : (o : Option (List ℕ)) → IfKnown o (Left now texts turns) → IfKnown o Q
      by None k = tt
      by (Some bytes) k = λ small. let l = k small in f bytes l (omega (arith, l.counted, small))

  -- one line more
  left_next : (text : List ℕ) → LineRead now new text true → IfKnown old (Left now texts turns) → IfKnown old (Left new (texts ++ text ∷ []) (turns + 1))
  left_next text read = left_by (Left new (texts ++ text ∷ []) (turns + 1)) (λ bytes l small.
      let some = (known_at now l.rest (λ bs. IsTrue true ↔ (0 < length bs)) l.now_is small read.any_is).0 refl in
      let text_is = known_at now l.rest (λ bs. text ≡ held (first_line bs)) l.now_is small read.text_is in
      let after = drop_through 10 l.rest in
      record {
        rest = after;
        now_is = known_at now l.rest (λ bs. new ≡ Some (drop_through 10 bs)) l.now_is small read.rest;
        split = l.split ∙ ap (λ ls. texts ++ ls) (held_lines_first l.rest some ∙ ap (λ t. t ∷ held_lines after) (sym text_is)) ∙ sym (append_assoc texts (text ∷ []) (held_lines after));
        counted = omega (arith, drop_through-lt l.rest some, l.counted);
      })

  left_none : (text : List ℕ) → LineRead now new text false → IfKnown old (Left now texts turns) → IfKnown old (λ bytes. (held_lines bytes ≡ texts) × (new ≡ Some []))
  left_none text read = left_by (λ bytes. (held_lines bytes ≡ texts) × (new ≡ Some [])) (λ bytes l small.
      let none = nil l.rest (λ h. true≢false (sym ((known_at now l.rest (λ bs. IsTrue false ↔ (0 < length bs)) l.now_is small read.any_is).1 h))) in (
        l.split ∙ ap (λ bs. texts ++ held_lines bs) none ∙ append-nil texts,
        known_at now l.rest (λ bs. new ≡ Some (drop_through 10 bs)) l.now_is small read.rest ∙ ap (λ bs. Some (drop_through 10 bs)) none,
      ))
    where
      nil : (xs : List ℕ) → ¬ (0 < length xs) → xs ≡ []
      nil [] h = refl
      nil (x ∷ xs) h = absurd (h (omega arith))

left_never : (old now : Option (List ℕ)) (texts : List (List ℕ)) (turns : ℕ) (Q : List ℕ → Type 0) → 2 ^ 64 - 1 ≤ turns → IfKnown old (Left now texts turns) → IfKnown old Q
left_never None now texts turns Q many h = tt
left_never (Some bytes) now texts turns Q many h = λ small. let l = h small in absurd (omega (arith, l.counted, many, small))

module _ {F : Type 0} (g : Mut F (Bor (List ℕ) × Unit {0}) (Result (Unit {0}) Stop)) where
  -- so many lines were answered with Ok
  pub record SoFar (answer last : F) (old now : Option (List ℕ)) (turns : ℕ) : Type 0 where
    pub texts : List (List ℕ)
    pub answered : AnswersEach g answer texts last
    pub short : All IsHeld texts
    pub left : IfKnown old (Left now texts turns)

  pub so_far_none : (answer : F) (old : Option (List ℕ)) → SoFar answer answer old old 0
  so_far_none answer old = record { texts = []; answered = refl; short = All-nil IsHeld; left = left_start old }

  module _ (answer last : F) (old now : Option (List ℕ)) (turns : ℕ) (so_far : SoFar answer last old now turns) where
    pub so_far_more : (new : Option (List ℕ)) (text : List ℕ) (next : F) → LineRead now new text true → CalledAt g last text (Ok tt) next → SoFar answer next old new (turns + 1)
    so_far_more new text next read called = record {
      texts = so_far.texts ++ text ∷ [];
      answered = FoldsTo-push (λ p t q. CalledAt g p t (Ok tt) q) answer so_far.texts last text next so_far.answered called;
      short = All-push IsHeld so_far.texts text so_far.short read.short;
      left = left_next old now new so_far.texts turns text read so_far.left;
    }

    pub so_far_stops : (new : Option (List ℕ)) (text : List ℕ) (stop : Stop) (next : F) → LineRead now new text true → CalledAt g last text (Err stop) next → StopsByAnswer g answer old new stop
    so_far_stops new text stop next read called = record {
      texts = so_far.texts;
      text = text;
      before = last;
      after = next;
      answered = so_far.answered;
      stopped = called;
      short = All-push IsHeld so_far.texts text so_far.short read.short;
      unread = known_weaker old (Left new (so_far.texts ++ text ∷ []) (turns + 1)) (λ bytes. (rest : List ℕ) × (new ≡ Some rest) × (held_lines bytes ≡ so_far.texts ++ text ∷ held_lines rest))
          (λ bytes l. (l.rest, l.now_is, l.split ∙ append_assoc so_far.texts (text ∷ []) (held_lines l.rest)))
          (left_next old now new so_far.texts turns text read so_far.left);
    }

    pub so_far_breaks : (stop : Stop) → IsFailed stop → BreaksOff g answer old stop
    so_far_breaks stop failed = record {
      texts = so_far.texts;
      last = last;
      answered = so_far.answered;
      short = so_far.short;
      first = known_weaker old (Left now so_far.texts turns) (λ bytes. (more : List (List ℕ)) × (held_lines bytes ≡ so_far.texts ++ more)) (λ bytes l. (held_lines l.rest, l.split)) so_far.left;
      failed = failed;
    }

    pub so_far_lines : (new : Option (List ℕ)) (text : List ℕ) → LineRead now new text false → IfKnown old (λ bytes. (end : F) × AnswersEach g answer (held_lines bytes) end)
    so_far_lines new text read = known_weaker old (λ bytes. (held_lines bytes ≡ so_far.texts) × (new ≡ Some [])) (λ bytes. (end : F) × AnswersEach g answer (held_lines bytes) end)
        (λ bytes all. (last, subst (λ ls. AnswersEach g answer ls last) (sym all.0) so_far.answered))
        (left_none old now new so_far.texts turns text read so_far.left)

    pub so_far_end : (new : Option (List ℕ)) (text : List ℕ) → LineRead now new text false → IfKnown old (λ _. new ≡ Some [])
    so_far_end new text read = known_weaker old (λ bytes. (held_lines bytes ≡ so_far.texts) × (new ≡ Some [])) (λ _. new ≡ Some []) (λ bytes all. all.1)
        (left_none old now new so_far.texts turns text read so_far.left)

    pub so_far_never : 2 ^ 64 - 1 ≤ turns → (Q : List ℕ → Type 0) → IfKnown old Q
    so_far_never many Q = left_never old now so_far.texts turns Q many so_far.left
