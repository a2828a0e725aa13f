-- What the automaton gives over a run of bytes. Assumes nothing.
use Rattle.std.proofs.Common.{◌≡◌, ℕ, zero, suc, ◌+◌, ◌*◌, ◌<◌, ◌≤◌, Bool, true, false, cond, ◌||◌, eqb, ltb, List, [], ◌∷◌, ◌++◌, map, length, get_or, take, drop, sym, refl, ap, subst, ◌∙◌, append_assoc, append-nil, add-zero, add_assoc, zero-add, arith, length-drop, get_or-drop, drop-drop}
use Rattle.std.proofs.lemmas.List.{get_or_past, take_more, drop_more, drop_all}
use Rattle.std.proofs.lemmas.Bool.Decides.{nat_tests}
use Rattle.std.proofs.lemmas.Bool.{or_left, or_from, lt-ltb, ne_eqb, ltb-true, ltb-false}
use Rattle.meaning.specs.Text.{Token, Word, Number, Quoted, Sign, Wrong, Mode, Between, InWord, InNumber, InQuotes, AfterQuote, AfterLess, AfterMore, AfterBar, tokens, emits, after, ends, enters, gives, small, less_by, letter, digit, is_in, signs, spaces, at_most_sign, differs_sign, joined_sign, at_least_sign}
use Rattle.grammar.proofs.Tools.{clash}
use Rattle.text.specs.declared.tokens.Tok.{Tok}
use Rattle.text.specs.declared.tokens.Place.{Place}
use Rattle.text.specs.Cut.{Run, RunBy, tokens_of, tokens_at, decimal, undoubled, in_word, space}

pub run_more : (p : ℕ → Bool) (b : ℕ) (bs : List ℕ) (n : ℕ) → Run p (b ∷ bs) (suc n) → Run p bs n
run_more p b bs n r = record { within = omega (arith, r.within); all = λ k l. r.all (suc k) (omega arith); stops = λ l. r.stops (omega arith) }

pub word-ends : (w : List ℕ) (bs : List ℕ) → (0 < length bs → in_word (get_or bs 0 0) ≡ false) → tokens (InWord w) bs ≡ Word w ∷ tokens Between bs
unfolding tokens emits after ends
word-ends w [] h = refl
word-ends w (b ∷ bs) h = ap (λ t. cond t [] (Word w ∷ gives b) ++ tokens (cond t (InWord (w ++ (small b ∷ []))) (enters b)) bs) (h (omega arith))

pub word-run : (w : List ℕ) (bs : List ℕ) (n : ℕ) → Run in_word bs n → tokens (InWord w) bs ≡ Word (w ++ map small (take n bs)) ∷ tokens Between (drop n bs)
unfolding tokens emits after ends
word-run w bs zero r = word-ends w bs (λ l. r.stops l) ∙ ap (λ v. Word v ∷ tokens Between bs) (sym (append-nil w))
word-run w [] (suc n) r = absurd (omega (arith, r.within))
word-run w (b ∷ bs) (suc n) r =
    ap (λ t. cond t [] (Word w ∷ gives b) ++ tokens (cond t (InWord (w ++ (small b ∷ []))) (enters b)) bs) (r.all 0 (omega arith))
    ∙ word-run (w ++ (small b ∷ [])) bs n (run_more in_word b bs n r)
    ∙ ap (λ v. Word v ∷ tokens Between (drop n bs)) (append_assoc w (small b ∷ []) (map small (take n bs)))

space-plain : (b : ℕ) → space b ≡ true → (gives b ≡ []) × (enters b ≡ Between)
unfolding gives enters is_in
space-plain b h = (grind (arith, nat_tests), grind (arith, nat_tests))

space-skips : (b : ℕ) (bs : List ℕ) → space b ≡ true → tokens Between (b ∷ bs) ≡ tokens Between bs
unfolding tokens emits after
space-skips b bs h = let p = space-plain b h in λ i. p.0 i ++ tokens (p.1 i) bs

pub space-run : (bs : List ℕ) (n : ℕ) → Run space bs n → tokens Between bs ≡ tokens Between (drop n bs)
unfolding tokens emits after
space-run bs zero r = refl
space-run [] (suc n) r = absurd (omega (arith, r.within))
space-run (b ∷ bs) (suc n) r = space-skips b bs (r.all 0 (omega arith)) ∙ space-run bs n (run_more space b bs n r)

pub gives-letter : (b : ℕ) → letter b ≡ true → gives b ≡ []
unfolding gives is_in
gives-letter b h = grind (arith, nat_tests)

pub gives-digit : (b : ℕ) → digit b ≡ true → gives b ≡ []
unfolding gives is_in
gives-digit b h = grind (arith, nat_tests)

pub number-ends : (a : ℕ) (bs : List ℕ) → (0 < length bs → digit (get_or bs 0 0) ≡ false) → (0 < length bs → letter (get_or bs 0 0) ≡ false) → tokens (InNumber a) bs ≡ Number a ∷ tokens Between bs
unfolding tokens emits after ends
number-ends a [] h k = refl
number-ends a (b ∷ bs) h k =
    ap (λ t. cond t [] (cond (letter b) (Wrong ∷ []) (Number a ∷ gives b)) ++ tokens (cond t (InNumber (10 * a + less_by 48 b)) (enters b)) bs) (h (omega arith))
    ∙ ap (λ t. cond t (Wrong ∷ []) (Number a ∷ gives b) ++ tokens (enters b) bs) (k (omega arith))

pub number-faulty : (a : ℕ) (bs : List ℕ) → 0 < length bs → digit (get_or bs 0 0) ≡ false → letter (get_or bs 0 0) ≡ true → tokens (InNumber a) bs ≡ Wrong ∷ tokens Between bs
unfolding tokens emits after ends
number-faulty a [] l h k = absurd (omega arith)
number-faulty a (b ∷ bs) l h k =
    ap (λ t. cond t [] (cond (letter b) (Wrong ∷ []) (Number a ∷ gives b)) ++ tokens (cond t (InNumber (10 * a + less_by 48 b)) (enters b)) bs) h
    ∙ ap (λ t. cond t (Wrong ∷ []) (Number a ∷ gives b) ++ tokens (enters b) bs) k
    ∙ ap (λ v. Wrong ∷ (v ++ tokens (enters b) bs)) (sym (gives-letter b k))

pub number-run : (a : ℕ) (bs : List ℕ) (n : ℕ) → Run digit bs n → tokens (InNumber a) bs ≡ tokens (InNumber (decimal a (take n bs))) (drop n bs)
unfolding tokens emits after ends decimal
number-run a bs zero r = refl
number-run a [] (suc n) r = absurd (omega (arith, r.within))
number-run a (b ∷ bs) (suc n) r =
    ap (λ t. cond t [] (cond (letter b) (Wrong ∷ []) (Number a ∷ gives b)) ++ tokens (cond t (InNumber (10 * a + less_by 48 b)) (enters b)) bs) (r.all 0 (omega arith))
    ∙ number-run (10 * a + less_by 48 b) bs n (run_more digit b bs n r)

-- how a token begins
pub word-begins : (b : ℕ) (bs : List ℕ) → letter b ≡ true → tokens Between (b ∷ bs) ≡ tokens (InWord []) (b ∷ bs)
unfolding tokens emits after enters
word-begins b bs h =
    ap (λ v. v ++ tokens (enters b) bs) (gives-letter b h) ∙ ap (λ t. tokens (cond t (InWord (small b ∷ [])) (cond (digit b) (InNumber (less_by 48 b)) (cond (eqb b 39) (InQuotes []) (cond (eqb b 60) AfterLess (cond (eqb b 62) AfterMore (cond (eqb b 124) AfterBar Between)))))) bs) h
    ∙ sym (ap (λ t. cond t [] (Word [] ∷ gives b) ++ tokens (cond t (InWord (small b ∷ [])) (enters b)) bs) (or_left (letter b) (digit b) h))

digit-no-letter : (b : ℕ) → digit b ≡ true → letter b ≡ false
digit-no-letter b h = grind (arith, nat_tests)

pub number-begins : (b : ℕ) (bs : List ℕ) → digit b ≡ true → tokens Between (b ∷ bs) ≡ tokens (InNumber 0) (b ∷ bs)
unfolding tokens emits after enters
number-begins b bs h =
    ap (λ v. v ++ tokens (enters b) bs) (gives-digit b h)
    ∙ ap (λ t. tokens (cond t (InWord (small b ∷ [])) (cond (digit b) (InNumber (less_by 48 b)) (cond (eqb b 39) (InQuotes []) (cond (eqb b 60) AfterLess (cond (eqb b 62) AfterMore (cond (eqb b 124) AfterBar Between)))))) bs) (digit-no-letter b h)
    ∙ ap (λ t. tokens (cond t (InNumber (less_by 48 b)) (cond (eqb b 39) (InQuotes []) (cond (eqb b 60) AfterLess (cond (eqb b 62) AfterMore (cond (eqb b 124) AfterBar Between))))) bs) h
    ∙ ap (λ n. tokens (InNumber n) bs) (sym (zero-add (less_by 48 b)))
    ∙ sym (ap (λ t. cond t [] (cond (letter b) (Wrong ∷ []) (Number 0 ∷ gives b)) ++ tokens (cond t (InNumber (10 * 0 + less_by 48 b)) (enters b)) bs) h)

-- the bytes with which no word, number, text or pair of signs begins
abbrev Lone : ℕ → Type 0
Lone b = (letter b ≡ false) × (digit b ≡ false) × (b ≡ 39 → ⊥) × (b ≡ 60 → ⊥) × (b ≡ 62 → ⊥) × (b ≡ 124 → ⊥)

between-enters : (b : ℕ) → Lone b → enters b ≡ Between
unfolding enters
between-enters b h =
    let k = h.0 in let l = h.1 in let m = h.2 in let n = h.3 in let o = h.4 in let p = h.5 in
    grind (arith, nat_tests)

sign-plain : (b : ℕ) → is_in b signs ≡ true → Lone b
unfolding is_in
sign-plain b h = (grind (arith, nat_tests), grind (arith, nat_tests), grind (arith, nat_tests), grind (arith, nat_tests), grind (arith, nat_tests), grind (arith, nat_tests))

sign-gives : (b : ℕ) → is_in b signs ≡ true → gives b ≡ Sign b ∷ []
unfolding gives
sign-gives b h = ap (λ t. cond t (Sign b ∷ []) (cond (letter b || digit b || is_in b spaces || eqb b 39 || eqb b 60 || eqb b 62 || eqb b 124) [] (Wrong ∷ []))) h

pub sign-begins : (b : ℕ) (bs : List ℕ) → is_in b signs ≡ true → tokens Between (b ∷ bs) ≡ Sign b ∷ tokens Between bs
unfolding tokens emits after
sign-begins b bs h = ap (λ v. v ++ tokens (enters b) bs) (sign-gives b h) ∙ ap (λ m. Sign b ∷ tokens m bs) (between-enters b (sign-plain b h))

wrong-gives : (b : ℕ) → Lone b → is_in b signs ≡ false → space b ≡ false → gives b ≡ Wrong ∷ []
unfolding gives
wrong-gives b h l m =
    ap (λ t. cond t (Sign b ∷ []) (cond (letter b || digit b || is_in b spaces || eqb b 39 || eqb b 60 || eqb b 62 || eqb b 124) [] (Wrong ∷ []))) l
    ∙ ap (λ t. cond t [] (Wrong ∷ [])) (or_from _ (eqb b 124) (or_from _ (eqb b 62) (or_from _ (eqb b 60) (or_from _ (eqb b 39) (or_from _ (is_in b spaces) (or_from (letter b) (digit b) h.0 h.1) m) (ne_eqb b 39 h.2)) (ne_eqb b 60 h.3)) (ne_eqb b 62 h.4)) (ne_eqb b 124 h.5))

pub wrong-begins : (b : ℕ) (bs : List ℕ) → Lone b → is_in b signs ≡ false → space b ≡ false → tokens Between (b ∷ bs) ≡ Wrong ∷ tokens Between bs
unfolding tokens emits after
wrong-begins b bs h l m = ap (λ v. v ++ tokens (enters b) bs) (wrong-gives b h l m) ∙ ap (λ m. Wrong ∷ tokens m bs) (between-enters b h)

-- signs of one byte or two
less-begins : (bs : List ℕ) → tokens Between (60 ∷ bs) ≡ tokens AfterLess bs
unfolding tokens emits after enters gives is_in
less-begins bs = refl

more-begins : (bs : List ℕ) → tokens Between (62 ∷ bs) ≡ tokens AfterMore bs
unfolding tokens emits after enters gives is_in
more-begins bs = refl

bar-begins : (bs : List ℕ) → tokens Between (124 ∷ bs) ≡ tokens AfterBar bs
unfolding tokens emits after enters gives is_in
bar-begins bs = refl

less-alone : (bs : List ℕ) → (get_or bs 0 0 ≡ 61 → ⊥) → (get_or bs 0 0 ≡ 62 → ⊥) → tokens AfterLess bs ≡ Sign 60 ∷ tokens Between bs
unfolding tokens emits after ends
less-alone [] h k = refl
less-alone (b ∷ bs) h k = (λ i. cond (ne_eqb b 61 h i) (Sign at_most_sign ∷ []) (cond (ne_eqb b 62 k i) (Sign differs_sign ∷ []) (Sign 60 ∷ gives b)) ++ tokens (cond (ne_eqb b 61 h i || ne_eqb b 62 k i) Between (enters b)) bs)

at-two : (m : Mode) (c : ℕ) (bs : List ℕ) → 0 < c → get_or bs 0 0 ≡ c → tokens m (c ∷ drop 1 bs) ≡ tokens m bs
at-two m c [] l h = absurd (omega arith)
at-two m c (b ∷ bs) l h = ap (λ c. tokens m (c ∷ bs)) (sym h)

less_equal : (bs : List ℕ) → tokens AfterLess (61 ∷ bs) ≡ Sign 256 ∷ tokens Between bs
unfolding tokens emits after
less_equal bs = refl

less-more : (bs : List ℕ) → tokens AfterLess (62 ∷ bs) ≡ Sign 257 ∷ tokens Between bs
unfolding tokens emits after
less-more bs = refl

more-alone : (bs : List ℕ) → (get_or bs 0 0 ≡ 61 → ⊥) → tokens AfterMore bs ≡ Sign 62 ∷ tokens Between bs
unfolding tokens emits after ends
more-alone [] h = refl
more-alone (b ∷ bs) h = (λ i. cond (ne_eqb b 61 h i) (Sign at_least_sign ∷ []) (Sign 62 ∷ gives b) ++ tokens (cond (ne_eqb b 61 h i) Between (enters b)) bs)

more-equal : (bs : List ℕ) → tokens AfterMore (61 ∷ bs) ≡ Sign 259 ∷ tokens Between bs
unfolding tokens emits after
more-equal bs = refl

bar-alone : (bs : List ℕ) → (get_or bs 0 0 ≡ 124 → ⊥) → tokens AfterBar bs ≡ Wrong ∷ tokens Between bs
unfolding tokens emits after ends
bar-alone [] h = refl
bar-alone (b ∷ bs) h = (λ i. cond (ne_eqb b 124 h i) (Sign joined_sign ∷ []) (Wrong ∷ gives b) ++ tokens (cond (ne_eqb b 124 h i) Between (enters b)) bs)

bar-bar : (bs : List ℕ) → tokens AfterBar (124 ∷ bs) ≡ Sign 258 ∷ tokens Between bs
unfolding tokens emits after
bar-bar bs = refl

pub quote-begins : (bs : List ℕ) → tokens Between (39 ∷ bs) ≡ tokens (InQuotes []) bs
unfolding tokens emits after enters gives is_in
quote-begins bs = refl

-- the first n bytes of a quoted text are read
pub record Quoting (s : List ℕ) (n : ℕ) : Type 0 where
  pub within : n ≤ length s
  pub same : tokens (InQuotes []) s ≡ tokens (InQuotes (undoubled false (take n s))) (drop n s)
  pub even : (x : List ℕ) → undoubled false (take n s ++ x) ≡ undoubled false (take n s) ++ undoubled false x

pub quoting-none : (s : List ℕ) → Quoting s 0
unfolding undoubled
quoting-none s = record { within = omega arith; same = refl; even = λ x. refl }

pub quoting-all : (s : List ℕ) (n : ℕ) → Quoting s n → length s ≤ n → tokens (InQuotes []) s ≡ Wrong ∷ []
unfolding tokens ends
quoting-all s n q l = q.same ∙ ap (tokens (InQuotes (undoubled false (take n s)))) (drop_all n s l)

in-quotes : (t : List ℕ) (b : ℕ) (bs : List ℕ) → b < 256 → (b ≡ 39 → ⊥) → tokens (InQuotes t) (b ∷ bs) ≡ tokens (InQuotes (t ++ (b ∷ []))) bs
unfolding tokens emits after
in-quotes t b bs l h = ap (λ v. cond v [] (Wrong ∷ []) ++ tokens (cond (eqb b 39) (AfterQuote t) (InQuotes (t ++ (b ∷ [])))) bs) (lt-ltb b 256 l) ∙ ap (λ v. tokens (cond v (AfterQuote t) (InQuotes (t ++ (b ∷ [])))) bs) (ne_eqb b 39 h)

two-quotes : (t : List ℕ) (bs : List ℕ) → tokens (InQuotes t) (39 ∷ 39 ∷ bs) ≡ tokens (InQuotes (t ++ (39 ∷ []))) bs
unfolding tokens emits after
two-quotes t bs = refl

end-quote : (t : List ℕ) (bs : List ℕ) → (0 < length bs → get_or bs 0 0 ≡ 39 → ⊥) → tokens (InQuotes t) (39 ∷ bs) ≡ Quoted t ∷ tokens Between bs
unfolding tokens emits after ends
end-quote t [] h = refl
end-quote t (b ∷ bs) h = ap (λ v. cond v [] (Quoted t ∷ gives b) ++ tokens (cond v (InQuotes (t ++ (39 ∷ []))) (enters b)) bs) (ne_eqb b 39 (h (omega arith)))

undoubled-one : (b : ℕ) (x : List ℕ) → (b ≡ 39 → ⊥) → undoubled false (b ∷ x) ≡ b ∷ undoubled false x
unfolding undoubled
undoubled-one b x h = ap (λ v. b ∷ undoubled v x) (ne_eqb b 39 h)

undoubled-two : (x : List ℕ) → undoubled false (39 ∷ 39 ∷ x) ≡ 39 ∷ undoubled false x
unfolding undoubled
undoubled-two x = refl

undoubled-none : undoubled false [] ≡ []
unfolding undoubled
undoubled-none = refl

-- one step: the next bytes stand for c
module _ (s : List ℕ) (n k : ℕ) (front : List ℕ) (c : ℕ) where
  quoting-step : Quoting s n → n + k ≤ length s → take (n + k) s ≡ take n s ++ front → drop n s ≡ front ++ drop (n + k) s →
      ((x : List ℕ) → undoubled false (front ++ x) ≡ c ∷ undoubled false x) → ((t bs : List ℕ) → tokens (InQuotes t) (front ++ bs) ≡ tokens (InQuotes (t ++ (c ∷ []))) bs) → Quoting s (n + k)
  quoting-step q l more rest un go =
      let t = undoubled false (take n s) in
      let one : (x : List ℕ) → undoubled false (take (n + k) s ++ x) ≡ t ++ (c ∷ undoubled false x) = λ x. ap (λ v. undoubled false (v ++ x)) more ∙ ap (undoubled false) (append_assoc (take n s) front x) ∙ q.even (front ++ x) ∙ ap (λ v. t ++ v) (un x) in
      let whole : undoubled false (take (n + k) s) ≡ t ++ (c ∷ []) = ap (undoubled false) (sym (append-nil (take (n + k) s))) ∙ one [] ∙ ap (λ v. t ++ (c ∷ v)) undoubled-none in
      record {
        within = l;
        same = q.same ∙ ap (tokens (InQuotes t)) rest ∙ go t (drop (n + k) s) ∙ ap (λ v. tokens (InQuotes v) (drop (n + k) s)) (sym whole);
        even = λ x. one x ∙ sym (append_assoc t (c ∷ []) (undoubled false x)) ∙ ap (λ v. v ++ undoubled false x) (sym whole);
      }

pub quoting-one : (s : List ℕ) (n : ℕ) → Quoting s n → n < length s → get_or s n 0 < 256 → (get_or s n 0 ≡ 39 → ⊥) → Quoting s (n + 1)
quoting-one s n q l u h = quoting-step s n 1 (get_or s n 0 ∷ []) (get_or s n 0) q (omega arith) (take_more s n 0 l) (drop_more s n 0 l) (λ x. undoubled-one _ x h) (λ t bs. in-quotes t _ bs u h)

pub quoting-two : (s : List ℕ) (n : ℕ) → Quoting s n → n + 1 < length s → get_or s n 0 ≡ 39 → get_or s (n + 1) 0 ≡ 39 → Quoting s (n + 2)
quoting-two s n q l a b =
    let short : n < length s = omega arith in
    quoting-step s n 2 (39 ∷ 39 ∷ []) 39 q (omega arith)
    (ap (λ i. take i s) (sym (add_assoc n 1 1)) ∙ take_more s (n + 1) 0 l ∙ ap (λ v. v ++ get_or s (n + 1) 0 ∷ []) (take_more s n 0 short) ∙ append_assoc (take n s) (get_or s n 0 ∷ []) (get_or s (n + 1) 0 ∷ []) ∙ (λ i. take n s ++ (a i ∷ b i ∷ [])))
    (drop_more s n 0 short ∙ ap (λ v. get_or s n 0 ∷ v) (drop_more s (n + 1) 0 l) ∙ (λ i. a i ∷ b i ∷ drop (add_assoc n 1 1 i) s))
    undoubled-two two-quotes

pub quoting-end : (s : List ℕ) (n : ℕ) → Quoting s n → n < length s → get_or s n 0 ≡ 39 → (n + 1 < length s → get_or s (n + 1) 0 ≡ 39 → ⊥) → tokens (InQuotes []) s ≡ Quoted (undoubled false (take n s)) ∷ tokens Between (drop (n + 1) s)
quoting-end s n q l a h =
    q.same ∙ ap (tokens (InQuotes (undoubled false (take n s)))) (drop_more s n 0 l ∙ ap (λ b. b ∷ drop (n + 1) s) a)
    ∙ end-quote _ (drop (n + 1) s) (λ k e. h (omega (arith, length-drop (n + 1) s)) (ap (λ i. get_or s i 0) (sym (add-zero (n + 1))) ∙ sym (get_or-drop (n + 1) s 0 0) ∙ e))

-- a run by a test's calls is a run by the test
pub run_is : (p : ℕ → Bool) (P : ℕ → Bool → Type 0) (bs ds : List ℕ) (n : ℕ) → ((b : ℕ) (r : Bool) → P b r → r ≡ p b) → bs ≡ ds → RunBy P bs n → Run p ds n
run_is p P bs ds n h e r = subst (λ v. Run p v n) e (record { within = r.within; all = λ k l. sym (h _ _ (r.all k l)); stops = λ l. sym (h _ _ (r.stops l)) })

-- a text from a place on
from_at : (s : List ℕ) (a : ℕ) → a < length s → drop a s ≡ get_or s a 0 ∷ drop (a + 1) s
from_at s a l = drop_more s a 0 l

drop-on : (s : List ℕ) (a n : ℕ) → drop n (drop a s) ≡ drop (a + n) s
drop-on s a n = drop-drop n a s

at_on : (s : List ℕ) (a n : ℕ) → get_or (drop a s) n 0 ≡ get_or s (a + n) 0
at_on s a n = get_or-drop a s n 0

module _ (s : List ℕ) (a : ℕ) (l : a < length s) where
  pub word_cut : (n : ℕ) → letter (get_or s a 0) ≡ true → Run in_word (drop a s) n → Word (map small (take n (drop a s))) ∷ tokens Between (drop (a + n) s) ≡ tokens Between (drop a s)
  word_cut n h r = sym (ap (tokens Between) (from_at s a l) ∙ word-begins (get_or s a 0) (drop (a + 1) s) h ∙ ap (tokens (InWord [])) (sym (from_at s a l)) ∙ word-run [] (drop a s) n r ∙ ap (λ v. Word (map small (take n (drop a s))) ∷ tokens Between v) (drop-on s a n))

  number-from : (n : ℕ) → digit (get_or s a 0) ≡ true → Run digit (drop a s) n → tokens Between (drop a s) ≡ tokens (InNumber (decimal 0 (take n (drop a s)))) (drop (a + n) s)
  number-from n h r = ap (tokens Between) (from_at s a l) ∙ number-begins (get_or s a 0) (drop (a + 1) s) h ∙ ap (tokens (InNumber 0)) (sym (from_at s a l)) ∙ number-run 0 (drop a s) n r ∙ ap (tokens (InNumber (decimal 0 (take n (drop a s))))) (drop-on s a n)

  number-stops : (n : ℕ) → Run digit (drop a s) n → 0 < length (drop (a + n) s) → digit (get_or (drop (a + n) s) 0 0) ≡ false
  number-stops n r q = ap digit (at_on s (a + n) 0 ∙ ap (λ i. get_or s i 0) (add-zero (a + n)) ∙ sym (at_on s a n)) ∙ r.stops (omega (arith, length-drop a s, length-drop (a + n) s))

  pub number_cut : (n : ℕ) → digit (get_or s a 0) ≡ true → Run digit (drop a s) n → letter (get_or s (a + n) 0) ≡ false → Number (decimal 0 (take n (drop a s))) ∷ tokens Between (drop (a + n) s) ≡ tokens Between (drop a s)
  number_cut n h r k = sym (number-from n h r ∙ number-ends _ (drop (a + n) s) (number-stops n r) (λ q. ap letter (at_on s (a + n) 0 ∙ ap (λ i. get_or s i 0) (add-zero (a + n))) ∙ k))

  pub faulty-cut : (n : ℕ) → digit (get_or s a 0) ≡ true → Run digit (drop a s) n → letter (get_or s (a + n) 0) ≡ true → Wrong ∷ tokens Between (drop (a + n) s) ≡ tokens Between (drop a s)
  faulty-cut n h r k =
      let some : 0 < length (drop (a + n) s) = omega (arith, length-drop (a + n) s, inside (a + n) k) in
      sym (number-from n h r ∙ number-faulty _ (drop (a + n) s) some (number-stops n r some) (ap letter (at_on s (a + n) 0 ∙ ap (λ i. get_or s i 0) (add-zero (a + n))) ∙ k))
    where
      inside : (i : ℕ) → letter (get_or s i 0) ≡ true → i < length s
      inside i h = go (ltb i (length s)) refl
        where
          go : (b : Bool) → ltb i (length s) ≡ b → i < length s
          go true e = ltb-true i (length s) e
          go false e = clash (sym (ap letter (get_or_past s i 0 (ltb-false i (length s) e))) ∙ h)

  pub sign-cut : (b : ℕ) → is_in b signs ≡ true → get_or s a 0 ≡ b → Sign b ∷ tokens Between (drop (a + 1) s) ≡ tokens Between (drop a s)
  sign-cut b h e = sym (ap (tokens Between) (from_at s a l ∙ ap (λ b. b ∷ drop (a + 1) s) e) ∙ sign-begins b (drop (a + 1) s) h)

  pub wrong-cut : Lone (get_or s a 0) → is_in (get_or s a 0) signs ≡ false → space (get_or s a 0) ≡ false → Wrong ∷ tokens Between (drop (a + 1) s) ≡ tokens Between (drop a s)
  wrong-cut h m n = sym (ap (tokens Between) (from_at s a l) ∙ wrong-begins (get_or s a 0) (drop (a + 1) s) h m n)

  -- a byte and what comes after it
  begun : (b : ℕ) (m : Mode) → ((bs : List ℕ) → tokens Between (b ∷ bs) ≡ tokens m bs) → get_or s a 0 ≡ b → tokens Between (drop a s) ≡ tokens m (drop (a + 1) s)
  begun b m rule h = ap (tokens Between) (from_at s a l ∙ ap (λ b. b ∷ drop (a + 1) s) h) ∙ rule (drop (a + 1) s)

  next-on : get_or (drop (a + 1) s) 0 0 ≡ get_or s (a + 1) 0
  next-on = at_on s (a + 1) 0 ∙ ap (λ i. get_or s i 0) (add-zero (a + 1))

  -- a sign of two bytes
  two : (b c t : ℕ) (m : Mode) → ((bs : List ℕ) → tokens Between (b ∷ bs) ≡ tokens m bs) → ((bs : List ℕ) → tokens m (c ∷ bs) ≡ Sign t ∷ tokens Between bs) → 0 < c → get_or s a 0 ≡ b → get_or s (a + 1) 0 ≡ c → Sign t ∷ tokens Between (drop (a + 2) s) ≡ tokens Between (drop a s)
  two b c t m rule on p h k = sym (begun b m rule h ∙ sym (at-two m c (drop (a + 1) s) p (next-on ∙ k)) ∙ on (drop 1 (drop (a + 1) s)) ∙ ap (λ v. Sign t ∷ tokens Between v) (drop-on s (a + 1) 1 ∙ ap (λ i. drop i s) (add_assoc a 1 1)))

  pub at-most-cut : get_or s a 0 ≡ 60 → get_or s (a + 1) 0 ≡ 61 → Sign 256 ∷ tokens Between (drop (a + 2) s) ≡ tokens Between (drop a s)
  at-most-cut h k = two 60 61 256 AfterLess less-begins less_equal (omega arith) h k

  pub differs-cut : get_or s a 0 ≡ 60 → get_or s (a + 1) 0 ≡ 62 → Sign 257 ∷ tokens Between (drop (a + 2) s) ≡ tokens Between (drop a s)
  differs-cut h k = two 60 62 257 AfterLess less-begins less-more (omega arith) h k

  pub at-least-cut : get_or s a 0 ≡ 62 → get_or s (a + 1) 0 ≡ 61 → Sign 259 ∷ tokens Between (drop (a + 2) s) ≡ tokens Between (drop a s)
  at-least-cut h k = two 62 61 259 AfterMore more-begins more-equal (omega arith) h k

  pub joined-cut : get_or s a 0 ≡ 124 → get_or s (a + 1) 0 ≡ 124 → Sign 258 ∷ tokens Between (drop (a + 2) s) ≡ tokens Between (drop a s)
  joined-cut h k = two 124 124 258 AfterBar bar-begins bar-bar (omega arith) h k

  pub less-cut : get_or s a 0 ≡ 60 → (get_or s (a + 1) 0 ≡ 61 → ⊥) → (get_or s (a + 1) 0 ≡ 62 → ⊥) → Sign 60 ∷ tokens Between (drop (a + 1) s) ≡ tokens Between (drop a s)
  less-cut h k m = sym (begun 60 AfterLess less-begins h ∙ less-alone (drop (a + 1) s) (λ e. k (sym next-on ∙ e)) (λ e. m (sym next-on ∙ e)))

  pub more_cut : get_or s a 0 ≡ 62 → (get_or s (a + 1) 0 ≡ 61 → ⊥) → Sign 62 ∷ tokens Between (drop (a + 1) s) ≡ tokens Between (drop a s)
  more_cut h k = sym (begun 62 AfterMore more-begins h ∙ more-alone (drop (a + 1) s) (λ e. k (sym next-on ∙ e)))

  pub bar-cut : get_or s a 0 ≡ 124 → (get_or s (a + 1) 0 ≡ 124 → ⊥) → Wrong ∷ tokens Between (drop (a + 1) s) ≡ tokens Between (drop a s)
  bar-cut h k = sym (begun 124 AfterBar bar-begins h ∙ bar-alone (drop (a + 1) s) (λ e. k (sym next-on ∙ e)))

  pub open-cut : get_or s a 0 ≡ 39 → tokens (InQuotes []) (drop (a + 1) s) ≡ Wrong ∷ [] → Wrong ∷ tokens Between (drop (length s) s) ≡ tokens Between (drop a s)
  unfolding tokens ends
  open-cut h k = ap (λ v. Wrong ∷ tokens Between v) (drop_all (length s) s (omega arith)) ∙ sym (begun 39 (InQuotes []) quote-begins h ∙ k)

  pub quoted-cut : (n : ℕ) → get_or s a 0 ≡ 39 → tokens (InQuotes []) (drop (a + 1) s) ≡ Quoted (undoubled false (take n (drop (a + 1) s))) ∷ tokens Between (drop (n + 1) (drop (a + 1) s)) → Quoted (undoubled false (take n (drop (a + 1) s))) ∷ tokens Between (drop (a + n + 2) s) ≡ tokens Between (drop a s)
  quoted-cut n h k =
      let same : (a + 1) + (n + 1) ≡ a + n + 2 = omega arith in
      sym (begun 39 (InQuotes []) quote-begins h ∙ k ∙ ap (λ v. Quoted (undoubled false (take n (drop (a + 1) s))) ∷ tokens Between v) (drop-on s (a + 1) (n + 1) ∙ ap (λ i. drop i s) same))

pub nil-cut : (s : List ℕ) (a : ℕ) → length s ≤ a → [] ≡ tokens Between (drop a s)
unfolding tokens ends
nil-cut s a l = sym (ap (tokens Between) (drop_all a s l))

-- a token and its length, matched
pub matched : (s : List ℕ) (a : ℕ) (r : Tok × ℕ) (t : Tok) (n : ℕ) → r ≡ (t, n) → tokens_of s t (a + n) ≡ tokens Between (drop a s) → tokens_of s r.0 (a + r.1) ≡ tokens Between (drop a s)
matched s a r t n e h = ap (λ r. tokens_of s r.0 (a + r.1)) e ∙ h

-- a place made of a token and a rest
pub placed : (s : List ℕ) (x : Place) (t : Tok) (r : ℕ) (ts : List Token) → (x.tok ≡ t) × (x.rest ≡ r) → tokens_of s t r ≡ ts → tokens_at s x ≡ ts
placed s x t r ts e h = (λ i. tokens_of s (e.0 i) (e.1 i)) ∙ h
