-- What the token at a place says of the tokens from there. Assumes nothing.
use Rattle.std.proofs.Common.{◌≡◌, ℕ, zero, suc, ◌+◌, ◌-◌, ◌*◌, ◌<◌, ◌≤◌, Bool, true, false, cond, not, ltb, ◌==◌, ◌⊎◌, List, [], ◌∷◌, map, length, get_or, drop, sym, refl, ap, ◌∙◌, inl, inr, arith}
use Rattle.std.proofs.lemmas.Bool.{lt-ltb, le-ltb, ne_eqb}
use Rattle.std.proofs.lemmas.List.{at_drop_more, at_drop_all}
use Rattle.meaning.specs.Text as text
use Rattle.meaning.specs.Text.{Token, Between, tokens, small, keywords, less_by, k_or, k_and, k_is}
use Rattle.meaning.specs.Meaning.{same_name, some}
use Rattle.meaning.specs.Tree as tree
use Rattle.grammar.specs.Reader.{refuses, gets, head_is, tail_of, ends, tests, joins, joint, joint_in, is_sign, is_word, a_name, a_number}
use Rattle.grammar.proofs.Tools.{clash, word-is}
use Rattle.text.specs.Cut.{tokens_of, tokens_at, number_of, decimal, name, part}
use Rattle.text.specs.Found.{joint_of}
use Rattle.text.specs.declared.nodes.Span.{Span}
use Rattle.text.specs.declared.tokens.Sign.{Sign as Signs}
use Rattle.text.specs.declared.tokens.Sign.TheVariants as sign
use Rattle.text.specs.declared.tokens.Tok.{Tok}
use Rattle.text.specs.declared.tokens.Tok.TheVariants.{Word, Number, Quoted, Sign, Wrong, End}
use Rattle.text.specs.declared.tokens.Place.{Place}

module _ (b : List ℕ) (x : Place) where
  -- by the token that stands there
  by-tok : {t : Tok} → x.tok ≡ t → tokens_at b x ≡ tokens_of b t x.rest
  by-tok e = ap (λ t. tokens_of b t x.rest) e

  -- the tokens from the next one on
  pub next-is : (p : Token → Bool) (us : List Token) → head_is p (tokens_at b x) ≡ true → us ≡ tokens Between (drop x.rest b) → us ≡ tail_of (tokens_at b x)
  next-is p us h k = k ∙ go x.tok h
    where
      go : (t : Tok) → head_is p (tokens_of b t x.rest) ≡ true → tokens Between (drop x.rest b) ≡ tail_of (tokens_of b t x.rest)
      go (Word w) h = refl
      go (Number w) h = refl
      go (Quoted w) h = refl
      go (Sign w) h = refl
      go Wrong h = refl
      go End h = clash h

  pub sign-head : (d c : Signs) → x.tok ≡ Sign c → head_is (is_sign (number_of d)) (tokens_at b x) ≡ (number_of c == number_of d)
  unfolding is_sign
  sign-head d c e = ap (head_is (is_sign (number_of d))) (by-tok e)

  pub sign-joint : (c : Signs) → x.tok ≡ Sign c → joint_of (tokens_at b x) ≡ joint (text.Sign (number_of c))
  sign-joint c e = ap joint_of (by-tok e)

  pub sign-tail : (c : Signs) (ts : List Token) → x.tok ≡ Sign c → ts ≡ tokens Between (drop x.rest b) → ts ≡ tail_of (tokens_at b x)
  sign-tail c ts e k = k ∙ sym (ap tail_of (by-tok e))

  pub key-another : (key : List ℕ) (p : Span) (w : List ℕ) (r : Bool) → x.tok ≡ Word p → w ≡ part b p → r ≡ same_name (map small w) key → head_is (is_word key) (tokens_at b x) ≡ r
  unfolding is_word
  key-another key p w r e i h = ap (head_is (is_word key)) (by-tok e) ∙ ap (λ w. same_name (map small w) key) (sym i) ∙ sym h

  pub name-key : (p : Span) (w : List ℕ) → x.tok ≡ Word p → w ≡ part b p → true ≡ some (same_name (map small w)) keywords → a_name (tokens_at b x) ≡ refuses
  unfolding a_name
  name-key p w e i h = ap a_name (by-tok e) ∙ ap (λ c. cond (not c) (gets (name b p) (tokens Between (drop x.rest b))) refuses) (ap (λ w. some (same_name (map small w)) keywords) (sym i) ∙ sym h)

  pub name-taken : (p : Span) (w : List ℕ) (ts : List Token) → x.tok ≡ Word p → w ≡ part b p → false ≡ some (same_name (map small w)) keywords → ts ≡ tokens Between (drop x.rest b) → a_name (tokens_at b x) ≡ gets (name b p) ts
  unfolding a_name
  name-taken p w ts e i h k = ap a_name (by-tok e) ∙ ap (λ c. cond (not c) (gets (name b p) (tokens Between (drop x.rest b))) refuses) (ap (λ w. some (same_name (map small w)) keywords) (sym i) ∙ sym h) ∙ ap (gets (name b p)) (sym k)

  pub number-big : (p : Span) (w : List ℕ) → x.tok ≡ Number p → w ≡ part b p → 9223372036854775808 ≤ decimal 0 w → a_number (tokens_at b x) ≡ refuses
  unfolding a_number
  number-big p w e i l = ap a_number (by-tok e) ∙ ap (λ w. cond (ltb (decimal 0 w) 9223372036854775808) (gets (decimal 0 w) (tokens Between (drop x.rest b))) refuses) (sym i) ∙ ap (λ c. cond c (gets (decimal 0 w) (tokens Between (drop x.rest b))) refuses) (le-ltb (decimal 0 w) 9223372036854775808 l)

  pub number-taken : (p : Span) (w : List ℕ) (v : ℕ) (ts : List Token) → x.tok ≡ Number p → w ≡ part b p → v ≡ decimal 0 w → v < 9223372036854775808 → ts ≡ tokens Between (drop x.rest b) → a_number (tokens_at b x) ≡ gets v ts
  unfolding a_number
  number-taken p w v ts e i h l k = ap a_number (by-tok e) ∙ ap (λ n. cond (ltb n 9223372036854775808) (gets n (tokens Between (drop x.rest b))) refuses) (sym (h ∙ ap (decimal 0) i)) ∙ ap (λ c. cond c (gets v (tokens Between (drop x.rest b))) refuses) (lt-ltb v 9223372036854775808 l) ∙ ap (gets v) (sym k)

pub sign-none : (d : ℕ) (b : List ℕ) (t : Tok) (r : ℕ) → ((c : Signs) → t ≡ Sign c → ⊥) → head_is (is_sign d) (tokens_of b t r) ≡ false
unfolding is_sign
sign-none d b (Word p) r h = refl
sign-none d b (Number p) r h = refl
sign-none d b (Quoted p) r h = refl
sign-none d b (Sign c) r h = absurd (h c refl)
sign-none d b Wrong r h = refl
sign-none d b End r h = refl

pub key-none : (key : List ℕ) (b : List ℕ) (t : Tok) (r : ℕ) → ((p : Span) → t ≡ Word p → ⊥) → head_is (is_word key) (tokens_of b t r) ≡ false
unfolding is_word
key-none key b (Word p) r h = absurd (h p refl)
key-none key b (Number p) r h = refl
key-none key b (Quoted p) r h = refl
key-none key b (Sign c) r h = refl
key-none key b Wrong r h = refl
key-none key b End r h = refl

pub name-none : (b : List ℕ) (t : Tok) (r : ℕ) → ((p : Span) → t ≡ Word p → ⊥) → a_name (tokens_of b t r) ≡ refuses
unfolding a_name
name-none b (Word p) r h = absurd (h p refl)
name-none b (Number p) r h = refl
name-none b (Quoted p) r h = refl
name-none b (Sign c) r h = refl
name-none b Wrong r h = refl
name-none b End r h = refl

pub number-none : (b : List ℕ) (t : Tok) (r : ℕ) → ((p : Span) → t ≡ Number p → ⊥) → a_number (tokens_of b t r) ≡ refuses
unfolding a_number
number-none b (Word p) r h = refl
number-none b (Number p) r h = absurd (h p refl)
number-none b (Quoted p) r h = refl
number-none b (Sign c) r h = refl
number-none b Wrong r h = refl
number-none b End r h = refl

-- operators
or_is : joint (text.Word k_or) ≡ joins 0 0 tree.or
unfolding joint joint_in is_word is_sign same_name
or_is = refl

and_is : joint (text.Word k_and) ≡ joins 1 1 tree.and
unfolding joint joint_in is_word is_sign same_name
and_is = refl

pub or-joint : (ts : List Token) → head_is (is_word k_or) ts ≡ true → joint_of ts ≡ joins 0 0 tree.or
or-joint [] h = clash h
or-joint (t ∷ ts) h = ap joint (word-is k_or t h) ∙ or_is

pub and-joint : (ts : List Token) → head_is (is_word k_and) ts ≡ true → joint_of ts ≡ joins 1 1 tree.and
and-joint [] h = clash h
and-joint (t ∷ ts) h = ap joint (word-is k_and t h) ∙ and_is

-- no sign, and neither word
pub other-joint : (b : List ℕ) (t : Tok) (r : ℕ) → ((c : Signs) → t ≡ Sign c → ⊥) → head_is (is_word k_or) (tokens_of b t r) ≡ false → head_is (is_word k_and) (tokens_of b t r) ≡ false → (joint_of (tokens_of b t r) ≡ ends) ⊎ (joint_of (tokens_of b t r) ≡ tests)
unfolding joint joint_in is_word is_sign
other-joint b (Word p) r h k l = go (same_name (name b p) k_is) (same_name (name b p) k_or) (same_name (name b p) k_and) k l
  where
    go : (i o a : Bool) → o ≡ false → a ≡ false → (cond i tests (cond o (joins 0 0 tree.or) (cond a (joins 1 1 tree.and) ends)) ≡ ends) ⊎ (cond i tests (cond o (joins 0 0 tree.or) (cond a (joins 1 1 tree.and) ends)) ≡ tests)
    go true o a k l = inr refl
    go false true a k l = clash (sym k)
    go false false true k l = clash (sym l)
    go false false false k l = inl refl
other-joint b (Number p) r h k l = inl refl
other-joint b (Quoted p) r h k l = inl refl
other-joint b (Sign c) r h k l = absurd (h c refl)
other-joint b Wrong r h k l = inl refl
other-joint b End r h k l = inl refl

-- a sign that is none of these joins nothing
pub no-infix : (s : ℕ) → (s ≡ 61 → ⊥) → (s ≡ 257 → ⊥) → (s ≡ 60 → ⊥) → (s ≡ 62 → ⊥) → (s ≡ 256 → ⊥) → (s ≡ 259 → ⊥) → (s ≡ 43 → ⊥) → (s ≡ 45 → ⊥) → (s ≡ 258 → ⊥) → (s ≡ 42 → ⊥) → joint (text.Sign s) ≡ ends
unfolding joint joint_in is_word is_sign
no-infix s h61 h257 h60 h62 h256 h259 h43 h45 h258 h42 = λ i. cond (ne_eqb s 61 h61 i) (joins 3 4 tree.equal) (cond (ne_eqb s 257 h257 i) (joins 3 4 (λ a b. tree.not' (tree.equal a b))) (cond (ne_eqb s 60 h60 i) (joins 3 4 tree.below) (cond (ne_eqb s 62 h62 i) (joins 3 4 (λ a b. tree.below b a)) (cond (ne_eqb s 256 h256 i) (joins 3 4 tree.at_most) (cond (ne_eqb s 259 h259 i) (joins 3 4 (λ a b. tree.at_most b a)) (cond (ne_eqb s 43 h43 i) (joins 4 4 tree.plus) (cond (ne_eqb s 45 h45 i) (joins 4 4 tree.minus) (cond (ne_eqb s 258 h258 i) (joins 4 4 tree.concat) (cond (ne_eqb s 42 h42 i) (joins 5 5 tree.times) (ends))))))))))

-- the numbers of signs are their own
back : ℕ → Signs
back n =
    cond (n == 40) sign.Open (cond (n == 41) sign.Close (cond (n == 44) sign.Comma (cond (n == 46) sign.Dot (cond (n == 42) sign.Times (cond (n == 43) sign.Plus (cond (n == 45) sign.Minus
    (cond (n == 61) sign.Equal (cond (n == 60) sign.Below (cond (n == 256) sign.AtMost (cond (n == 257) sign.Differs (cond (n == 62) sign.Above (cond (n == 259) sign.AtLeast sign.Joined))))))))))))

back-of : (s : Signs) → back (number_of s) ≡ s
unfolding back
back-of sign.Open = refl
back-of sign.Close = refl
back-of sign.Comma = refl
back-of sign.Dot = refl
back-of sign.Times = refl
back-of sign.Plus = refl
back-of sign.Minus = refl
back-of sign.Equal = refl
back-of sign.Below = refl
back-of sign.AtMost = refl
back-of sign.Differs = refl
back-of sign.Above = refl
back-of sign.AtLeast = refl
back-of sign.Joined = refl

pub same-sign : (s t : Signs) → number_of s ≡ number_of t → s ≡ t
same-sign s t e = sym (back-of s) ∙ ap back e ∙ back-of t

-- numbers
pub decimal-least : (a : ℕ) (bs : List ℕ) → a ≤ decimal a bs
unfolding decimal
decimal-least a [] = omega arith
decimal-least a (b ∷ bs) = omega (arith, decimal-least (10 * a + less_by 48 b) bs)

pub less-by : (n b : ℕ) → less_by n b ≡ b - n
unfolding less_by
less-by zero b = omega arith
less-by (suc n) zero = omega arith
less-by (suc n) (suc b) = omega (arith, less-by n b)

pub decimal-more : (a : ℕ) (ds : List ℕ) (i : ℕ) → i < length ds → decimal a (drop i ds) ≡ decimal (10 * a + (get_or ds i 0 - 48)) (drop (i + 1) ds)
unfolding decimal
decimal-more a ds i l = at_drop_more (decimal a) ds i 0 l ∙ ap (λ n. decimal (10 * a + n) (drop (i + 1) ds)) (less-by 48 (get_or ds i 0))

pub decimal-all : (a : ℕ) (ds : List ℕ) (i : ℕ) → length ds ≤ i → decimal a (drop i ds) ≡ a
unfolding decimal
decimal-all a ds i l = at_drop_all (decimal a) ds i l
