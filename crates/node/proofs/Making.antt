-- A page of a joiner put in the place of another.
use Rattle.std.proofs.Common.{Result, Ok, Err, is_ok, ◌≡◌, ℕ, zero, suc, ◌+◌, ◌-◌, ◌<◌, ◌≤◌, Bool, true, false, cond, ltb, leb, ◌≢◌, ◌⊎◌, List, [], ◌∷◌, ◌++◌, length, get_or, set, sym, refl, ap, ◌∙◌, subst, inl, inr, append_assoc, append-nil, add-one, arith, get_or-set_other, get_or-set_same}
use Rattle.std.specs.Prelude.{Vec}
use Rattle.std.specs.Bool.{⊤}
use Rattle.std.specs.Coded.{×_prop, le_prop}
use Rattle.std.specs.declared.alloc.Global.{Global}
use Rattle.std.specs.Vec.{with_item}
use mathlib.Core.HLevel.{is_prop→PathP}
use native.Mathlib.Nat.{ℕ_set}
use Rattle.std.proofs.lemmas.Bool.{cases_lt, lt-ltb, le-ltb, le-leb, lt-leb}
use Rattle.std.proofs.lemmas.List.{length_push, set-get_or}
use Rattle.tree.specs.Entries.{Entry}
use Rattle.tree.specs.Pages.{Page, weigh}
use Rattle.tree.specs.Bytes.{taken}
use Rattle.tree.proofs.Joins.{weigh-append}
use Rattle.node.proofs.Places.{start-least}
use Rattle.node.proofs.Weights.{weighs}
use Rattle.node.specs.Node.{count_in, entry_at, entries_to, entries_from, entries_in, Formed, Cleared, Pushed}
use Rattle.node.specs.declared.Full.{Full}
use Rattle.node.specs.Joiner.{Made, Remade, JoinedBy, pages_to, on_last, on_last_all, spare, join_on}

module _ (ps : List (List ℕ)) (n : ℕ) (x : List ℕ) (h : n < length ps) where
  pages-before : (m : ℕ) → m ≤ n → pages_to (set ps n x) m ≡ pages_to ps m
  unfolding pages_to
  pages-before zero l = refl
  pages-before (suc m) l =
      let ne : m ≢ n = (λ e. omega arith) in
      ap (λ qs. qs ++ (entries_in (get_or (set ps n x) m []) ∷ [])) (pages-before m (omega arith)) ∙ ap (λ q. pages_to ps m ++ (entries_in q ∷ [])) (rw get_or-set_other refl)

  pub pages-set : pages_to (set ps n x) (n + 1) ≡ pages_to ps n ++ (entries_in x ∷ [])
  unfolding pages_to
  pages-set =
      ap (pages_to (set ps n x)) (add-one n) ∙ ap (λ qs. qs ++ (entries_in (get_or (set ps n x) n []) ∷ [])) (pages-before n (omega arith)) ∙ ap (λ q. pages_to ps n ++ (entries_in q ∷ [])) (get_or-set_same ps n x [] h)

  -- formed pages stay so
  pub formed-set : ((i : ℕ) → i < n → Formed (get_or ps i []) (count_in (get_or ps i []))) → Formed x (count_in x) → (i : ℕ) → i < n + 1 → Formed (get_or (set ps n x) i []) (count_in (get_or (set ps n x) i []))
  formed-set f g i l = go (cases_lt i n)
    where
      go : (i < n) ⊎ (n ≤ i) → Formed (get_or (set ps n x) i []) (count_in (get_or (set ps n x) i []))
      go (inl p) = let ne : i ≢ n = (λ e. omega arith) in subst (λ q. Formed q (count_in q)) (sym (get_or-set_other ps n i x [] ne)) (f i p)
      go (inr p) = let e : n ≡ i = omega arith in subst (λ j. Formed (get_or (set ps n x) j []) (count_in (get_or (set ps n x) j []))) e (subst (λ q. Formed q (count_in q)) (sym (get_or-set_same ps n x [] h)) g)

-- what is written over a part of the memory that it equals leaves all of it as it was
pub put-back : (v : Vec (List ℕ) Global) (i : ℕ) (x : List ℕ) → set v.items i x ≡ v.items → with_item v i x ≡ v
put-back v i x e = λ k. record {
  ptr = v.ptr;
  len = v.len;
  cap = v.cap;
  alloc = v.alloc;
  items = e k;
  ok = is_prop→PathP (λ j. (v.len ≡ length (e j)) × (v.len ≤ v.cap)) (λ j. ×_prop (ℕ_set _ _) le_prop) (with_item v i x).ok v.ok k;
  small = v.small;
}

pub length-pages : (ps : List (List ℕ)) (n : ℕ) → length (pages_to ps n) ≡ n
unfolding pages_to
length-pages ps zero = refl
length-pages ps (suc n) = length_push (pages_to ps n) (entries_in (get_or ps n [])) ∙ (let e = length-pages ps n in omega arith)

pub no-pages : (ps : List (List ℕ)) (n : ℕ) → n ≡ 0 → pages_to ps n ≡ []
unfolding pages_to
no-pages ps n e = ap (pages_to ps) e

pub no-entries : (level : ℕ) (x : List ℕ) → Cleared level x → entries_in x ≡ []
unfolding entries_to
no-entries level x c = ap (entries_to x) c.none

on-last : (e : Entry) (ps : List Page) (p : Page) → on_last e (ps ++ (p ∷ [])) ≡ ps ++ ((p ++ (e ∷ [])) ∷ [])
unfolding on_last
on-last e [] p = refl
on-last e (q ∷ []) p = refl
on-last e (q ∷ r ∷ ps) p = ap (λ x. q ∷ x) (on-last e (r ∷ ps) p)

spare-last : (ps : List Page) (p : Page) → spare (ps ++ (p ∷ [])) ≡ 4088 - weigh taken p
unfolding spare
spare-last [] p = refl
spare-last (q ∷ []) p = refl
spare-last (q ∷ r ∷ ps) p = spare-last (r ∷ ps) p

-- an entry was pushed on the last page, or there was no room for it
module _ (ps : List (List ℕ)) (len : ℕ) (key value page next : List ℕ) (some : 0 < len) (there : len ≤ length ps) (is : page ≡ get_or ps (len - 1) []) (s : (i : ℕ) → i < len → Formed (get_or ps i []) (count_in (get_or ps i []))) where
  pages-last : pages_to ps len ≡ pages_to ps (len - 1) ++ (entries_in page ∷ [])
  unfolding pages_to
  pages-last =
      let e : len ≡ suc (len - 1) = omega arith in
      ap (pages_to ps) e ∙ ap (λ q. pages_to ps (len - 1) ++ (entries_in q ∷ [])) (sym is)

  pages-next : pages_to (set ps (len - 1) next) len ≡ pages_to ps (len - 1) ++ (entries_in next ∷ [])
  pages-next = let e : len - 1 + 1 ≡ len = omega arith in subst (λ m. pages_to (set ps (len - 1) next) m ≡ pages_to ps (len - 1) ++ (entries_in next ∷ [])) e (pages-set ps (len - 1) next (omega arith))

  formed-next : Formed next (count_in next) → (i : ℕ) → i < len → Formed (get_or (set ps (len - 1) next) i []) (count_in (get_or (set ps (len - 1) next) i []))
  formed-next g i l = formed-set ps (len - 1) next (omega arith) (λ j h. s j (omega arith)) g i (omega arith)

  pub formed-page : Formed page (count_in page)
  formed-page = subst (λ q. Formed q (count_in q)) (sym is) (s (len - 1) (omega arith))

  pages-pushed : (r : Result ⊤ Full) → Pushed page key value r next → pages_to (set ps (len - 1) next) len ≡ cond (is_ok r) (on_last (record { key = key; value = value }) (pages_to ps len)) (pages_to ps len)
  pages-pushed (Ok u) (w, a) =
      pages-next ∙ ap (λ q. pages_to ps (len - 1) ++ (q ∷ [])) a.entries ∙ sym (on-last (record { key = key; value = value }) (pages_to ps (len - 1)) (entries_in page)) ∙ ap (on_last (record { key = key; value = value })) (sym pages-last)
  pages-pushed (Err f) (w, e) = pages-next ∙ ap (λ q. pages_to ps (len - 1) ++ (entries_in q ∷ [])) e ∙ sym pages-last

  formed-pushed : (r : Result ⊤ Full) → Pushed page key value r next → (i : ℕ) → i < len → Formed (get_or (set ps (len - 1) next) i []) (count_in (get_or (set ps (len - 1) next) i []))
  formed-pushed (Ok u) (w, a) = formed-next a.formed
  formed-pushed (Err f) (w, e) = formed-next (subst (λ q. Formed q (count_in q)) (sym e) formed-page)

  pub spare-page : spare (pages_to ps len) ≡ 4088 - weigh taken (entries_in page)
  spare-page = ap spare pages-last ∙ spare-last (pages_to ps (len - 1)) (entries_in page)

  -- a page that was put back as it was changes none
  stays : (r : Result ⊤ Full) → Pushed page key value r next → is_ok r ≡ false → set ps (len - 1) next ≡ ps
  stays (Ok u) p e = cc
  stays (Err f) (w, q) e = ap (set ps (len - 1)) (q ∙ is) ∙ set-get_or ps (len - 1) []

  crowded : (r : Result ⊤ Full) → Pushed page key value r next → is_ok r ≡ false → spare (pages_to ps len) < 4 + (length key + length value)
  crowded (Ok u) p e = cc
  crowded (Err f) (w, q) e = omega (arith, spare-page, weighs page formed-page, w)

  -- all that holds after it
  pub record PushedOn (r : Result ⊤ Full) : Type 0 where
    pub formed : (i : ℕ) → i < len → Formed (get_or (set ps (len - 1) next) i []) (count_in (get_or (set ps (len - 1) next) i []))
    pub pages : pages_to (set ps (len - 1) next) len ≡ cond (is_ok r) (on_last (record { key = key; value = value }) (pages_to ps len)) (pages_to ps len)
    pub stays : is_ok r ≡ false → set ps (len - 1) next ≡ ps
    pub crowd : is_ok r ≡ false → spare (pages_to ps len) < 4 + (length key + length value)

  pub pushed-on : (r : Result ⊤ Full) → Pushed page key value r next → PushedOn r
  pushed-on r p = record { formed = formed-pushed r p; pages = pages-pushed r p; stays = stays r p; crowd = crowded r p }

-- JOINING A UNIT
-- a page of its own where the last has no room, and then its entry: that is the unit joined
pub joined-one : (e : Entry) (ps : List Page) → on_last e (cond (ltb (spare ps) (taken e)) (ps ++ ([] ∷ [])) ps) ≡ join_on taken 4088 (e ∷ []) ps
unfolding spare on_last join_on weigh
joined-one e [] = rw (lt-ltb 0 (taken e) (omega arith)) refl
joined-one e (p ∷ []) =
    elim (cases_lt (4088 - weigh taken p) (taken e)) [
      | inl h ↦ let full : leb (weigh taken p + (taken e + 0)) 4088 ≡ false = lt-leb (weigh taken p + (taken e + 0)) 4088 (omega arith) in rw (lt-ltb (4088 - weigh taken p) (taken e) h, full) refl
      | inr h ↦ let fits : leb (weigh taken p + (taken e + 0)) 4088 ≡ true = le-leb (weigh taken p + (taken e + 0)) 4088 (omega arith) in rw (le-ltb (4088 - weigh taken p) (taken e) h, fits) refl
    ]
joined-one e (p ∷ q ∷ ps) = behind (ltb (spare (q ∷ ps)) (taken e)) ∙ ap (λ x. p ∷ x) (joined-one e (q ∷ ps))
  where
    behind : (t : Bool) → on_last e (cond t (p ∷ q ∷ (ps ++ ([] ∷ []))) (p ∷ q ∷ ps)) ≡ p ∷ on_last e (cond t (q ∷ (ps ++ ([] ∷ []))) (q ∷ ps))
    behind true = refl
    behind false = refl

pub spare-none : spare [] ≡ 0
unfolding spare
spare-none = refl

pub spare-some : (ps : List Page) → 0 < spare ps → 0 < length ps
unfolding spare
spare-some [] h = h
spare-some (p ∷ ps) h = omega arith

pub length-on-last : (e : Entry) (ps : List Page) → length (on_last e ps) ≡ length ps
unfolding on_last
length-on-last e [] = refl
length-on-last e (p ∷ []) = refl
length-on-last e (p ∷ q ∷ ps) = ap suc (length-on-last e (q ∷ ps))

no-weight : weigh taken [] ≡ 0
unfolding weigh
no-weight = refl

-- what was reserved is there
spare-reserved : (ps : List Page) (w : ℕ) → w ≤ 4088 → w ≤ spare (cond (ltb (spare ps) w) (ps ++ ([] ∷ [])) ps)
spare-reserved ps w h = go (cases_lt (spare ps) w)
  where
    go : (spare ps < w) ⊎ (w ≤ spare ps) → w ≤ spare (cond (ltb (spare ps) w) (ps ++ ([] ∷ [])) ps)
    go (inl l) = rw (lt-ltb (spare ps) w l) (let e = spare-last ps [] in let z = no-weight in omega arith)
    go (inr l) = rw (le-ltb (spare ps) w l) l

-- the entry was pushed after so much was reserved, so there was room for it
module _ (ps qs rs : List Page) (e : Entry) (r : Bool) (small : taken e ≤ 4088) (reserved : qs ≡ cond (ltb (spare ps) (taken e)) (ps ++ ([] ∷ [])) ps) (pushed : rs ≡ cond r (on_last e qs) qs) (crowd : r ≡ false → spare qs < taken e) where
  pub was-pushed : r ≡ true
  was-pushed = go r refl
    where
      go : (t : Bool) → r ≡ t → t ≡ true
      go true z = refl
      go false z = let a = crowd z in let b = spare-reserved ps (taken e) small in let d = ap spare reserved in absurd (omega arith)

  pub joined_by : rs ≡ join_on taken 4088 (e ∷ []) ps
  joined_by = pushed ∙ ap (λ t. cond t (on_last e qs) qs) was-pushed ∙ ap (on_last e) reserved ∙ joined-one e ps

pub joined-ok : (m : Made) (q : Page) (r : Result ⊤ Full) (k : Made) → is_ok r ≡ true → Remade m (join_on taken 4088 q m.pages) k → JoinedBy m q r k
joined-ok m q (Ok u) k t e = e
joined-ok m q (Err f) k t e = cc

-- PUSHING ENTRIES ONE AFTER ANOTHER
-- an entry takes its weight of what the last page has to spare
pub spare-pushed : (ps : List Page) (e : Entry) → 0 < length ps → spare (on_last e ps) ≡ spare ps - taken e
unfolding spare on_last weigh
spare-pushed [] e h = absurd (omega arith)
spare-pushed (p ∷ []) e h = let w = weigh-append taken p (e ∷ []) in omega arith
spare-pushed (p ∷ q ∷ []) e h = spare-pushed (q ∷ []) e (omega arith)
spare-pushed (p ∷ q ∷ r ∷ ps) e h = spare-pushed (q ∷ r ∷ ps) e (omega arith)

-- one entry more of a part of a page
module _ (page : List ℕ) (i to : ℕ) (h : i < to) where
  pub from_step : entries_from page i (to - i) ≡ entry_at page i ∷ entries_from page (i + 1) (to - (i + 1))
  unfolding entries_from
  from_step = let e : to - i ≡ suc (to - (i + 1)) = omega arith in ap (entries_from page i) e

  pub from-weighs : weigh taken (entries_from page i (to - i)) ≡ taken (entry_at page i) + weigh taken (entries_from page (i + 1) (to - (i + 1)))
  unfolding weigh
  from-weighs = ap (weigh taken) from_step

  pub from-pushed : (ps : List Page) → on_last_all (entries_from page i (to - i)) ps ≡ on_last_all (entries_from page (i + 1) (to - (i + 1))) (on_last (entry_at page i) ps)
  unfolding on_last_all
  from-pushed ps = ap (λ es. on_last_all es ps) from_step

pub from-done : (page : List ℕ) (i to : ℕ) (ps : List Page) → to ≤ i → on_last_all (entries_from page i (to - i)) ps ≡ ps
unfolding on_last_all entries_from
from-done page i to ps h = let e : to - i ≡ 0 = omega arith in ap (λ d. on_last_all (entries_from page i d) ps) e

-- JOINING A PAGE
on-last-all : (es : List Entry) (ps : List Page) (p : Page) → on_last_all es (ps ++ (p ∷ [])) ≡ ps ++ ((p ++ es) ∷ [])
unfolding on_last_all
on-last-all [] ps p = ap (λ q. ps ++ (q ∷ [])) (sym (append-nil p))
on-last-all (e ∷ es) ps p = ap (on_last_all es) (on-last e ps p) ∙ on-last-all es ps (p ++ (e ∷ [])) ∙ ap (λ q. ps ++ (q ∷ [])) (append_assoc p (e ∷ []) es)

-- pages before the last stay
all-behind : (es : List Entry) (p : Page) (ps : List Page) → 0 < length ps → on_last_all es (p ∷ ps) ≡ p ∷ on_last_all es ps
unfolding on_last_all on_last
all-behind [] p ps h = refl
all-behind (e ∷ es) p [] h = absurd (omega arith)
all-behind (e ∷ es) p (q ∷ []) h = all-behind es p ((q ++ (e ∷ [])) ∷ []) (omega arith)
all-behind (e ∷ es) p (q ∷ r ∷ ps) h = all-behind es p (q ∷ on_last e (r ∷ ps)) (omega arith)

-- a page of its own where the last has no room, and then all its entries: that is the unit joined
joined-all : (es : List Entry) (ps : List Page) → 0 < weigh taken es → on_last_all es (cond (ltb (spare ps) (weigh taken es)) (ps ++ ([] ∷ [])) ps) ≡ join_on taken 4088 es ps
unfolding spare join_on
joined-all es [] h = rw (lt-ltb 0 (weigh taken es) h) (on-last-all es [] [])
joined-all es (p ∷ []) h =
    elim (cases_lt (4088 - weigh taken p) (weigh taken es)) [
      | inl l ↦ let full : leb (weigh taken p + weigh taken es) 4088 ≡ false = lt-leb (weigh taken p + weigh taken es) 4088 (omega arith) in rw (lt-ltb (4088 - weigh taken p) (weigh taken es) l, full) (on-last-all es (p ∷ []) [])
      | inr l ↦ let fits : leb (weigh taken p + weigh taken es) 4088 ≡ true = le-leb (weigh taken p + weigh taken es) 4088 (omega arith) in rw (le-ltb (4088 - weigh taken p) (weigh taken es) l, fits) (on-last-all es [] p)
    ]
joined-all es (p ∷ q ∷ ps) h = behind (ltb (spare (q ∷ ps)) (weigh taken es)) ∙ ap (λ x. p ∷ x) (joined-all es (q ∷ ps) h)
  where
    behind : (t : Bool) → on_last_all es (cond t (p ∷ q ∷ (ps ++ ([] ∷ []))) (p ∷ q ∷ ps)) ≡ p ∷ on_last_all es (cond t (q ∷ (ps ++ ([] ∷ []))) (q ∷ ps))
    behind true = all-behind es p (q ∷ (ps ++ ([] ∷ []))) (omega arith)
    behind false = all-behind es p (q ∷ ps) (omega arith)

-- a formed page with entries: they weigh something, and no more than a page holds
module _ (page : List ℕ) (f : Formed page (count_in page)) (some : 0 < count_in page) where
  pub weighs-some : 0 < weigh taken (entries_in page)
  weighs-some = let w = weighs page f in omega arith

  pub weighs-fits : weigh taken (entries_in page) ≤ 4088
  weighs-fits = let w = weighs page f in let a = f.apart in omega (arith, start-least page (count_in page) (count_in page) f (omega arith))

  -- there is a page with room for them once that was reserved, and pushing them joins them
  module _ (ps : List Page) where
    abbrev readied : List Page
    readied = cond (ltb (spare ps) (weigh taken (entries_in page))) (ps ++ ([] ∷ [])) ps

    pub readied-spare : weigh taken (entries_in page) ≤ spare readied
    readied-spare = spare-reserved ps (weigh taken (entries_in page)) weighs-fits

    pub readied-joined : on_last_all (entries_in page) readied ≡ join_on taken 4088 (entries_in page) ps
    readied-joined = joined-all (entries_in page) ps weighs-some
