-- Looking for a key, level by level.
use Rattle.std.proofs.Common.{◌≡◌, ℕ, ◌<◌, Bool, true, false, cond, List, [], ◌∷◌, ◌++◌, length, sym, refl, ap, ◌∙◌, subst, append_assoc, arith}
use mathlib.Core.List.{nil≢cons, head-eq_of_cons-eq, tail-eq_of_cons-eq}
use Rattle.std.specs.List.{AllByRecursion as All}
use Rattle.meaning.specs.Value.{less_bytes}
use Rattle.tree.specs.Entries.{Entry, first_key, Reply, Nothing, Found, first_from, last_before, Above, Under, From, Rising}
use Rattle.tree.specs.Pages.{Page, concat}
use Rattle.tree.specs.Tree.{Node, head, heads, pages, entries}
use Rattle.tree.specs.Look.{lead, either, Over, NotUnder, Reached, first_of, or_else}
use Rattle.tree.specs.Laws.{AtStep, UnderStep, BelongsParts, FirstFound, LastFound, NoneFound, SameLead}
use Rattle.octets.proofs.Order.{less-trans, less-asym, from_less}
use Rattle.tree.proofs.Joins.{concat-append}
use Rattle.tree.proofs.Edits.{under-under}
use Rattle.tree.proofs.Spread.{rising-right, under_first}
use Rattle.tree.proofs.Rise.{pages-append}

-- a level cut where its heads are
pub split : (ns : List Node) (a : List Entry) (x : Entry) (c : List Entry) → heads ns ≡ a ++ (x ∷ c) → (pre : List Node) × (n : Node) × (post : List Node) × (ns ≡ pre ++ (n ∷ post)) × (heads pre ≡ a) × (head n ≡ x) × (heads post ≡ c)
unfolding heads
split [] [] x c e = absurd (nil≢cons e)
split [] (y ∷ a) x c e = absurd (nil≢cons e)
split (n ∷ ns) [] x c e = ([], n, ns, refl, refl, head-eq_of_cons-eq e, tail-eq_of_cons-eq e)
split (n ∷ ns) (y ∷ a) x c e =
    let s = split ns a x c (tail-eq_of_cons-eq e) in
    (n ∷ s.0, s.1, s.2, ap (λ z. n ∷ z) s.3, λ i. head-eq_of_cons-eq e i ∷ s.4 i, s.5, s.6)

-- the entries of a level around one page, and around one of its entries
pub around : (pre : List Node) (n : Node) (post : List Node) → entries (pre ++ (n ∷ post)) ≡ entries pre ++ (n.items ++ entries post)
unfolding pages concat
around pre n post = ap concat (pages-append pre (n ∷ post)) ∙ concat-append (pages pre) (n.items ∷ pages post)

around-entry : (pre : List Node) (n : Node) (post : List Node) (a : List Entry) (x : Entry) (c : List Entry) → n.items ≡ a ++ (x ∷ c) → entries (pre ++ (n ∷ post)) ≡ (entries pre ++ a) ++ (x ∷ (c ++ entries post))
around-entry pre n post a x c e =
    around pre n post ∙ ap (λ z. entries pre ++ (z ++ entries post)) e ∙ ap (λ z. entries pre ++ z) (append_assoc a (x ∷ c) (entries post)) ∙ sym (append_assoc (entries pre) a (x ∷ (c ++ entries post)))

-- first keys
lead-page : (p : Page) (ys : List Entry) → 0 < length p → lead (p ++ ys) ≡ first_key p ∷ []
unfolding lead first_key
lead-page [] ys h = absurd (omega arith)
lead-page (x ∷ p) ys h = refl

pub lead-heads : (ns : List Node) → All (λ (p : Page). 0 < length p) (pages ns) → lead (entries ns) ≡ lead (heads ns)
unfolding pages heads concat
lead-heads [] h = refl
lead-heads (n ∷ ns) h = lead-page n.items (entries ns) h.0 ∙ (unfold lead in refl)

lead-either : (c ys : List Entry) → lead (c ++ ys) ≡ either (lead c) (lead ys)
unfolding lead either
lead-either [] ys = refl
lead-either (x ∷ c) ys = refl

over-either : (k : List ℕ) (xs ys : List (List ℕ)) → Over k xs → Over k ys → Over k (either xs ys)
unfolding either
over-either k [] ys h g = g
over-either k (x ∷ xs) ys h g = h

not-under-either : (k : List ℕ) (xs ys : List (List ℕ)) → NotUnder k xs → NotUnder k ys → NotUnder k (either xs ys)
unfolding either
not-under-either k [] ys h g = g
not-under-either k (x ∷ xs) ys h g = h

next-lead : (c : List Entry) (post post' : List Node) → All (λ (p : Page). 0 < length p) (pages post) → heads post' ≡ c ++ entries post → lead (heads post') ≡ either (lead c) (lead (heads post))
next-lead c post post' h e = ap lead e ∙ lead-either c (entries post) ∙ ap (either (lead c)) (lead-heads post h)

-- what is reached below: the first entry of a page stands for the page
reach : (k : List ℕ) (pre : List Node) (f : List ℕ) (a : List Entry) (x : Entry) (c : List Entry) (pre' : List Node) → heads pre' ≡ entries pre ++ a → f ≡ first_key (a ++ (x ∷ c)) → Reached pre f k → Reached a x.key k → Reached pre' x.key k
unfolding heads
reach k pre f a x c [] e g r s = tt
reach k pre f (y ∷ a) x c (n ∷ pre') e g r s = s
reach k [] f [] x c (n ∷ pre') e g r s = unfold pages concat in absurd (nil≢cons (sym e))
reach k (m ∷ pre) f [] x c (n ∷ pre') e g r s = unfold first_key in subst (λ z. less_bytes k z ≡ false) g r

pub at-step : AtStep
at-step k below pre n post a x c h e g b d =
    let s = split below (entries pre ++ a) x (c ++ entries post) (sym e ∙ around-entry pre n post a x c g) in
    let l = next-lead c post s.2 h s.6 in
    let f : first_key s.1.items ≡ x.key = ap (λ (z : Entry). z.key) s.5 in
    record {
      before = s.0;
      here = s.1;
      after = s.2;
      whole = s.3;
      named = s.5;
      holds = ((subst (λ z. Reached s.0 z k) (sym f) (reach k pre (first_key n.items) a x c s.0 s.4 (ap first_key g) b.0 d.0), subst (Over k) (sym l) (over-either k (lead c) (lead (heads post)) d.1 b.1)), l);
    }

pub under-step : UnderStep
under-step k below pre n post a x c h e g b d =
    let s = split below (entries pre ++ a) x (c ++ entries post) (sym e ∙ around-entry pre n post a x c g) in
    let l = next-lead c post s.2 h s.6 in
    let f : first_key s.1.items ≡ x.key = ap (λ (z : Entry). z.key) s.5 in
    record {
      before = s.0;
      here = s.1;
      after = s.2;
      whole = s.3;
      named = s.5;
      holds = (subst (λ z. less_bytes z k ≡ true) (sym f) d.0, subst (NotUnder k) (sym l) (not-under-either k (lead c) (lead (heads post)) d.1 b.1));
    }

-- before and after the page that is reached
lead-above : (k : List ℕ) (xs : List Entry) → Rising xs → Over k (lead xs) → Above k xs
unfolding lead
lead-above k [] r h = tt
lead-above k (x ∷ xs) r h = (h, go xs r.0)
  where
    go : (ys : List Entry) → Above x.key ys → Above k ys
    go [] a = tt
    go (y ∷ ys) a = (less-trans k x.key y.key h a.0, go ys a.1)

lead-from : (k : List ℕ) (xs : List Entry) → Rising xs → NotUnder k (lead xs) → From k xs
unfolding lead
lead-from k [] r h = tt
lead-from k (x ∷ xs) r h = (h, go xs r.0)
  where
    go : (ys : List Entry) → Above x.key ys → From k ys
    go [] a = tt
    go (y ∷ ys) a = (less-asym k y.key (from_less k x.key y.key h a.0), go ys a.1)

pub some-last : (pre : List Node) (n : Node) (post : List Node) → All (λ (p : Page). 0 < length p) (pages (pre ++ (n ∷ post))) → All (λ (p : Page). 0 < length p) (n.items ∷ pages post)
unfolding pages
some-last [] n post h = h
some-last (m ∷ pre) n post h = some-last pre n post h.1

pub belongs-parts : BelongsParts
belongs-parts k pre n post h r b =
    let s = some-last pre n post h in
    let r₁ : Rising (entries pre ++ (n.items ++ entries post)) = subst Rising (around pre n post) r in
    let r₂ = rising-right n.items (entries post) (rising-right (entries pre) (n.items ++ entries post) r₁) in
    (low pre b.0 (under_first (entries pre) n.items (entries post) s.0 r₁), lead-above k (entries post) r₂ (subst (Over k) (sym (lead-heads post s.1)) b.1))
  where
    low : (pre : List Node) → Reached pre (first_key n.items) k → Under (first_key n.items) (entries pre) → Under k (entries pre)
    low [] g u = unfold pages concat in tt
    low (m ∷ pre) g u = under-under k (first_key n.items) (entries (m ∷ pre)) g u

-- the first from k on
first_under : (k : List ℕ) (a xs : List Entry) → Under k a → first_from k (a ++ xs) ≡ first_from k xs
unfolding first_from
first_under k [] xs h = refl
first_under k (x ∷ a) xs h = ap (λ t. cond t (first_from k (a ++ xs)) (Found x)) h.0 ∙ first_under k a xs h.1

first_above : (k : List ℕ) (b : List Entry) → Above k b → first_from k b ≡ first_of b
unfolding first_from first_of
first_above k [] h = refl
first_above k (y ∷ b) h = ap (λ t. cond t (first_from k b) (Found y)) (less-asym k y.key h.0)

first-cond : (t : Bool) (x : Entry) (u v r : Reply) → u ≡ or_else v r → cond t u (Found x) ≡ or_else (cond t v (Found x)) r
unfolding or_else
first-cond true x u v r h = h
first-cond false x u v r h = refl

first-parts : (k : List ℕ) (m b : List Entry) → Above k b → first_from k (m ++ b) ≡ or_else (first_from k m) (first_of b)
unfolding first_from or_else
first-parts k [] b h = first_above k b h
first-parts k (x ∷ m) b h = first-cond (less_bytes x.key k) x (first_from k (m ++ b)) (first_from k m) (first_of b) (first-parts k m b h)

pub first_found : FirstFound
first_found k pre n post h r b =
    let p = belongs-parts k pre n post h r b in
    ap (first_from k) (around pre n post) ∙ first_under k (entries pre) (n.items ++ entries post) p.0 ∙ first-parts k n.items (entries post) p.1

-- the last before k
last_none : (k : List ℕ) (b : List Entry) (r : Reply) → NotUnder k (lead b) → last_before k b r ≡ r
unfolding last_before lead
last_none k [] r h = refl
last_none k (y ∷ b) r h = ap (λ t. cond t (last_before k b (Found y)) r) h

last-cond : (t : Bool) (u v r : Reply) → u ≡ v → cond t u r ≡ cond t v r
last-cond t u v r h = ap (λ z. cond t z r) h

last-from : (k : List ℕ) (m b : List Entry) (r : Reply) → NotUnder k (lead b) → last_before k (m ++ b) r ≡ last_before k m r
unfolding last_before
last-from k [] b r h = last_none k b r h
last-from k (x ∷ m) b r h = last-cond (less_bytes x.key k) (last_before k (m ++ b) (Found x)) (last_before k m (Found x)) r (last-from k m b (Found x) h)

last_under : (k : List ℕ) (a xs : List Entry) (r s : Reply) → Under k a → last_before k xs r ≡ last_before k xs s → ((q r : Reply) → last_before k xs q ≡ last_before k xs r) → last_before k (a ++ xs) r ≡ last_before k xs s
unfolding last_before
last_under k [] xs r s h e g = e
last_under k (x ∷ a) xs r s h e g = ap (λ t. cond t (last_before k (a ++ xs) (Found x)) r) h.0 ∙ last_under k a xs (Found x) s h.1 (g (Found x) s) g

last-any : (k : List ℕ) (p ys : List Entry) → 0 < length p → less_bytes (first_key p) k ≡ true → (q r : Reply) → last_before k (p ++ ys) q ≡ last_before k (p ++ ys) r
unfolding last_before first_key
last-any k [] ys l h q r = absurd (omega arith)
last-any k (x ∷ p) ys l h q r = ap (λ t. cond t (last_before k (p ++ ys) (Found x)) q) h ∙ sym (ap (λ t. cond t (last_before k (p ++ ys) (Found x)) r) h)

pub last_found : LastFound
last_found k pre n post h r b =
    let s = some-last pre n post h in
    let r₁ : Rising (entries pre ++ (n.items ++ entries post)) = subst Rising (around pre n post) r in
    let u : Under (first_key n.items) (entries pre) = under_first (entries pre) n.items (entries post) s.0 r₁ in
    ap (λ z. last_before k z Nothing) (around pre n post)
    ∙ last_under k (entries pre) (n.items ++ entries post) Nothing Nothing (under-under k (first_key n.items) (entries pre) (less-asym (first_key n.items) k b.0) u) refl (last-any k n.items (entries post) s.0 b.0)
    ∙ last-from k n.items (entries post) Nothing (subst (NotUnder k) (sym (lead-heads post s.1)) b.1)

pub none_found : NoneFound
none_found k xs h = last_none k xs Nothing h

pub same-lead : SameLead
same-lead below ns h e = ap lead e ∙ sym (lead-heads below h)
