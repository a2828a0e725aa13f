-- The pager's state, the frames and the pages: what they have to do with each other, and what a change of a frame does to that. No device is in here.
use Rattle.std.proofs.Common.{◌≡◌, ℕ, zero, suc, ◌+◌, ◌<◌, ◌≤◌, Bool, true, false, cond, not, ◌&&◌, eqb, List, [], ◌∷◌, length, sym, refl, ap, ◌∙◌, arith, eq-eqb, ne_eqb, eqb-true}
use Rattle.std.proofs.lemmas.Bool.{and_parts, not-true, true≢false}
use Rattle.std.proofs.lemmas.Grind.{common_steps}
use Rattle.device.specs.Device.{zeros}
use Rattle.octets.specs.Parts.{blank}
use Rattle.shadow.specs.Layout.{blank_page, updated, count}
use Rattle.shadow.proofs.Count.{count-lt, count-le}
use Rattle.pager.specs.Model.{Held, undone, committed, changed, cleared, Crowded}
use Rattle.pages.specs.Layer.{frame_of}
use Rattle.pages.specs.Model.{Pages, put_page, keep, drop}

-- a blank page is all zeros
pub blank-is : (l : List ℕ) → blank l ≡ true → l ≡ zeros (length l)
unfolding zeros
blank-is [] e = refl
blank-is (x ∷ l) e =
    let (a, b) = and_parts (eqb x 0) (blank l) e in
    ap (λ t. t ∷ l) (eqb-true x 0 a) ∙ ap (λ t. 0 ∷ t) (blank-is l b)

pub length-zeros : (n : ℕ) → length (zeros n) ≡ n
unfolding zeros
length-zeros zero = refl
length-zeros (suc n) = ap suc (length-zeros n)

-- one page is another
pub at_same : {A : Type 0} (p q : ℕ) (v : A) (f : ℕ → A) → q ≡ p → updated p v f q ≡ v
at_same p q v f e = ap (λ c. cond c v (f q)) (eq-eqb q p e)

pub at_other : {A : Type 0} (p q : ℕ) (v : A) (f : ℕ → A) → (q ≡ p → ⊥) → updated p v f q ≡ f q
at_other p q v f e = ap (λ c. cond c v (f q)) (ne_eqb q p e)

module _ (N : ℕ) where
  -- what the pager's state says of the pages, but for what they hold now
  pub record Core (s : Held) (t : Pages) : Type 0 where
    pub base : (p : ℕ) → p < N → s.base p ≡ t.base p
    pub live : (p : ℕ) → p < N → s.live p ≡ not (blank (t.base p))
    pub has : (p : ℕ) → p < N → s.has p ≡ not (blank (t.now p))
    pub given : (p : ℕ) → p < N → s.given p ≡ t.fresh p && not (blank (t.now p))
    pub long : (p : ℕ) → p < N → length (t.now p) ≡ 4096
    pub long_base : (p : ℕ) → p < N → length (t.base p) ≡ 4096

  -- the frames: tags, flags, bytes; but for pages in E
  pub record Cache (E : ℕ → Type 0) (g : ℕ → ℕ) (z : ℕ → Bool) (r : ℕ → List ℕ) (s : Held) (t : Pages) : Type 0 where
    pub inside : (f q : ℕ) → g f ≡ q + 1 → (q < N) × (frame_of q ≡ f)
    pub tagged : (f : ℕ) → z f ≡ true → 1 ≤ g f
    pub holds : (p : ℕ) → p < N → (E p → ⊥) → g (frame_of p) ≡ p + 1 → r (frame_of p) ≡ t.now p
    pub own : (p : ℕ) → p < N → (E p → ⊥) → g (frame_of p) ≡ p + 1 → z (frame_of p) ≡ true → s.given p ≡ true
    pub cold : (p : ℕ) → p < N → (E p → ⊥) → (g (frame_of p) ≡ p + 1 → z (frame_of p) ≡ true → ⊥) → s.now p ≡ t.now p

  abbrev pub NoPage : ℕ → Type 0
  NoPage p = ⊥

  -- the page p is another one, for the pager and as it is to be: the frames stand but for p
  pub record Only (p : ℕ) (s s' : Held) (t t' : Pages) : Type 0 where
    pub given : (q : ℕ) → (q ≡ p → ⊥) → s'.given q ≡ s.given q
    pub below : (q : ℕ) → (q ≡ p → ⊥) → s'.now q ≡ s.now q
    pub above : (q : ℕ) → (q ≡ p → ⊥) → t'.now q ≡ t.now q

  pub cache-but : (p : ℕ) (g : ℕ → ℕ) (z : ℕ → Bool) (r : ℕ → List ℕ) (s s' : Held) (t t' : Pages) → Only p s s' t t' → Cache NoPage g z r s t → Cache (λ q. q ≡ p) g z r s' t'
  cache-but p g z r s s' t t' o h = record {
    inside = h.inside;
    tagged = h.tagged;
    holds = λ q l n e. h.holds q l (λ x. x) e ∙ sym (o.above q n);
    own = λ q l n e k. o.given q n ∙ h.own q l (λ x. x) e k;
    cold = λ q l n e. o.below q n ∙ h.cold q l (λ x. x) e ∙ sym (o.above q n);
  }

  -- A FRAME IS ANOTHER PAGE'S, or nobody's: of the frame f of page p
  module _ (p : ℕ) (i : p < N) (g g' : ℕ → ℕ) (z z' : ℕ → Bool) (r r' : ℕ → List ℕ) (s : Held) (t : Pages)
      (tags : (f : ℕ) → (f ≡ frame_of p → ⊥) → g' f ≡ g f) (flags : (f : ℕ) → (f ≡ frame_of p → ⊥) → z' f ≡ z f) (rows : (f : ℕ) → (f ≡ frame_of p → ⊥) → r' f ≡ r f) where
    -- it is page p's, with what that is to be
    module _ (tag : g' (frame_of p) ≡ p + 1) (bytes : r' (frame_of p) ≡ t.now p) (own : z' (frame_of p) ≡ true → s.given p ≡ true) (same : z' (frame_of p) ≡ false → s.now p ≡ t.now p)
        (old : z (frame_of p) ≡ true → g (frame_of p) ≡ p + 1) (h : Cache (λ q. q ≡ p) g z r s t) where
      pub cache-fill : Cache NoPage g' z' r' s t
      cache-fill = record {
        inside = λ f q e. grind (arith, common_steps, tags f, h.inside f q, e);
        tagged = λ f e. grind (arith, common_steps, tags f, flags f, h.tagged f, e);
        holds = λ q l n e. grind (arith, common_steps, tags (frame_of q), rows (frame_of q), h.holds q l, e);
        own = λ q l n e d. grind (arith, common_steps, tags (frame_of q), flags (frame_of q), h.own q l, own, e, d);
        cold = λ q l n e. grind (arith, common_steps, tags (frame_of q), flags (frame_of q), h.cold q l, same, old, e);
      }

  -- the frame of p is nobody's, and the pager has page p as it is to be
  module _ (p : ℕ) (g g' : ℕ → ℕ) (z z' : ℕ → Bool) (r r' : ℕ → List ℕ) (s : Held) (t : Pages)
      (tags : (f : ℕ) → (f ≡ frame_of p → ⊥) → g' f ≡ g f) (flags : (f : ℕ) → (f ≡ frame_of p → ⊥) → z' f ≡ z f) (rows : (f : ℕ) → (f ≡ frame_of p → ⊥) → r' f ≡ r f)
      (tag : g' (frame_of p) ≡ 0) (flag : z' (frame_of p) ≡ false) (same : p < N → s.now p ≡ t.now p) (old : z (frame_of p) ≡ true → g (frame_of p) ≡ p + 1) (h : Cache (λ q. q ≡ p) g z r s t) where
    apart : (q : ℕ) → g' (frame_of q) ≡ q + 1 → frame_of q ≡ frame_of p → ⊥
    apart q e y = let u : g' (frame_of q) ≡ 0 = ap g' y ∙ tag in omega arith

    pub cache-leave : Cache NoPage g' z' r' s t
    cache-leave = record {
      inside = λ f q e. grind (arith, common_steps, tags f, h.inside f q, e);
      tagged = λ f e. grind (arith, common_steps, tags f, flags f, h.tagged f, e);
      holds = λ q l n e. rows (frame_of q) (apart q e) ∙ h.holds q l (λ y. apart q e (ap frame_of y)) (sym (tags (frame_of q) (apart q e)) ∙ e);
      own = λ q l n e d. h.own q l (λ y. apart q e (ap frame_of y)) (sym (tags (frame_of q) (apart q e)) ∙ e) (sym (flags (frame_of q) (apart q e)) ∙ d);
      cold = λ q l n e. grind (arith, common_steps, tags (frame_of q), flags (frame_of q), h.cold q l, same, old, e);
    }

  -- a page that is in no frame, and that the pager has
  pub cache-plain : (p : ℕ) (g : ℕ → ℕ) (z : ℕ → Bool) (r : ℕ → List ℕ) (s : Held) (t : Pages) → (g (frame_of p) ≡ p + 1 → ⊥) → (p < N → s.now p ≡ t.now p) → Cache (λ q. q ≡ p) g z r s t → Cache NoPage g z r s t
  cache-plain p g z r s t n same h = record {
    inside = h.inside;
    tagged = h.tagged;
    holds = λ q l _ e. grind (arith, common_steps, h.holds q l, n, e);
    own = λ q l _ e d. grind (arith, common_steps, h.own q l, n, e, d);
    cold = λ q l _ e. grind (arith, common_steps, h.cold q l, same, e);
  }

  pub cache-weak : (p : ℕ) (g : ℕ → ℕ) (z : ℕ → Bool) (r : ℕ → List ℕ) (s : Held) (t : Pages) → Cache NoPage g z r s t → Cache (λ q. q ≡ p) g z r s t
  cache-weak p g z r s t h = cache-but p g z r s s t t (record { given = λ q n. refl; below = λ q n. refl; above = λ q n. refl }) h

  -- A FRAME IS WRITTEN BACK: the frame f, which has page q
  module _ (E : ℕ → Type 0) (g : ℕ → ℕ) (z z' : ℕ → Bool) (r : ℕ → List ℕ) (s : Held) (t : Pages) (f q : ℕ) (tag : g f ≡ q + 1) (stale : z f ≡ true) (but : E q → ⊥)
      (flag : z' f ≡ false) (flags : (k : ℕ) → (k ≡ f → ⊥) → z' k ≡ z k) (h : Cache E g z r s t) where
    wrote-in : (q < N) × (frame_of q ≡ f)
    wrote-in = h.inside f q tag

    pub wrote-holds : r f ≡ t.now q
    wrote-holds = let (l, e) = wrote-in in ap r (sym e) ∙ h.holds q l but (ap g e ∙ tag)

    pub wrote-own : s.given q ≡ true
    wrote-own = let (l, e) = wrote-in in h.own q l but (ap g e ∙ tag) (ap z e ∙ stale)

    pub cache-wrote : Cache E g z' r (changed q (r f) s) t
    cache-wrote = record {
      inside = h.inside;
      tagged = λ k e. grind (arith, common_steps, h.tagged k, flags k, e);
      holds = h.holds;
      own = λ p l n e d. grind (arith, common_steps, h.own p l n e, flags (frame_of p), d);
      cold = λ p l n e. grind (arith, common_steps, h.cold p l n, flags (frame_of p), wrote-holds, e);
    }

  -- a page that has a slot of its own is not blank
  pub own-full : (s : Held) (t : Pages) (q : ℕ) → q < N → Core s t → s.given q ≡ true → blank (t.now q) ≡ false
  own-full s t q l h e = not-true (blank (t.now q)) (and_parts (t.fresh q) (not (blank (t.now q))) (sym (h.given q l) ∙ e)).1

  pub core-wrote : (s : Held) (t : Pages) (q : ℕ) (v : List ℕ) → q < N → Core s t → s.given q ≡ true → Core (changed q v s) t
  core-wrote s t q v l h e = record {
    base = h.base;
    live = h.live;
    has = λ p i. grind (arith, common_steps, h.has p i, own-full s t q l h e);
    given = λ p i. grind (arith, common_steps, h.given p i, e);
    long = h.long;
    long_base = h.long_base;
  }

  -- A PAGE IS PUT: with a slot of its own, and blank
  pub core-put : (s : Held) (t : Pages) (p : ℕ) (v w : List ℕ) → Core s t → length w ≡ 4096 → blank w ≡ false → Core (changed p v s) (put_page p w t)
  core-put s t p v w h n e = record {
    base = h.base;
    live = h.live;
    has = λ q i. grind (arith, common_steps, h.has q i);
    given = λ q i. grind (arith, common_steps, h.given q i);
    long = λ q i. grind (arith, common_steps, h.long q i);
    long_base = h.long_base;
  }

  -- rewritten in its frame: it has its slot
  pub core-again : (s : Held) (t : Pages) (p : ℕ) (w : List ℕ) → p < N → Core s t → length w ≡ 4096 → blank w ≡ false → s.given p ≡ true → Core s (put_page p w t)
  core-again s t p w l h n e o = record {
    base = h.base;
    live = h.live;
    has = λ q i. grind (arith, common_steps, h.has q i, own-full s t p l h o);
    given = λ q i. grind (arith, common_steps, h.given q i, o);
    long = λ q i. grind (arith, common_steps, h.long q i);
    long_base = h.long_base;
  }

  pub core-clear : (s : Held) (t : Pages) (p : ℕ) (w : List ℕ) → Core s t → length w ≡ 4096 → blank w ≡ true → Core (cleared p s) (put_page p w t)
  core-clear s t p w h n e = record {
    base = h.base;
    live = h.live;
    has = λ q i. grind (arith, common_steps, h.has q i);
    given = λ q i. grind (arith, common_steps, h.given q i);
    long = λ q i. grind (arith, common_steps, h.long q i);
    long_base = h.long_base;
  }

  pub blank-same : (w : List ℕ) → length w ≡ 4096 → blank w ≡ true → blank_page ≡ w
  blank-same w n e = sym (blank-is w e ∙ ap zeros n)

  -- COMMIT, UNDO, and what a cut leaves
  pub record Based (s : Held) (t : Pages) : Type 0 where
    pub base : (p : ℕ) → p < N → s.base p ≡ t.base p
    pub live : (p : ℕ) → p < N → s.live p ≡ not (blank (t.base p))
    pub long_base : (p : ℕ) → p < N → length (t.base p) ≡ 4096

  pub based : (s : Held) (t : Pages) → Core s t → Based s t
  based s t h = record { base = h.base; live = h.live; long_base = h.long_base }

  pub record Down (s : Held) (t : Pages) : Type 0 where
    pub core : Core s t
    pub same : (p : ℕ) → p < N → s.now p ≡ t.now p

  pub down-of : (s : Held) (t : Pages) → Based s t → Down (undone s) (drop t)
  down-of s t h = record {
    core = record { base = h.base; live = h.live; has = h.live; given = λ p l. refl; long = h.long_base; long_base = h.long_base };
    same = h.base;
  }

  pub cache-empty : (g : ℕ → ℕ) (z : ℕ → Bool) (r : ℕ → List ℕ) (s : Held) (t : Pages) → ((f : ℕ) → g f ≡ 0) → ((f : ℕ) → z f ≡ false) → Down s t → Cache NoPage g z r s t
  cache-empty g z r s t none clean h = record {
    inside = λ f q e. absurd (let u = none f in omega arith);
    tagged = λ f e. absurd (true≢false (sym e ∙ clean f));
    holds = λ p l _ e. absurd (let u = none (frame_of p) in omega arith);
    own = λ p l _ e. absurd (let u = none (frame_of p) in omega arith);
    cold = λ p l _ _. h.same p l;
  }

  pub clean-same : (g : ℕ → ℕ) (z : ℕ → Bool) (r : ℕ → List ℕ) (s : Held) (t : Pages) → ((f : ℕ) → f < 128 → z f ≡ false) → Cache NoPage g z r s t → (p : ℕ) → p < N → s.now p ≡ t.now p
  clean-same g z r s t clean h p l = h.cold p l (λ x. x) (λ e d. true≢false (sym d ∙ clean (frame_of p) (omega arith)))

  pub core-keep : (s : Held) (t : Pages) → Core s t → ((p : ℕ) → p < N → s.now p ≡ t.now p) → Core (committed s) (keep t)
  core-keep s t h e = record { base = e; live = h.has; has = h.has; given = λ p l. refl; long = h.long; long_base = h.long }

  pub cache-keep : (g : ℕ → ℕ) (z : ℕ → Bool) (r : ℕ → List ℕ) (s : Held) (t : Pages) → ((f : ℕ) → f < 128 → z f ≡ false) → Cache NoPage g z r s t → Cache NoPage g z r (committed s) (keep t)
  cache-keep g z r s t clean h = record {
    inside = h.inside;
    tagged = h.tagged;
    holds = h.holds;
    own = λ p l n e d. absurd (true≢false (sym d ∙ clean (frame_of p) (omega arith)));
    cold = h.cold;
  }

  -- NO ROOM: with the page that is put there is more to be kept than there are slots
  pub room : (S p : ℕ) (w : List ℕ) (s : Held) (t : Pages) → Crowded N S p s → blank w ≡ false → Core s t →
      S < count N (λ n. not (blank (t.base n))) + count N (λ n. (put_page p w t).fresh n && not (blank ((put_page p w t).now n)))
  room S p w s t x e h =
      let u = count-le N s.live (λ n. not (blank (t.base n))) (λ q l k. sym (h.live q l) ∙ k) in
      let v = count-lt N s.given (λ n. (put_page p w t).fresh n && not (blank ((put_page p w t).now n))) p (λ q l k. put-by q l k (eqb q p)) x.inside x.wants
      (ap (λ c. cond c true (t.fresh p) && not (blank (cond c w (t.now p)))) (eq-eqb p p refl) ∙ ap not e) in
      let y = x.taken in
      omega arith
    where
      put-by : (q : ℕ) → q < N → s.given q ≡ true → (b : Bool) → cond b true (t.fresh q) && not (blank (cond b w (t.now q))) ≡ true
      put-by q l k true = ap not e
      put-by q l k false = sym (h.given q l) ∙ k
