-- The committed pages, the present ones, and what writes, syncs and cuts do to them; maps are functions here.
use Rattle.std.proofs.Common.{◌≡◌, ℕ, ◌+◌, ◌*◌, ◌/◌, ◌%◌, ◌<◌, ◌≤◌, Bool, true, false, cond, eqb, leb, List, sym, refl, ap, ◌∙◌, inl, inr, arith, ne_eqb, eqb-true}
use borrow.Author.Tests.{eqb-false}
use Rattle.std.proofs.lemmas.Bool.{le-leb, leb-true, leb-false}
use Rattle.std.proofs.lemmas.Grind.{common_steps}
use Rattle.device.specs.Device.{Device, shown, written, synced, AfterCut}
use Rattle.device.proofs.Sectors.{Calm, shown-calm, shown-written, since-other, cut-calm}
use Rattle.shadow.specs.Layout.{other, area_at, slot_at, area_in, raw_in, entry_in, blank_page, page_in, updated, Free}
use Rattle.shadow.proofs.Pages.{shown-other, page-same, slot_apart}

pub area-low : (M : ℕ) (a : Bool) (i : ℕ) → i < M → (1 ≤ area_at M a i) × (area_at M a i ≤ 2 * M)
area-low M true i h = (omega arith, omega arith)
area-low M false i h = (omega arith, omega arith)

pub area-apart : (M : ℕ) (a : Bool) (i j : ℕ) → i < M → j < M → area_at M a i ≡ area_at M (other a) j → ⊥
area-apart M true i j h k e = omega arith
area-apart M false i j h k e = omega arith

pub area-one : (M : ℕ) (a : Bool) (i j : ℕ) → area_at M a i ≡ area_at M a j → i ≡ j
area-one M true i j e = omega arith
area-one M false i j e = omega arith

sector-of : (N M p : ℕ) → N ≤ 64 * M → p < N → p / 64 < M
sector-of N M p f h = omega arith

module _ (N M S : ℕ) (few : N ≤ 64 * M) where
  -- the area a names by b the slots that hold the pages P, and none of it was written since the last sync
  pub record Body (a : Bool) (b : ℕ → ℕ) (P : ℕ → List ℕ) (d : Device) : Type 0 where
    pub map : (p : ℕ) → p < N → entry_in S (d.kept (area_at M a (p / 64))) (p % 64) ≡ b p
    pub map_calm : (i : ℕ) → i < M → Calm d (area_at M a i)
    pub page : (p : ℕ) → p < N → page_in M d.kept (b p) ≡ P p
    pub page_calm : (p : ℕ) → p < N → 1 ≤ b p → (j : ℕ) → j < 8 → Calm d (slot_at M (b p) + j)
    pub fits : (p : ℕ) → p < N → b p ≤ S
    pub apart : (p q : ℕ) → p < N → q < N → b p ≡ b q → 1 ≤ b p → p ≡ q

  pub body-as : (a : Bool) (b c : ℕ → ℕ) (P : ℕ → List ℕ) (d : Device) → ((p : ℕ) → p < N → b p ≡ c p) → Body a b P d → Body a c P d
  body-as a b c P d e h = record {
    map = λ p l. h.map p l ∙ e p l;
    map_calm = h.map_calm;
    page = λ p l. ap (page_in M d.kept) (sym (e p l)) ∙ h.page p l;
    page_calm = λ p l. rw (e p l) at (h.page_calm p l);
    fits = λ p l. rw (e p l) at (h.fits p l);
    apart = λ p q l k z o. h.apart p q l k (e p l ∙ z ∙ sym (e q k)) (rw (e p l) o);
  }

  pub body-cut : (a : Bool) (b : ℕ → ℕ) (P : ℕ → List ℕ) (d f : Device) → AfterCut d f → Body a b P d → Body a b P f
  body-cut a b P d f x h = record {
    map = λ p l. ap (λ s. entry_in S s (p % 64)) (cut-calm d f (area_at M a (p / 64)) x (h.map_calm (p / 64) (sector-of N M p few l))) ∙ h.map p l;
    map_calm = λ i l. x.nothing (area_at M a i);
    page = λ p l. page-same M d.kept f.kept (b p) (λ j o i. cut-calm d f (slot_at M (b p) + j) x (h.page_calm p l o j i)) ∙ h.page p l;
    page_calm = λ p l o j i. x.nothing (slot_at M (b p) + j);
    fits = h.fits;
    apart = h.apart;
  }

  pub body-sync : (a : Bool) (b : ℕ → ℕ) (P : ℕ → List ℕ) (d : Device) → Body a b P d → Body a b P (synced d)
  body-sync a b P d h = record {
    map = λ p l. ap (λ s. entry_in S s (p % 64)) (shown-calm d (area_at M a (p / 64)) (h.map_calm (p / 64) (sector-of N M p few l))) ∙ h.map p l;
    map_calm = λ i l. refl;
    page = λ p l. page-same M d.kept (shown d) (b p) (λ j o i. shown-calm d (slot_at M (b p) + j) (h.page_calm p l o j i)) ∙ h.page p l;
    page_calm = λ p l o j i. refl;
    fits = h.fits;
    apart = h.apart;
  }

  -- a write elsewhere
  pub body-write : (a : Bool) (b : ℕ → ℕ) (P : ℕ → List ℕ) (d : Device) (x : ℕ) (v : List ℕ) →
      ((i : ℕ) → i < M → area_at M a i ≡ x → ⊥) → ((p : ℕ) → p < N → 1 ≤ b p → (j : ℕ) → j < 8 → slot_at M (b p) + j ≡ x → ⊥) → Body a b P d → Body a b P (written x v d)
  body-write a b P d x v m s h = record {
    map = h.map;
    map_calm = λ i l. since-other x (area_at M a i) v d (ne_eqb (area_at M a i) x (m i l)) ∙ h.map_calm i l;
    page = h.page;
    page_calm = λ p l o j i. since-other x (slot_at M (b p) + j) v d (ne_eqb (slot_at M (b p) + j) x (s p l o j i)) ∙ h.page_calm p l o j i;
    fits = h.fits;
    apart = h.apart;
  }

  -- the header names the area
  pub record Low (a : Bool) (b : ℕ → ℕ) (P : ℕ → List ℕ) (d : Device) : Type 0 where
    pub header : area_in (d.kept 0) ≡ a
    pub header_calm : Calm d 0
    pub body : Body a b P d

  pub low-cut : (a : Bool) (b : ℕ → ℕ) (P : ℕ → List ℕ) (d f : Device) → AfterCut d f → Low a b P d → Low a b P f
  low-cut a b P d f x h = record { header = ap area_in (cut-calm d f 0 x h.header_calm) ∙ h.header; header_calm = x.nothing 0; body = body-cut a b P d f x h.body }

  pub low-sync : (a : Bool) (b : ℕ → ℕ) (P : ℕ → List ℕ) (d : Device) → Low a b P d → Low a b P (synced d)
  low-sync a b P d h = record { header = ap area_in (shown-calm d 0 h.header_calm) ∙ h.header; header_calm = refl; body = body-sync a b P d h.body }

  -- a slot that the committed map does not name
  pub low-slot : (a : Bool) (b : ℕ → ℕ) (P : ℕ → List ℕ) (d : Device) (s i : ℕ) (v : List ℕ) → 1 ≤ s → i < 8 → ((p : ℕ) → p < N → b p ≡ s → ⊥) → Low a b P d → Low a b P (written (slot_at M s + i) v d)
  low-slot a b P d s i v o c n h = record {
    header = h.header;
    header_calm = since-other (slot_at M s + i) 0 v d (ne_eqb 0 (slot_at M s + i) (λ e. omega arith)) ∙ h.header_calm;
    body = body-write a b P d (slot_at M s + i) v (λ j l e. let (y, z) = area-low M a j l in omega arith) (λ p l k j q e. n p l (slot_apart M (b p) s j i k o q c e)) h.body;
  }

  -- a sector of the other area
  pub low-area : (a : Bool) (b : ℕ → ℕ) (P : ℕ → List ℕ) (d : Device) (j : ℕ) (v : List ℕ) → j < M → Low a b P d → Low a b P (written (area_at M (other a) j) v d)
  low-area a b P d j v k h = let (y, z) = area-low M (other a) j k in
      record {
        header = h.header;
        header_calm = since-other (area_at M (other a) j) 0 v d (ne_eqb 0 (area_at M (other a) j) (λ e. omega arith)) ∙ h.header_calm;
        body = body-write a b P d (area_at M (other a) j) v (λ i l e. area-apart M a i j l k e) (λ p l o i q e. omega arith) h.body;
      }

  -- the present map w, the owner o of each slot, the flags y of map sectors that were changed; Q the present pages
  pub record Above (b w o : ℕ → ℕ) (y : ℕ → Bool) (Q : ℕ → List ℕ) (d : Device) : Type 0 where
    pub page : (p : ℕ) → p < N → page_in M (shown d) (w p) ≡ Q p
    pub fits : (p : ℕ) → p < N → w p ≤ S
    pub back : (p : ℕ) → p < N → 1 ≤ b p → o (b p) ≡ p
    pub back_now : (p : ℕ) → p < N → 1 ≤ w p → o (w p) ≡ p
    pub dirty : (p : ℕ) → p < N → y (p / 64) ≡ false → w p ≡ b p

  -- from the map sector i on: where the flag h is down, the other area is as the active one
  abbrev pub Behind : ℕ → Bool → (ℕ → ℕ) → (ℕ → Bool) → Device → Type 0
  Behind i a b h d = (p : ℕ) → p < N → 64 * i ≤ p → h (p / 64) ≡ false → entry_in S (shown d (area_at M (other a) (p / 64))) (p % 64) ≡ b p

  -- below the map sector i the other area has the present map
  abbrev pub Filled : ℕ → Bool → (ℕ → ℕ) → Device → Type 0
  Filled i a w d = (p : ℕ) → p < N → p < 64 * i → entry_in S (shown d (area_at M (other a) (p / 64))) (p % 64) ≡ w p

  free_in : (b w o : ℕ → ℕ) (s q : ℕ) → q < N → Free (N) b w o s → o s ≡ q → (b q ≡ s → ⊥) × (w q ≡ s → ⊥)
  free_in b w o s q l (inl h) e = (λ _. omega arith, λ _. omega arith)
  free_in b w o s q l (inr h) e = (λ z. h.0 (ap b e ∙ z), λ z. h.1 (ap w e ∙ z))

  pub free-base : (b w o : ℕ → ℕ) (y : ℕ → Bool) (Q : ℕ → List ℕ) (d : Device) (s : ℕ) → 1 ≤ s → Above b w o y Q d → Free (N) b w o s → (q : ℕ) → q < N → b q ≡ s → ⊥
  free-base b w o y Q d s one h f q l e = (free_in b w o s q l f (ap o (sym e) ∙ h.back q l (omega arith))).0 e

  pub free-now : (b w o : ℕ → ℕ) (y : ℕ → Bool) (Q : ℕ → List ℕ) (d : Device) (s : ℕ) → 1 ≤ s → Above b w o y Q d → Free (N) b w o s → (q : ℕ) → q < N → w q ≡ s → ⊥
  free-now b w o y Q d s one h f q l e = (free_in b w o s q l f (ap o (sym e) ∙ h.back_now q l (omega arith))).1 e

  pub above-sync : (b w o : ℕ → ℕ) (y : ℕ → Bool) (Q : ℕ → List ℕ) (d : Device) → Above b w o y Q d → Above b w o y Q (synced d)
  above-sync b w o y Q d h = record { page = h.page; fits = h.fits; back = h.back; back_now = h.back_now; dirty = h.dirty }

  -- a write that no present page stands on
  pub above-write : (b w o : ℕ → ℕ) (y : ℕ → Bool) (Q : ℕ → List ℕ) (d : Device) (x : ℕ) (v : List ℕ) → x ≤ 2 * M → Above b w o y Q d → Above b w o y Q (written x v d)
  above-write b w o y Q d x v l h = record {
    page = λ p k. page-same M (shown d) (shown (written x v d)) (w p) (λ j one q. shown-other x (slot_at M (w p) + j) v d (λ e. omega arith)) ∙ h.page p k;
    fits = h.fits;
    back = h.back;
    back_now = h.back_now;
    dirty = h.dirty;
  }

  -- PUT: page p is given the slot s, or keeps it; `after` may show anything in that slot
  module _ (b w o w' o' : ℕ → ℕ) (y y' : ℕ → Bool) (Q : ℕ → List ℕ) (d after : Device) (p s : ℕ) (one : 1 ≤ s) (fits : s ≤ S)
      (left : (e : ℕ) → (e ≡ s → ⊥) → page_in M (shown after) e ≡ page_in M (shown d) e) (free : (q : ℕ) → q < N → b q ≡ s → ⊥) (alone : (q : ℕ) → q < N → (q ≡ p → ⊥) → w q ≡ s → ⊥)
      (here : w' p ≡ s) (rest : (q : ℕ) → (q ≡ p → ⊥) → w' q ≡ w q) (owned : o' s ≡ p) (others : (t : ℕ) → (t ≡ s → ⊥) → o' t ≡ o t)
      (flag : (q : ℕ) → q < N → y' (q / 64) ≡ false → (q ≡ p → ⊥) × (y (q / 64) ≡ false)) (h : Above b w o y Q d) where
    pub above-put : Above b w' o' y' (updated p (page_in M (shown after) s) Q) after
    above-put = record {
      page = λ q l. grind (arith, common_steps, rest q, left (w q), alone q l, h.page q l);
      fits = λ q l. grind (arith, common_steps, rest q, h.fits q l);
      back = λ q l k. others (b q) (free q l) ∙ h.back q l k;
      back_now = λ q l k. grind (arith, common_steps, rest q, others (w q), alone q l, h.back_now q l);
      dirty = λ q l e. let (n, z) = flag q l e in rest q n ∙ h.dirty q l z;
    }

  -- PUT of a blank page: it has no slot any more
  module _ (b w o w' : ℕ → ℕ) (y y' : ℕ → Bool) (Q : ℕ → List ℕ) (d : Device) (p : ℕ) (here : w' p ≡ 0) (rest : (q : ℕ) → (q ≡ p → ⊥) → w' q ≡ w q)
      (flag : (q : ℕ) → q < N → y' (q / 64) ≡ false → (q ≡ p → ⊥) × (y (q / 64) ≡ false)) (h : Above b w o y Q d) where
    pub above-clear : Above b w' o y' (updated p blank_page Q) d
    above-clear = record {
      page = λ q l. grind (arith, common_steps, rest q, h.page q l);
      fits = λ q l. grind (arith, common_steps, rest q, h.fits q l);
      back = h.back;
      back_now = λ q l k. grind (arith, common_steps, rest q, h.back_now q l);
      dirty = λ q l e. let (n, z) = flag q l e in rest q n ∙ h.dirty q l z;
    }

  -- the present pages by other words
  pub above_as : (b w o : ℕ → ℕ) (y : ℕ → Bool) (P Q : ℕ → List ℕ) (d : Device) → ((p : ℕ) → p < N → P p ≡ Q p) → Above b w o y P d → Above b w o y Q d
  above_as b w o y P Q d e h = record { page = λ p l. h.page p l ∙ e p l; fits = h.fits; back = h.back; back_now = h.back_now; dirty = h.dirty }

  pub behind-slot : (i : ℕ) (a : Bool) (b : ℕ → ℕ) (h : ℕ → Bool) (d : Device) (s j : ℕ) (v : List ℕ) → Behind i a b h d → Behind i a b h (written (slot_at M s + j) v d)
  behind-slot i a b h d s j v u p l k e =
      ap (λ t. entry_in S t (p % 64)) (shown-other (slot_at M s + j) (area_at M (other a) (p / 64)) v d (λ z. let (f, g) = area-low M (other a) (p / 64) (sector-of N M p few l) in omega arith)) ∙ u p l k e

  -- COMMIT: a map sector is written into the other area
  entry-raw : (v : List ℕ) (k n : ℕ) → raw_in v k ≡ n → n ≤ S → entry_in S v k ≡ n
  entry-raw v k n e l = ap (λ t. cond (leb t S) t 0) e ∙ ap (λ t. cond t n 0) (le-leb n S l)

  pub behind-fill : (i : ℕ) (a : Bool) (b : ℕ → ℕ) (h : ℕ → Bool) (d : Device) (v : List ℕ) → Behind i a b h d → Behind (i + 1) a b h (written (area_at M (other a) i) v d)
  behind-fill i a b h d v u p l k e =
      ap (λ t. entry_in S t (p % 64)) (shown-other (area_at M (other a) i) (area_at M (other a) (p / 64)) v d (λ z. let f = area-one M (other a) (p / 64) i z in omega arith)) ∙ u p l (omega arith) e

  fill_here : (i : ℕ) (a : Bool) (w : ℕ → ℕ) (d : Device) (v : List ℕ) (p j : ℕ) → j ≡ i → w p ≤ S → raw_in v (p % 64) ≡ w p → entry_in S (shown (written (area_at M (other a) i) v d) (area_at M (other a) j)) (p % 64) ≡ w p
  fill_here i a w d v p j e l r = ap (λ t. entry_in S (shown (written (area_at M (other a) i) v d) (area_at M (other a) t)) (p % 64)) e ∙ ap (λ t. entry_in S t (p % 64)) (shown-written (area_at M (other a) i) v d) ∙ entry-raw v (p % 64) (w p) r l

  pub fill_more : (i : ℕ) (a : Bool) (w : ℕ → ℕ) (d : Device) (v : List ℕ) → ((p : ℕ) → p < N → w p ≤ S) → ((p : ℕ) → p < N → p / 64 ≡ i → raw_in v (p % 64) ≡ w p) → Filled i a w d → Filled (i + 1) a w (written (area_at M (other a) i) v d)
  fill_more i a w d v fits raw u p l k = fill-by (eqb (p / 64) i) refl
    where
      fill-by : (t : Bool) → eqb (p / 64) i ≡ t → entry_in S (shown (written (area_at M (other a) i) v d) (area_at M (other a) (p / 64))) (p % 64) ≡ w p
      fill-by true e = fill_here i a w d v p (p / 64) (eqb-true (p / 64) i e) (fits p l) (raw p l (eqb-true (p / 64) i e))
      fill-by false e =
          ap (λ t. entry_in S t (p % 64)) (shown-other (area_at M (other a) i) (area_at M (other a) (p / 64)) v d (λ z. eqb-false (p / 64) i e (area-one M (other a) (p / 64) i z)))
          ∙ u p l (omega (arith, eqb-false (p / 64) i e))

  -- map sectors that were not changed and are not behind are there already
  pub fill-skip : (i j : ℕ) (a : Bool) (b w o : ℕ → ℕ) (y h : ℕ → Bool) (Q : ℕ → List ℕ) (d : Device) → ((k : ℕ) → i ≤ k → k < j → (y k ≡ false) × (h k ≡ false)) → Above b w o y Q d → Behind i a b h d → Filled i a w d → Filled j a w d
  fill-skip i j a b w o y h Q d c g u f p l k = skip_by (leb (64 * i) p) refl
    where
      skip_by : (t : Bool) → leb (64 * i) p ≡ t → entry_in S (shown d (area_at M (other a) (p / 64))) (p % 64) ≡ w p
      skip_by true e = let z = leb-true (64 * i) p e in let t = c (p / 64) (omega arith) (omega arith) in u p l z t.1 ∙ sym (g.dirty p l t.0)
      skip_by false e = f p l (leb-false (64 * i) p e)

  -- everything that the new header leads to is there after the sync
  pub body-filled : (a : Bool) (b w o : ℕ → ℕ) (y : ℕ → Bool) (Q : ℕ → List ℕ) (d : Device) → Above b w o y Q d → Filled M a w d → Body (other a) w Q (synced d)
  body-filled a b w o y Q d h f = record {
    map = λ p l. f p l (omega arith);
    map_calm = λ i l. refl;
    page = h.page;
    page_calm = λ p l o j i. refl;
    fits = h.fits;
    apart = λ p q l k e one. sym (h.back_now p l one) ∙ ap o e ∙ h.back_now q k (omega arith);
  }

  -- once the areas have changed places, what was changed is behind
  pub behind-after : (a : Bool) (b w o : ℕ → ℕ) (y : ℕ → Bool) (P Q : ℕ → List ℕ) (d : Device) → Body a b P d → Above b w o y Q d → Behind 0 (other a) w y d
  behind-after true b w o y P Q d h g p l k e =
      ap (λ t. entry_in S t (p % 64)) (shown-calm d (area_at M true (p / 64)) (h.map_calm (p / 64) (sector-of N M p few l))) ∙ h.map p l ∙ sym (g.dirty p l e)
  behind-after false b w o y P Q d h g p l k e =
      ap (λ t. entry_in S t (p % 64)) (shown-calm d (area_at M false (p / 64)) (h.map_calm (p / 64) (sector-of N M p few l))) ∙ h.map p l ∙ sym (g.dirty p l e)

  -- the present map as it is right after a commit, an undo or coming up
  pub above_same : (a : Bool) (b w o : ℕ → ℕ) (y : ℕ → Bool) (P : ℕ → List ℕ) (d : Device) → ((p : ℕ) → p < N → w p ≡ b p) → ((p : ℕ) → p < N → 1 ≤ b p → o (b p) ≡ p) → Body a b P d → Above b w o y P d
  above_same a b w o y P d e k h = record {
    page = λ p l. ap (page_in M (shown d)) (e p l) ∙ page-same M d.kept (shown d) (b p) (λ j one i. shown-calm d (slot_at M (b p) + j) (h.page_calm p l one j i)) ∙ h.page p l;
    fits = λ p l. let z = e p l in let f = h.fits p l in omega arith;
    back = k;
    back_now = λ p l one. let z = e p l in ap o z ∙ k p l (omega arith);
    dirty = λ p l _. e p l;
  }
