-- The pager at work: what a step at a call does to the invariant.
use Rattle.std.proofs.Common.{◌≡◌, ℕ, ◌+◌, ◌*◌, ◌/◌, ◌<◌, ◌≤◌, Bool, false, cond, eqb, leb, ◌⊎◌, Option, Some, None, List, ◌∷◌, ◌++◌, length, get_or, take, vec_items, sym, refl, ap, ◌∙◌, subst, inl, inr, arith, get_or-set_other, get_or-set_same}
use Rattle.std.proofs.lemmas.List.{take_all}
use Rattle.std.proofs.lemmas.Bool.{le-leb, or_parts}
use Rattle.std.proofs.lemmas.Grind.{common_steps}
use Rattle.device.specs.Device.{Device, latest, shown, written, synced, With, and}
use Rattle.device.specs.declared.Ask.TheVariants.{Write, Sync, Answer}
use Rattle.device.proofs.Sectors.{since-same}
use Rattle.device.proofs.Standing.{Then}
use Rattle.octets.specs.Parts.{put, blank}
use Rattle.shadow.specs.Layout.{other, area_at, slot_at, area_in, page_in, gather, updated}
use Rattle.shadow.proofs.Pages.{page-slot, page-write, Laid, laid_none, laid_more, got-more, gather_none}
use Rattle.shadow.proofs.Shadow.{
  area-low,
  Body,
  body-as,
  body-sync,
  body-write,
  Low,
  low-sync,
  low-slot,
  low-area,
  Above,
  above_as,
  above-sync,
  above-write,
  above-put,
  above-clear,
  above_same,
  Behind,
  behind-slot,
  behind-fill,
  behind-after,
  Filled,
  fill_more,
  fill-skip,
  body-filled,
  free-base,
  free-now,
}
use Rattle.pager.specs.Steps.{Asking, bs, ws, os, ys, hs, held, Same, Goes, GetAt, GettingAt, Owned, Entered, Given, SlotFor, Clears, PutEnds, PutsIn, PutAt, GiveEnds, Gives, GiveAt, Lays, PuttingAt, FoundAt, NotFound, UndoAt, FillAt, SealAt, CallAt, PhaseAt}
use Rattle.pager.specs.Model.{Held, undone, committed, changed, cleared, Replies, gets, gets_none, puts, clears, puts_none, puts_short, full, lends, lends_none, lends_full, finds, finds_none, commits, undoes}
use Rattle.pager.specs.declared.state.Call.{Call}
use Rattle.pager.specs.declared.state.Call.TheVariants.{Get, Put, Give, Vacant, Commit, Undo}
use Rattle.pager.specs.declared.state.Reply.{Reply}
use Rattle.pager.specs.declared.state.Reply.TheVariants.{Page, Done, NoRoom, Found, Outside}
use Rattle.pager.specs.declared.state.Phase.{Phase}
use Rattle.pager.specs.declared.state.Phase.TheVariants.{Opening, Header, Fetch, Loading, Check, Comparing, Idle, Asked, Short, Getting, Putting, Filling, Settled, Marked, Sealed}
use Rattle.pager.specs.declared.state.Pager.{Pager}
use Rattle.octets.proofs.Parts.{take_put}
use Rattle.pager.proofs.Invariant.{
  Of,
  as-map,
  as-flags,
  view-moved,
  same_view,
  Fixed,
  Lived,
  lived-put,
  lived-clear,
  lived-same,
  crowded,
  Stand,
  Told,
  InShort,
  InGetting,
  InPutting,
  InFilling,
  InSettled,
  InMarked,
  InSealed,
  BusyAt,
  Busy,
  Ready,
}

module _ (N M S : ℕ) (few : N ≤ 64 * M) where
  -- a page has a slot that may be written to; what it holds is whatever that shows
  record Slotted (p slot : ℕ) (s : Held) (d : Device) (a : Bool) (b w o : ℕ → ℕ) (y h : ℕ → Bool) : Type 0 where
    one : 1 ≤ slot
    fits : slot ≤ S
    here : w p ≡ slot
    free : (q : ℕ) → q < N → b q ≡ slot → ⊥
    low : Low N M S few a b s.base d
    above : Above N M S few b w o y (updated p (page_in M (shown d) slot) s.now) d
    behind : Behind N M S few 0 a b h d
    lived : (v : List ℕ) → Lived N M S few (changed p v s) b w

  module _ (c : With Call) (s : Held) (m n : Pager) (g : List ℕ) (d : Device) (old : Fixed N M S few m) (fixed : Fixed N M S few n) where
    unfoldable pub Works : Asking → Type 0
    Works r = Then d n.sector r (Busy N M S few c s n) (λ y. (t : Held) × Replies N S c s (and y (held n)) t × Ready N M S few t n d)

    -- a step that leaves the arrays alone
    busy-same : (p : Phase) (h : List ℕ) (f : Device) → n.phase ≡ p → Same m n → Of (BusyAt N M S few p c s (held n) h f) m → Busy N M S few c s n h f
    busy-same p h f e u x = record { fixed = fixed; at = subst (λ q. Of (BusyAt N M S few q c s (held n) h f) n) (sym e) (same_view (BusyAt N M S few p c s (held n) h f) m n u x) }

    ready-same : (t : Held) → Same m n → Of (Stand N M S few t d) m → Ready N M S few t n d
    ready-same t u x = record { fixed = fixed; stand = same_view (Stand N M S few t d) m n u x }

    answers : (x : Call) (r : Asking) (y : Reply) (t : Held) → x ≡ c.it → r ≡ Answer y → Replies N S (and x c.bytes) s (and y (held n)) t → Ready N M S few t n d → Works r
    unfolding Works
    answers x r y t e k p q = rw k (t, subst (λ z. Replies N S (and z c.bytes) s (and y (held n)) t) e p, q)

    at-get : (r : Asking) (p : ℕ) → Get p ≡ c.it → Of (Stand N M S few s d) m → GetAt N M S p m r n → Works r
    unfolding Works
    at-get r p e h (inl x) = answers (Get p) r Outside s e x.1.ask (gets_none p c.bytes (held n) s x.0) (ready-same s x.1.same h)
    at-get r p e h (inr (inl x)) =
        let z : ws m p ≡ 0 = x.none (h.above.fits p x.inside) in
        let u : held n ≡ s.now p = x.page ∙ sym (ap (page_in M (shown d)) z) ∙ h.above.page p x.inside in
        answers (Get p) r Page s e x.goes.ask (subst (λ v. Replies N S (and (Get p) c.bytes) s (and Page v) s) (sym u) (gets p c.bytes s x.inside)) (ready-same s x.goes.same h)
    at-get r p e h (inr (inr x)) =
        let z : slot_at M (ws m p) ≡ slot_at M (ws m p) + 0 = omega arith in
        rw x.goes.ask (
        busy-same (Getting (ws m p) 0) (shown d (slot_at M (ws m p))) d x.goes.phase x.goes.same (record {
          page = p;
          get = sym e;
          inside = x.inside;
          slot = refl;
          one = x.one;
          fits = x.fits;
          less = omega arith;
          long = omega (arith, n.glen, n.page.ok.0);
          seen = gather_none (shown d) (slot_at M (ws m p));
          given = ap (shown d) z;
          stand = h;
        }))

    -- A SLOT FOR A PAGE: of the arrays as they are after it
    slot-in : (p slot : ℕ) (a : Bool) (b w o w' o' : ℕ → ℕ) (y y' h : ℕ → Bool) → Stand N M S few s d a b w o y h → 1 ≤ slot → slot ≤ S →
        ((q : ℕ) → q < N → b q ≡ slot → ⊥) → ((q : ℕ) → q < N → (q ≡ p → ⊥) → w q ≡ slot → ⊥) →
        w' p ≡ slot → ((q : ℕ) → (q ≡ p → ⊥) → w' q ≡ w q) → o' slot ≡ p → ((t : ℕ) → (t ≡ slot → ⊥) → o' t ≡ o t) →
        ((q : ℕ) → q < N → y' (q / 64) ≡ false → (q ≡ p → ⊥) × (y (q / 64) ≡ false)) →
        Slotted p slot s d a b w' o' y' h
    slot-in p slot a b w o w' o' y y' h u one fit free alone here rest owned others flag = record {
      one = one;
      fits = fit;
      here = here;
      free = free;
      low = u.low;
      above = above-put N M S few b w o w' o' y y' s.now d d p slot one fit (λ e ne. refl) free alone here rest owned others flag u.above;
      behind = u.behind;
      lived = λ v. lived-put N M S few s b w w' p slot v one free here rest u.lived;
    }

    slot-owned : (p slot : ℕ) → p < N → Of (Stand N M S few s d) m → Owned S p m slot n → Of (Slotted p slot s d) n
    slot-owned p slot i h x =
        let f = h.above.fits p i in
        let own = h.above.back_now p i x.one in
        let alone : (q : ℕ) → q < N → (q ≡ p → ⊥) → ws m q ≡ ws m p → ⊥ = λ q l ne t. ne (sym (h.above.back_now q l (omega (arith, t, x.one))) ∙ ap (os m) t ∙ own) in
        let free : (q : ℕ) → q < N → bs m q ≡ ws m p → ⊥ = λ q l t.
        let same : q ≡ p = sym (h.above.back q l (omega (arith, t, x.one))) ∙ ap (os m) t ∙ own in
        x.moved (sym (sym (ap (bs m) same) ∙ t)) in
        same_view (Slotted p slot s d) m n x.same (subst (λ t. Of (Slotted p t s d) m) (sym x.is) (
        slot-in p (ws m p) m.second (bs m) (ws m) (os m) (ws m) (os m) (ys m) (ys m) (hs m) h x.one f free alone refl (λ q _. refl) own (λ t _. refl)
        (λ q l t. (λ same. x.moved (subst (λ v. ws m v ≡ bs m v) same (h.above.dirty q l t)), t))))

    -- another entry in the present map
    module _ (p e : ℕ) (i : p < N) (x : Entered p e m n) where
      entered_here : ws n p ≡ e
      entered_here = grind (arith, common_steps, x.present, m.plen, m.present.ok.0, old.maps, few)

      entered-rest : (q : ℕ) → (q ≡ p → ⊥) → ws n q ≡ ws m q
      entered-rest q ne = grind (arith, common_steps, x.present, ne)

      entered-flag : (q : ℕ) → q < N → ys n (q / 64) ≡ false → (q ≡ p → ⊥) × (ys m (q / 64) ≡ false)
      entered-flag q l z =
          let apart : q / 64 ≡ p / 64 → ⊥ = λ w. grind (arith, common_steps, x.dirty, z, m.dlen, m.dirty.ok.0, old.maps, few) in
          (λ w. apart (ap (λ t. t / 64) w), grind (arith, common_steps, x.dirty, z, apart))

    slot-given : (p slot : ℕ) → p < N → Of (Stand N M S few s d) m → Given N S p m slot n → Of (Slotted p slot s d) n
    slot-given p slot i h x =
        let t = x.entered in
        let lo : slot < length (vec_items m.owner) = omega (arith, m.olen, m.owner.ok.0, old.slots, x.fits) in
        let owned : os n slot ≡ p = ap (λ (v : List ℕ). get_or v slot 0) x.owner ∙ get_or-set_same (vec_items m.owner) slot p 0 lo in
        let others : (q : ℕ) → (q ≡ slot → ⊥) → os n q ≡ os m q = λ q ne. ap (λ (v : List ℕ). get_or v q 0) x.owner ∙ get_or-set_other (vec_items m.owner) slot q p 0 ne in
        view-moved (Slotted p slot s d) t.second (as-map t.base) refl refl refl (as-flags t.behind)
        (slot-in p slot m.second (bs m) (ws m) (os m) (ws n) (os n) (ys m) (ys n) (hs m) h x.one x.fits
        (free-base N M S few (bs m) (ws m) (os m) (ys m) s.now d slot x.one h.above x.free)
        (λ q l _. free-now N M S few (bs m) (ws m) (os m) (ys m) s.now d slot x.one h.above x.free q l)
        (entered_here p slot i t) (entered-rest p slot i t) owned others (entered-flag p slot i t))

    slotted : (p slot : ℕ) → p < N → Of (Stand N M S few s d) m → SlotFor N S p m (Some slot) n → Of (Slotted p slot s d) n
    slotted p slot i h (inl x) = slot-owned p slot i h x
    slotted p slot i h (inr x) = slot-given p slot i h x

    at-clears : (r : Asking) (p : ℕ) → Put p ≡ c.it → Told N M S few (Put p) c.bytes (held m) → Of (Stand N M S few s d) m → Clears N p m r n → Works r
    at-clears r p e told h x =
        let i = x.inside in
        let t = x.entered in
        answers (Put p) r Done (cleared p s) e x.ask (clears p c.bytes (held n) s i told.0 (ap blank (sym told.1) ∙ x.blank)) (record {
          fixed = fixed;
          stand = view-moved (Stand N M S few (cleared p s) d) t.second (as-map t.base) refl (as-map x.owner) refl (as-flags t.behind) (record {
            low = h.low;
            above = above-clear N M S few (bs m) (ws m) (os m) (ws n) (ys m) (ys n) s.now d p (entered_here p 0 i t) (entered-rest p 0 i t) (entered-flag p 0 i t) h.above;
            behind = h.behind;
            lived = lived-clear N M S few s (bs m) (ws m) (ws n) p (entered_here p 0 i t) (entered-rest p 0 i t) h.lived;
          });
        })

    at-puts-in : (r : Asking) (p : ℕ) → Put p ≡ c.it → Told N M S few (Put p) c.bytes (held m) → Of (Stand N M S few s d) m → (x : PutsIn N S p m r n) → (slot : Option ℕ) → SlotFor N S p m slot n → PutEnds slot r n.phase → Works r
    unfolding Works
    at-puts-in r p e told h x (Some slot) took y =
        let u : Of (Slotted p slot s d) n = slotted p slot x.inside h took in
        let pg : held n ≡ held m = ap vec_items x.page in
        rw y.0 (λ j. record {
          fixed = fixed;
          at = subst (λ q. Of (BusyAt N M S few q c s (held n) j d) n) (sym y.1) (record {
            page = p;
            put = sym e;
            inside = x.inside;
            bytes = pg ∙ told.1;
            long = told.0;
            full = ap blank (sym told.1) ∙ x.full;
            one = u.one;
            fits = u.fits;
            upto = omega arith;
            slot = u.here;
            free = u.free;
            laid = laid_none (slot_at M slot) (held n) d;
            low = u.low;
            above = u.above;
            behind = u.behind;
            lived = u.lived c.bytes;
          });
        })
    at-puts-in r p e told h x None took y =
        answers (Put p) r NoRoom s e y.0 (full p c.bytes (held n) s (ap blank (sym told.1) ∙ x.full) (crowded N M S few s (bs m) (ws m) (os m) p x.inside took.own took.none h.lived)) (ready-same s took.same h)

    at-put : (r : Asking) (p : ℕ) → Put p ≡ c.it → Told N M S few (Put p) c.bytes (held m) → Of (Stand N M S few s d) m → PutAt N S p m r n → Works r
    at-put r p e told h (inl x) = answers (Put p) r Outside s e x.1.ask (puts_none p c.bytes (held n) s x.0) (ready-same s x.1.same h)
    at-put r p e told h (inr (inl x)) = at-clears r p e told h x
    at-put r p e told h (inr (inr x)) = at-puts-in r p e told h x x.slot x.took x.ends

    at_gives : (r : Asking) (p : ℕ) → Give p ≡ c.it → Of (Stand N M S few s d) m → (x : Gives N S p m r n) → (slot : Option ℕ) → SlotFor N S p m slot n → GiveEnds slot r → Works r
    at_gives r p e h x (Some slot) took y =
        let u : Of (Slotted p slot s d) n = slotted p slot x.inside h took in
        let v = page_in M (shown d) slot in
        answers (Give p) r Done (changed p v s) e y (lends p c.bytes v (held n) s x.inside) (record { fixed = fixed; stand = record { low = u.low; above = u.above; behind = u.behind; lived = u.lived v } })
    at_gives r p e h x None took y = answers (Give p) r NoRoom s e y (lends_full p c.bytes (held n) s (crowded N M S few s (bs m) (ws m) (os m) p x.inside took.own took.none h.lived)) (ready-same s took.same h)

    at_give : (r : Asking) (p : ℕ) → Give p ≡ c.it → Of (Stand N M S few s d) m → GiveAt N S p m r n → Works r
    at_give r p e h (inl x) = answers (Give p) r Outside s e x.1.ask (lends_none p c.bytes (held n) s x.0) (ready-same s x.1.same h)
    at_give r p e h (inr x) = at_gives r p e h x x.slot x.took x.ends

    at-vacant : (r : Asking) (p : ℕ) → Vacant p ≡ c.it → Of (Stand N M S few s d) m → FoundAt N p m r n ⊎ NotFound N p m r n → Works r
    at-vacant r p e h (inl x) =
        answers (Vacant p) r (Found (Some x.page)) s e x.goes.ask (finds p x.page c.bytes (held n) s x.from x.inside (h.lived.has x.page x.inside ∙ ap (leb 1) x.none)
        (λ k a b. h.lived.has k (omega (arith, x.inside)) ∙ le-leb 1 (ws m k) (x.least k a b))) (ready-same s x.goes.same h)
    at-vacant r p e h (inr x) = answers (Vacant p) r (Found None) s e x.goes.ask (finds_none p c.bytes (held n) s (λ k a b. h.lived.has k b ∙ le-leb 1 (ws m k) (x.all k a b))) (ready-same s x.goes.same h)

    at-undo : (r : Asking) → Undo ≡ c.it → Of (Stand N M S few s d) m → UndoAt M m r n → Works r
    at-undo r e h x =
        let eq : (p : ℕ) → p < N → ws n p ≡ bs m p = λ p l. grind (arith, common_steps, x.present p (omega arith), h.above.dirty p l) in
        answers Undo r Done (undone s) e x.ask (undoes c.bytes (held n) s) (record {
          fixed = fixed;
          stand = view-moved (Stand N M S few (undone s) d) x.second (as-map x.base) refl (as-map x.owner) refl (as-flags x.behind) (record {
            low = h.low;
            above = above_same N M S few m.second (bs m) (ws n) (os m) (ys n) s.base d eq h.above.back h.low.body;
            behind = h.behind;
            lived = lived-same N M S few (undone s) (bs m) (ws n) h.lived.live h.lived.live (λ p. refl) eq;
          });
        })

    at_call : (r : Asking) (e : Call) → e ≡ c.it → Told N M S few e c.bytes (held m) → Of (Stand N M S few s d) m → CallAt N M S e m r n → Works r
    unfolding Works
    at_call r (Get p) e told h x = at-get r p e h x
    at_call r (Put p) e told h x = at-put r p e told h x
    at_call r (Give p) e told h x = at_give r p e h x
    at_call r (Vacant p) e told h x = at-vacant r p e h x
    at_call r Commit e told h x =
        rw x.ask (λ j. busy-same (Filling 0) j d x.phase x.same (record {
          upto = omega arith;
          commit = sym e;
          lived = h.lived;
          low = h.low;
          above = h.above;
          behind = h.behind;
          filled = λ p l q. absurd (omega arith);
        }))
    at_call r Undo e told h x = at-undo r e h x

    at-short : (r : Asking) → Of (InShort N M S few c s d) m → Goes m r Idle (Answer Outside) n → Works r
    at-short r h x = answers (Put h.page) r Outside s (sym h.put) x.ask (puts_short h.page c.bytes (held n) s h.short) (ready-same s x.same h.stand)

    -- one sector more of a page
    seen_more : (e j : ℕ) → Of (InGetting N M S few e j c s (held m) g d) m → length g ≡ 512 → held n ≡ put (held m) (512 * j) g → take (512 * (j + 1)) (held n) ≡ gather (shown d) (slot_at M e) (j + 1)
    seen_more e j h long x =
        let z : 512 * (j + 1) ≡ 512 * j + length g = omega arith in
        ap (take (512 * (j + 1))) x ∙ ap (λ t. take t (put (held m) (512 * j) g)) z ∙ take_put (held m) g (512 * j) (omega (arith, h.less, h.long))
        ∙ ap (λ t. take (512 * j) (held m) ++ t) h.given ∙ got-more (shown d) (slot_at M e) j (take (512 * j) (held m)) h.seen

    at-getting : (r : Asking) (e j : ℕ) → Of (InGetting N M S few e j c s (held m) g d) m → GettingAt M S e j m g r n → Works r
    unfolding Works
    at-getting r e j h (inl x) =
        rw x.goes.ask (
        busy-same (Getting e (j + 1)) (shown d (slot_at M e + (j + 1))) d x.goes.phase x.goes.same (record {
          page = h.page;
          get = h.get;
          inside = h.inside;
          slot = h.slot;
          one = h.one;
          fits = h.fits;
          less = omega (arith, x.less);
          long = omega (arith, n.glen, n.page.ok.0);
          seen = seen_more e j h x.long x.page;
          given = refl;
          stand = h.stand;
        }))
    at-getting r e j h (inr (inl x)) =
        let z : 512 * (j + 1) ≡ 4096 = omega (arith, x.last) in
        let y : j + 1 ≡ 8 = omega (arith, x.last) in
        let u : held n ≡ s.now h.page =
        sym (take_all 4096 (held n) (omega (arith, n.glen, n.page.ok.0))) ∙ ap (λ t. take t (held n)) (sym z) ∙ seen_more e j h x.long x.page ∙ ap (gather (shown d) (slot_at M e)) y
        ∙ sym (page-slot M (shown d) e h.one) ∙ ap (page_in M (shown d)) (sym h.slot) ∙ h.stand.above.page h.page h.inside in
        answers (Get h.page) r Page s (sym h.get) x.goes.ask (subst (λ v. Replies N S (and (Get h.page) c.bytes) s (and Page v) s) (sym u) (gets h.page c.bytes s h.inside)) (ready-same s x.goes.same h.stand)
    at-getting r e j h (inr (inr x)) = absurd (x.0 (h.one, h.fits, h.less))

    at-lays : (r : Asking) (e j : ℕ) → Of (InPutting N M S few e j c s (held m) d) m → Lays M S e j m r n → Works r
    unfolding Works
    at-lays r e j h x =
        let v = n.sector in
        let p = h.page in
        let f : Device = written (slot_at M e + j) v d in
        let own = h.above.back_now p h.inside (let t = h.slot in let u = h.one in omega arith) in
        let owned : os m e ≡ p = ap (os m) (sym h.slot) ∙ own in
        let alone : (q : ℕ) → q < N → (q ≡ p → ⊥) → ws m q ≡ e → ⊥ = λ q l ne t. ne (sym (h.above.back_now q l (let u = h.one in omega (arith, t))) ∙ ap (os m) t ∙ owned) in
        let pg : held n ≡ held m = ap vec_items x.page in
        rw x.goes.ask (λ k.
        busy-same (Putting e (j + 1)) k f x.goes.phase x.goes.same (record {
          page = p;
          put = h.put;
          inside = h.inside;
          bytes = pg ∙ h.bytes;
          long = h.long;
          full = h.full;
          one = h.one;
          fits = h.fits;
          upto = omega (arith, x.less);
          slot = h.slot;
          free = h.free;
          laid = subst (λ t. Laid (slot_at M e) t (j + 1) f) (sym pg) (laid_more (slot_at M e) j (held m) v d x.bytes h.laid);
          low = low-slot N M S few m.second (bs m) s.base d e j v h.one x.less h.free h.low;
          above = above_as N M S few (bs m) (ws m) (os m) (ys m) (updated p (page_in M (shown f) e) (updated p (page_in M (shown d) e) s.now)) (updated p (page_in M (shown f) e) s.now) f
              (λ q l. grind (arith, common_steps))
              (above-put N M S few (bs m) (ws m) (os m) (ws m) (os m) (ys m) (ys m) (updated p (page_in M (shown d) e) s.now) d f p e h.one h.fits
              (λ t ne. page-write M e t j v d h.one x.less ne) h.free alone h.slot (λ q _. refl) owned (λ t _. refl)
              (λ q l t. (λ same. h.free p h.inside (sym (subst (λ z. ws m z ≡ bs m z) same (h.above.dirty q l t)) ∙ h.slot), t)) h.above);
          behind = behind-slot N M S few 0 m.second (bs m) (hs m) d e j v h.behind;
          lived = h.lived;
        }))

    at-putting : (r : Asking) (e j : ℕ) → Of (InPutting N M S few e j c s (held m) d) m → PuttingAt M S e j m r n → Works r
    at-putting r e j h (inl x) = at-lays r e j h x
    at-putting r e j h (inr (inl x)) =
        let p = h.page in
        let z : j ≡ 8 = let u = h.upto in omega (arith, x.0) in
        let v : page_in M (shown d) e ≡ c.bytes =
        page-slot M (shown d) e h.one ∙ subst (λ t. Laid (slot_at M e) (held m) t d) z h.laid ∙ take_all 4096 (held m) (omega (arith, m.glen, m.page.ok.0)) ∙ h.bytes in
        answers (Put p) r Done (changed p c.bytes s) (sym h.put) x.1.ask (puts p c.bytes (held n) s h.inside h.long h.full) (
        ready-same (changed p c.bytes s) x.1.same (record {
          low = h.low;
          above = above_as N M S few (bs m) (ws m) (os m) (ys m) (updated p (page_in M (shown d) e) s.now) (updated p c.bytes s.now) d (λ q l. ap (λ t. cond (eqb q p) t (s.now q)) v) h.above;
          behind = h.behind;
          lived = h.lived;
        }))
    at-putting r e j h (inr (inr x)) = absurd (x.1 (h.one, h.fits, x.0))

    at-filling : (r : Asking) (i : ℕ) → Of (InFilling N M S few i c s d) m → FillAt M i m r n → Works r
    unfolding Works
    at-filling r i h (inl x) =
        let f = fill-skip N M S few i M m.second (bs m) (ws m) (os m) (ys m) (hs m) s.now d (λ k a b. or_parts (ys m k) (hs m k) (x.0 k a b)) h.above h.behind h.filled in
        rw x.1.ask (λ j.
        busy-same Settled j (synced d) x.1.phase x.1.same (record {
          commit = h.commit;
          lived = h.lived;
          low = low-sync N M S few m.second (bs m) s.base d h.low;
          above = above-sync N M S few (bs m) (ws m) (os m) (ys m) s.now d h.above;
          next = body-filled N M S few m.second (bs m) (ws m) (os m) (ys m) s.now d h.above f;
        }))
    at-filling r i h (inr x) =
        let a = m.second in
        let k = x.at in
        let (lo, hi) = area-low M (other a) k x.inside in
        let f : Filled N M S few k a (ws m) d = fill-skip N M S few i k a (bs m) (ws m) (os m) (ys m) (hs m) s.now d (λ k a b. or_parts (ys m k) (hs m k) (x.down k a b)) h.above h.behind h.filled in
        let b : Behind N M S few k a (bs m) (hs m) d = λ p l q e. h.behind p l (omega (arith, x.from)) e in
        rw x.goes.ask (λ j.
        busy-same (Filling (k + 1)) j (written (area_at M (other a) k) n.sector d) x.goes.phase x.goes.same (record {
          upto = omega (arith, x.inside);
          commit = h.commit;
          lived = h.lived;
          low = low-area N M S few a (bs m) s.base d k n.sector x.inside h.low;
          above = above-write N M S few (bs m) (ws m) (os m) (ys m) s.now d (area_at M (other a) k) n.sector hi h.above;
          behind = behind-fill N M S few k a (bs m) (hs m) d n.sector b;
          filled = fill_more N M S few k a (ws m) d n.sector h.above.fits (λ p l e. x.raw p e) f;
        }))

    at-settled : (r : Asking) → Of (InSettled N M S few c s d) m → Goes m r Marked (Write 0) n × (area_in n.sector ≡ other m.second) → Works r
    unfolding Works
    at-settled r h x =
        rw x.0.ask (λ j.
        busy-same Marked j (written 0 n.sector d) x.0.phase x.0.same (record {
          commit = h.commit;
          lived = h.lived;
          header = n.sector;
          waits = since-same 0 n.sector d ∙ ap (λ l. n.sector ∷ l) h.low.header_calm;
          names = x.1;
          named = h.low.header;
          body = body-write N M S few m.second (bs m) s.base d 0 n.sector (λ i l e. let (lo, hi) = area-low M m.second i l in omega arith) (λ p l o j q e. omega arith) h.low.body;
          above = above-write N M S few (bs m) (ws m) (os m) (ys m) s.now d 0 n.sector (omega arith) h.above;
          next = body-write N M S few (other m.second) (ws m) s.now d 0 n.sector (λ i l e. let (lo, hi) = area-low M (other m.second) i l in omega arith) (λ p l o j q e. omega arith) h.next;
        }))

    at-marked : (r : Asking) → Of (InMarked N M S few c s d) m → Goes m r Sealed Sync n → Works r
    unfolding Works
    at-marked r h x =
        rw x.ask (λ j.
        busy-same Sealed j (synced d) x.phase x.same (record {
          commit = h.commit;
          lived = h.lived;
          low = record {
            header = ap (λ l. area_in (latest (d.kept 0) l)) h.waits ∙ h.names;
            header_calm = refl;
            body = body-sync N M S few (other m.second) (ws m) s.now d h.next;
          };
          body = body-sync N M S few m.second (bs m) s.base d h.body;
          above = above-sync N M S few (bs m) (ws m) (os m) (ys m) s.now d h.above;
        }))

    at-sealed : (r : Asking) → Of (InSealed N M S few c s d) m → SealAt M m r n → Works r
    at-sealed r h x =
        let eq : (p : ℕ) → p < N → ws m p ≡ bs n p = λ p l. grind (arith, common_steps, x.base p (omega arith), h.above.dirty p l) in
        let present : ws n ≡ ws m = as-map x.present in
        let owner : os n ≡ os m = as-map x.owner in
        let behind : hs n ≡ ys m = ap (λ v p. get_or v p false) x.behind in
        let body : Body N M S few (other m.second) (bs n) s.now d = body-as N M S few (other m.second) (ws m) (bs n) s.now d eq h.low.body in
        let live : (p : ℕ) → p < N → s.has p ≡ leb 1 (bs n p) = λ p l. h.lived.has p l ∙ ap (leb 1) (eq p l) in
        answers Commit r Done (committed s) (sym h.commit) x.ask (commits c.bytes (held n) s) (record {
          fixed = fixed;
          stand = view-moved (Stand N M S few (committed s) d) x.second refl present owner refl behind (record {
            low = record { header = h.low.header; header_calm = h.low.header_calm; body = body };
            above = above_same N M S few (other m.second) (bs n) (ws m) (os m) (ys n) s.now d eq (λ p l o. ap (os m) (sym (eq p l)) ∙ h.above.back_now p l (let z = eq p l in omega arith)) body;
            behind = λ p l k e. behind-after N M S few m.second (bs m) (ws m) (os m) (ys m) s.base s.now d h.body h.above p l k e ∙ eq p l;
            lived = lived-same N M S few (committed s) (bs n) (ws m) live live (λ p. refl) eq;
          });
        })

    pub work : (r : Asking) (p : Phase) → Of (BusyAt N M S few p c s (held m) g d) m → PhaseAt N M S p m g r n → Works r
    work r Opening h x = absurd h
    work r Header h x = absurd h
    work r (Fetch i) h x = absurd h
    work r (Loading i) h x = absurd h
    work r (Check i) h x = absurd h
    work r (Comparing i) h x = absurd h
    work r Idle h x = absurd h
    work r (Asked e) h x = at_call r e h.0 h.1 h.2 x
    work r Short h x = at-short r h x
    work r (Getting e j) h x = at-getting r e j h x
    work r (Putting e j) h x = at-putting r e j h x
    work r (Filling i) h x = at-filling r i h x
    work r Settled h x = at-settled r h x
    work r Marked h x = at-marked r h x
    work r Sealed h x = at-sealed r h x
