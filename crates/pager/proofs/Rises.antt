-- The pager as it comes up: what a step does to the invariant.
use Rattle.std.proofs.Common.{◌≡◌, ℕ, ◌+◌, ◌*◌, ◌/◌, ◌%◌, ◌<◌, ◌≤◌, Bool, true, false, eqb, leb, List, get_or, vec_items, sym, refl, ap, ◌∙◌, subst, inl, inr, arith, eqb-true}
use borrow.Author.Tests.{eqb-false}
use Rattle.std.proofs.lemmas.Grind.{common_steps}
use Rattle.device.specs.Device.{Device, shown}
use Rattle.device.proofs.Sectors.{shown-calm}
use Rattle.device.proofs.Standing.{Then}
use Rattle.shadow.specs.Layout.{other, area_at, area_in, entry_in}
use Rattle.shadow.proofs.Shadow.{Body, body-as, above_as, above_same}
use Rattle.pager.specs.Steps.{Asking, bs, os, ys, hs, FetchAt, LoadAt, CheckAt, CompareAt, PhaseAt}
use Rattle.pager.specs.Model.{Held}
use Rattle.pager.specs.declared.state.Phase.{Phase}
use Rattle.pager.specs.declared.state.Phase.TheVariants.{Opening, Header, Fetch, Loading, Check, Comparing, Idle, Asked, Short, Getting, Putting, Filling, Settled, Marked, Sealed}
use Rattle.pager.specs.declared.state.Pager.{Pager}
use Rattle.pager.proofs.Invariant.{Of, as-map, view-moved, same_view, Fixed, lived-same, Stand, Off, Read-to, Compared, RisingAt, Rising, Ready}

module _ (N M S : ℕ) (few : N ≤ 64 * M) where
  module _ (s : Held) (m n : Pager) (g : List ℕ) (d : Device) (fixed : Fixed N M S few n) (off : Off N M S few s d) where
    unfoldable pub Climbs : Asking → Type 0
    Climbs r = Then d n.sector r (Rising N M S few s n) (λ _. Ready N M S few s n d)

    rising-at : (p : Phase) (h : List ℕ) → n.phase ≡ p → RisingAt N M S few p s off.area off.map n h d → Rising N M S few s n h d
    rising-at p h e x = record { fixed = fixed; off = off; at = subst (λ q. RisingAt N M S few q s off.area off.map n h d) (sym e) x }

    at-fetch : (r : Asking) (i : ℕ) → Read-to N M S few i off.area off.map m → FetchAt N M S i m r n → Climbs r
    unfolding Climbs
    at-fetch r i h (inl x) =
        rw x.1.ask (
        rising-at (Loading i) (shown d (area_at M m.second i)) x.1.phase (
          record { upto = h.upto; second = x.1.same.second ∙ h.second; entries = λ p l q. ap (λ v. get_or (vec_items v) p 0) x.1.same.base ∙ h.entries p l q },
          x.0,
          shown-calm d (area_at M m.second i) (off.quiet (area_at M m.second i)) ∙ ap (λ a. d.kept (area_at M a i)) h.second,
        ))
    at-fetch r i h (inr x) =
        let u = h.upto in
        let l = x.1 in
        let body = off.low.body in
        let e : (p : ℕ) → p < N → bs m p ≡ off.map p = λ p j. h.entries p j (omega (arith, x.0)) in
        let mine : Body N M S few off.area (bs m) s.base d = body-as N M S few off.area off.map (bs m) s.base d (λ p j. sym (e p j)) body in
        let back : (p : ℕ) → p < N → 1 ≤ bs m p → os n (bs m p) ≡ p = λ p j one.
        let t = l.owner p j (mine.fits p j) in
        sym (mine.apart p (os n (bs m p)) j t.0 (sym t.1) one) in
        rw l.ask (λ j. rising-at (Check 0) j l.phase (
        view-moved (Compared N M S few 0 s d) (l.second ∙ h.second) (as-map l.base) (ap (λ v p. get_or v p 0) l.present) refl refl refl (record {
          upto = omega arith;
          low = record { header = off.low.header; header_calm = off.low.header_calm; body = mine };
          above = λ y. above_as N M S few (bs m) (bs m) (os n) y s.base s.now d (λ p _. sym (off.settled p)) (above_same N M S few off.area (bs m) (bs m) (os n) y s.base d (λ p j. refl) back mine);
          lived = lived-same N M S few s (bs m) (bs m) (λ p j. off.live p j ∙ ap (leb 1) (sym (e p j))) (λ p j. off.has p j ∙ ap (leb 1) (sym (e p j))) off.none (λ p j. refl);
          flags = λ p a b c. absurd (omega arith);
        })))

    at-loading : (r : Asking) (i : ℕ) → Read-to N M S few i off.area off.map m → i < M → g ≡ d.kept (area_at M off.area i) → LoadAt M S i m g r n → Climbs r
    unfolding Climbs
    at-loading r i h b e x =
        rw x.ask (λ j. rising-at (Fetch (i + 1)) j x.phase (record { upto = omega arith; second = x.second ∙ h.second; entries = λ p l q. grind (arith, common_steps, x.rest p, x.here p, h.entries p l, off.low.body.map p l, e) }))

    at-check : (r : Asking) (i : ℕ) → Of (Compared N M S few i s d) m → CheckAt M i m r n → Climbs r
    unfolding Climbs
    at-check r i h (inl x) =
        rw x.1.ask (
        rising-at (Comparing i) (shown d (area_at M (other m.second) i)) x.1.phase (
          same_view (Compared N M S few i s d) m n x.1.same h,
          x.0,
          ap (λ a. shown d (area_at M (other a) i)) (sym x.1.same.second),
        ))
    at-check r i h (inr x) =
        rw x.1.ask (
        record {
          fixed = fixed;
          stand = same_view (Stand N M S few s d) m n x.1.same (record { low = h.low; above = h.above (ys m); lived = h.lived; behind = λ p l q e. h.flags p l (omega (arith, x.0)) e });
        })

    flags-more : (r : Asking) (i : ℕ) → Of (Compared N M S few i s d) m → g ≡ shown d (area_at M (other m.second) i) → CompareAt M S i m g r n → (p : ℕ) → p < N → p < 64 * (i + 1) → hs n (p / 64) ≡ false → (t : Bool) → eqb (p / 64) i ≡ t →
        entry_in S (shown d (area_at M (other m.second) (p / 64))) (p % 64) ≡ bs m p
    flags-more r i h e x p l q f true t =
        let u = eqb-true (p / 64) i t in
        ap (λ v. entry_in S v (p % 64)) (ap (λ j. shown d (area_at M (other m.second) j)) u ∙ sym e) ∙ x.here (ap (hs n) (sym u) ∙ f) p u
    flags-more r i h e x p l q f false t = let u = eqb-false (p / 64) i t in h.flags p l (omega (arith, u)) (sym (x.rest (p / 64) u) ∙ f)

    at-comparing : (r : Asking) (i : ℕ) → Of (Compared N M S few i s d) m → i < M → g ≡ shown d (area_at M (other m.second) i) → CompareAt M S i m g r n → Climbs r
    unfolding Climbs
    at-comparing r i h b e x =
        rw x.ask (λ j. rising-at (Check (i + 1)) j x.phase (
        view-moved (Compared N M S few (i + 1) s d) x.second (as-map x.base) (as-map x.present) (as-map x.owner) refl refl (record {
          upto = omega arith;
          low = h.low;
          above = h.above;
          lived = h.lived;
          flags = λ p l q f. flags-more r i h e x p l q f (eqb (p / 64) i) refl;
        })))

    pub climb : (r : Asking) (p : Phase) → RisingAt N M S few p s off.area off.map m g d → PhaseAt N M S p m g r n → Climbs r
    unfolding Climbs
    climb r Opening h x = rw x.0 (rising-at Header (shown d 0) x.1 (shown-calm d 0 (off.quiet 0)))
    climb r Header h x =
        rw x.ask (λ j. rising-at (Fetch 0) j x.phase (record { upto = omega arith; second = x.second ∙ ap area_in h ∙ off.low.header; entries = λ p l q. absurd (omega arith) }))
    climb r (Fetch i) h x = at-fetch r i h x
    climb r (Loading i) h (inl x) = at-loading r i h.0 h.1 h.2 x
    climb r (Loading i) h (inr x) = absurd (let u = h.1 in omega (arith, x.0))
    climb r (Check i) h x = at-check r i h x
    climb r (Comparing i) h (inl x) = at-comparing r i h.0 h.1 h.2 x
    climb r (Comparing i) h (inr x) = absurd (let u = h.1 in omega (arith, x.0))
    climb r Idle h x = absurd h
    climb r (Asked c) h x = absurd h
    climb r Short h x = absurd h
    climb r (Getting e j) h x = absurd h
    climb r (Putting e j) h x = absurd h
    climb r (Filling i) h x = absurd h
    climb r Settled h x = absurd h
    climb r Marked h x = absurd h
    climb r Sealed h x = absurd h
