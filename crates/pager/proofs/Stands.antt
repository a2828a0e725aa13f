-- The pager keeps to its model, stays within the device and ends.
use Rattle.std.proofs.Common.{◌≡◌, ℕ, ◌+◌, ◌-◌, ◌*◌, ◌%◌, ◌<◌, ◌≤◌, Bool, false, cond, eqb, leb, ◌⊎◌, Option, Some, None, List, [], drop, sym, refl, ap, ◌∙◌, subst, inl, inr, arith, get_or-drop}
use Rattle.std.proofs.lemmas.Bool.{le-leb}
use Rattle.device.specs.Device.{Device, blank_device, zeros, AfterCut, With, and, Sector, Sized}
use Rattle.device.specs.Runs.{Asks, Fair}
use Rattle.device.specs.declared.Never.{Never}
use Rattle.device.specs.declared.Ask.TheVariants.{Read, Write, Sync, Again, Hand, Answer}
use Rattle.device.proofs.Sectors.{cut-one, begun-none}
use Rattle.device.proofs.Standing.{Standing, Then, keeps}
use Rattle.device.proofs.Ending.{Steady, within_by, ends_by}
use Rattle.device.proofs.Ending as ending
use Rattle.octets.specs.Parts.{part}
use Rattle.octets.proofs.Numbers.{number-zeros, take-zeros}
use Rattle.shadow.specs.Layout.{pages, map_sectors, slots, other, area_at, area_in, raw_in, entry_in}
use Rattle.shadow.proofs.Pages.{zeros-at}
use Rattle.shadow.proofs.Shadow.{area-low, body-cut}
use Rattle.pager.specs.Steps.{Asking, bs, ws, held, PutEnds, GiveEnds, CallAt, PhaseAt, Stepped, Taken}
use Rattle.pager.specs.Model.{Held, undone, committed, Replies, commits, start_held, pager_judge, pager_engine, PagerWhole}
use Rattle.pager.specs.declared.state.Call.{Call}
use Rattle.pager.specs.declared.state.Call.TheVariants.{Get, Put, Give, Vacant, Commit, Undo}
use Rattle.pager.specs.declared.state.Reply.{Reply}
use Rattle.pager.specs.declared.state.Reply.TheVariants.{Page, Done, NoRoom, Found, Outside}
use Rattle.pager.specs.declared.state.Phase.{Phase}
use Rattle.pager.specs.declared.state.Phase.TheVariants.{Opening, Header, Fetch, Loading, Check, Comparing, Idle, Asked, Short, Getting, Putting, Filling, Settled, Marked, Sealed}
use Rattle.pager.specs.declared.state.Pager.{Pager}
use Rattle.pager.proofs.Invariant.{Of, same_view, Fixed, fixed_on, Stand, Off, RisingAt, Rising, Ready, InMarked, BusyAt, Busy, lost}
use Rattle.pager.proofs.Works.{Works, work}
use Rattle.pager.proofs.Rises.{Climbs, climb}

-- a blank map sector has blank entries
zero-entry : (S k : ℕ) → entry_in S (zeros 512) k ≡ 0
zero-entry S k =
    let e : raw_in (zeros 512) k ≡ 0 = number-zeros 0 (part (zeros 512) (8 * k) 8) (take-zeros 8 (drop (8 * k) (zeros 512)) (λ i. get_or-drop (8 * k) (zeros 512) i 0 ∙ zeros-at 512 (8 * k + i))) refl in
    ap (λ t. cond (leb t S) t 0) e ∙ ap (λ t. cond t 0 0) (le-leb 0 S (omega arith))

module _ (N M S : ℕ) (few : N ≤ 64 * M) where
  blank : Off N M S few start_held blank_device
  blank = record {
    area = false;
    map = λ p. 0;
    low = record {
      header = ap (λ t. eqb t 1) (zeros-at 512 0);
      header_calm = refl;
      body = record {
        map = λ p l. zero-entry S (p % 64);
        map_calm = λ i l. refl;
        page = λ p l. refl;
        page_calm = λ p l o j i. refl;
        fits = λ p l. omega arith;
        apart = λ p q l j e o. absurd (omega arith);
      };
    };
    quiet = λ x. refl;
    settled = λ p. refl;
    live = λ p l. refl;
    has = λ p l. refl;
    none = λ p. refl;
  }

  -- WHAT A CUT LEAVES
  module _ (c : With Call) (s : Held) (m : Pager) (d f : Device) (x : AfterCut d f) where
    Left : Type 0
    Left = Off N M S few (undone s) f ⊎ ((r : With Reply) × (t : Held) × Replies N S c s r t × Off N M S few (undone t) f)

    done : c.it ≡ Commit → Off N M S few (undone (committed s)) f → Left
    unfolding Left
    done e o = inr (and Done [], committed s, subst (λ z. Replies N S (and z c.bytes) s (and Done []) (committed s)) (sym e) (commits c.bytes [] s), o)

    marked : (h : Of (InMarked N M S few c s d) m) → (f.kept 0 ≡ d.kept 0) ⊎ (f.kept 0 ≡ h.header) → Left
    unfolding Left
    marked h (inl e) =
        inl (record {
          area = m.second;
          map = bs m;
          low = record { header = ap area_in e ∙ h.named; header_calm = x.nothing 0; body = body-cut N M S few m.second (bs m) s.base d f x h.body };
          quiet = x.nothing;
          settled = λ p. refl;
          live = h.lived.live;
          has = h.lived.live;
          none = λ p. refl;
        })
    marked h (inr e) =
        done h.commit (record {
          area = other m.second;
          map = ws m;
          low = record { header = ap area_in e ∙ h.names; header_calm = x.nothing 0; body = body-cut N M S few (other m.second) (ws m) s.now d f x h.next };
          quiet = x.nothing;
          settled = λ p. refl;
          live = h.lived.has;
          has = h.lived.has;
          none = λ p. refl;
        })

    left_at : (g : List ℕ) (p : Phase) → Of (BusyAt N M S few p c s (held m) g d) m → Left
    unfolding Left
    left_at g Opening h = absurd h
    left_at g Header h = absurd h
    left_at g (Fetch i) h = absurd h
    left_at g (Loading i) h = absurd h
    left_at g (Check i) h = absurd h
    left_at g (Comparing i) h = absurd h
    left_at g Idle h = absurd h
    left_at g (Asked e) h = inl (lost N M S few m.second (bs m) s d f x h.2.low h.2.lived.live)
    left_at g Short h = inl (lost N M S few m.second (bs m) s d f x h.stand.low h.stand.lived.live)
    left_at g (Getting e j) h = inl (lost N M S few m.second (bs m) s d f x h.stand.low h.stand.lived.live)
    left_at g (Putting e j) h = inl (lost N M S few m.second (bs m) s d f x h.low h.lived.live)
    left_at g (Filling i) h = inl (lost N M S few m.second (bs m) s d f x h.low h.lived.live)
    left_at g Settled h = inl (lost N M S few m.second (bs m) s d f x h.low h.lived.live)
    left_at g Marked h = marked h (cut-one d f 0 h.header x h.waits)
    left_at g Sealed h = done h.commit (lost N M S few (other m.second) (ws m) (committed s) d f x h.low h.lived.has)

  -- a call begins
  begins-at : (c : Call) (b : List ℕ) (s : Held) (m n : Pager) (g : List ℕ) (d : Device) → Taken c b n → Fixed N M S few n → Of (Stand N M S few s d) n → Busy N M S few (and c b) s n g d
  begins-at (Get p) b s m n g d e x h = record { fixed = x; at = subst (λ q. Of (BusyAt N M S few q (and (Get p) b) s (held n) g d) n) (sym e) (refl, tt, h) }
  begins-at (Put p) b s m n g d (inl e) x h = record { fixed = x; at = subst (λ q. Of (BusyAt N M S few q (and (Put p) b) s (held n) g d) n) (sym e.1) (refl, (e.0, e.2), h) }
  begins-at (Put p) b s m n g d (inr e) x h = record { fixed = x; at = subst (λ q. Of (BusyAt N M S few q (and (Put p) b) s (held n) g d) n) (sym e.1) (record { page = p; put = refl; short = e.0; stand = h }) }
  begins-at (Give p) b s m n g d e x h = record { fixed = x; at = subst (λ q. Of (BusyAt N M S few q (and (Give p) b) s (held n) g d) n) (sym e) (refl, tt, h) }
  begins-at (Vacant p) b s m n g d e x h = record { fixed = x; at = subst (λ q. Of (BusyAt N M S few q (and (Vacant p) b) s (held n) g d) n) (sym e) (refl, tt, h) }
  begins-at Commit b s m n g d e x h = record { fixed = x; at = subst (λ q. Of (BusyAt N M S few q (and Commit b) s (held n) g d) n) (sym e) (refl, tt, h) }
  begins-at Undo b s m n g d e x h = record { fixed = x; at = subst (λ q. Of (BusyAt N M S few q (and Undo b) s (held n) g d) n) (sym e) (refl, tt, h) }

  at-fixed : (m n : Pager) (g : List ℕ) (r : Asking) → Fixed N M S few m → PhaseAt m.pages m.maps m.slots m.phase m g r n → PhaseAt N M S m.phase m g r n
  at-fixed m n g r z x = subst (λ t. PhaseAt N M t m.phase m g r n) z.slots (subst (λ t. PhaseAt N t m.slots m.phase m g r n) z.maps (subst (λ t. PhaseAt t m.maps m.slots m.phase m g r n) z.pages x))

  climbs : (s : Held) (m n : Pager) (g : List ℕ) (d : Device) (r : Asking) → Rising N M S few s m g d → Stepped m g r n → Then d n.sector r (Rising N M S few s n) (λ _. Ready N M S few s n d)
  unfolding Climbs
  climbs s m n g d r h x = climb N M S few s m n g d (fixed_on N M S few m n x.does.sizes h.fixed) h.off r m.phase h.at (at-fixed m n g r h.fixed x.does.at)

  goes : (c : With Call) (s : Held) (m n : Pager) (g : List ℕ) (d : Device) (r : Asking) → Busy N M S few c s m g d → Stepped m g r n →
      Then d n.sector r (Busy N M S few c s n) (λ y. (t : Held) × Replies N S c s (and y (held n)) t × Ready N M S few t n d)
  unfolding Works
  goes c s m n g d r h x = work N M S few c s m n g d h.fixed (fixed_on N M S few m n x.does.sizes h.fixed) r m.phase h.at (at-fixed m n g r h.fixed x.does.at)

  -- ON EVERY CONTENT OF THE DEVICE: a step alone says that it stays within the device
  module _ (size : ℕ) (areas : 1 + 2 * M ≤ size) (tight : 1 + 2 * M + 8 * S ≤ size) where
    area-inside : (a : Bool) (i : ℕ) → i < M → area_at M a i < size
    area-inside a i h = let (x, y) = area-low M a i h in omega arith

    fair-put : (slot : Option ℕ) (n : Pager) (r : Asking) → PutEnds slot r n.phase → Fair size n.sector r
    fair-put None n r x = rw x.0 tt
    fair-put (Some slot) n r x = rw x.0 tt

    fair-give : (slot : Option ℕ) (n : Pager) (r : Asking) → GiveEnds slot r → Fair size n.sector r
    fair-give None n r x = rw x tt
    fair-give (Some slot) n r x = rw x tt

    fair-call : (c : Call) (m n : Pager) (r : Asking) → CallAt N M S c m r n → Fair size n.sector r
    fair-call (Get p) m n r (inl x) = rw x.1.ask tt
    fair-call (Get p) m n r (inr (inl x)) = rw x.goes.ask tt
    fair-call (Get p) m n r (inr (inr x)) = rw x.goes.ask (omega (arith, x.one, x.fits))
    fair-call (Put p) m n r (inl x) = rw x.1.ask tt
    fair-call (Put p) m n r (inr (inl x)) = rw x.ask tt
    fair-call (Put p) m n r (inr (inr x)) = fair-put x.slot n r x.ends
    fair-call (Give p) m n r (inl x) = rw x.1.ask tt
    fair-call (Give p) m n r (inr x) = fair-give x.slot n r x.ends
    fair-call (Vacant p) m n r (inl x) = rw x.goes.ask tt
    fair-call (Vacant p) m n r (inr x) = rw x.goes.ask tt
    fair-call Commit m n r x = rw x.ask tt
    fair-call Undo m n r x = rw x.ask tt

    fair-at : (p : Phase) (m n : Pager) (g : List ℕ) (r : Asking) → Sector n.sector → PhaseAt N M S p m g r n → Fair size n.sector r
    fair-at Opening m n g r z x = rw x.0 (omega arith)
    fair-at Header m n g r z x = rw x.ask tt
    fair-at (Fetch i) m n g r z (inl x) = rw x.1.ask (area-inside m.second i x.0)
    fair-at (Fetch i) m n g r z (inr x) = rw x.1.ask tt
    fair-at (Loading i) m n g r z (inl x) = rw x.ask tt
    fair-at (Loading i) m n g r z (inr x) = rw x.1.1 tt
    fair-at (Check i) m n g r z (inl x) = rw x.1.ask (area-inside (other m.second) i x.0)
    fair-at (Check i) m n g r z (inr x) = rw x.1.ask tt
    fair-at (Comparing i) m n g r z (inl x) = rw x.ask tt
    fair-at (Comparing i) m n g r z (inr x) = rw x.1.1 tt
    fair-at Idle m n g r z x = rw x.1 tt
    fair-at (Asked c) m n g r z x = fair-call c m n r x
    fair-at Short m n g r z x = rw x.ask tt
    fair-at (Getting e j) m n g r z (inl x) = rw x.goes.ask (omega (arith, x.one, x.fits, x.less))
    fair-at (Getting e j) m n g r z (inr (inl x)) = rw x.goes.ask tt
    fair-at (Getting e j) m n g r z (inr (inr x)) = rw x.1.1 tt
    fair-at (Putting e j) m n g r z (inl x) = rw x.goes.ask (omega (arith, x.one, x.fits, x.less), z)
    fair-at (Putting e j) m n g r z (inr (inl x)) = rw x.1.ask tt
    fair-at (Putting e j) m n g r z (inr (inr x)) = rw x.2.1 tt
    fair-at (Filling i) m n g r z (inl x) = rw x.1.ask tt
    fair-at (Filling i) m n g r z (inr x) = rw x.goes.ask (area-inside (other m.second) x.at x.inside, z)
    fair-at Settled m n g r z x = rw x.0.ask (omega arith, z)
    fair-at Marked m n g r z x = rw x.ask tt
    fair-at Sealed m n g r z x = rw x.ask tt

  -- what is left to do
  soon : Phase → ℕ
  soon Opening = 4 * M + 24
  soon Header = 4 * M + 23
  soon (Fetch i) = 2 * M + 10 + 2 * (M - i)
  soon (Loading i) = 2 * M + 9 + 2 * (M - i)
  soon (Check i) = 4 + 2 * (M - i)
  soon (Comparing i) = 3 + 2 * (M - i)
  soon Idle = 0
  soon (Asked c) = M + 20
  soon Short = 1
  soon (Getting e j) = 9 - j
  soon (Putting e j) = 9 - j
  soon (Filling i) = 4 + (M - i)
  soon Settled = 3
  soon Marked = 2
  soon Sealed = 1

  module _ (m n : Pager) (g : List ℕ) (r : Asking) (k : Asks r) where
    to : (p q : Phase) → n.phase ≡ p → soon p < soon q → soon n.phase < soon q
    to p q e h = subst (λ t. soon t < soon q) (sym e) h

    gave : (y : Reply) (a b : ℕ) → r ≡ Answer y → a < b
    gave y a b e = absurd (subst (λ t. Asks {V = Never} t) e k)

    falls-put : (p : ℕ) (slot : Option ℕ) → PutEnds slot r n.phase → soon n.phase < soon (Asked (Put p))
    unfolding soon
    falls-put p None x = gave NoRoom _ _ x.0
    falls-put p (Some slot) x = to (Putting slot 0) (Asked (Put p)) x.1 (omega arith)

    falls-give : (p : ℕ) (slot : Option ℕ) → GiveEnds slot r → soon n.phase < soon (Asked (Give p))
    falls-give p None x = gave NoRoom _ _ x
    falls-give p (Some slot) x = gave Done _ _ x

    falls-call : (c : Call) → CallAt N M S c m r n → soon n.phase < soon (Asked c)
    unfolding soon
    falls-call (Get p) (inl x) = gave Outside _ _ x.1.ask
    falls-call (Get p) (inr (inl x)) = gave Page _ _ x.goes.ask
    falls-call (Get p) (inr (inr x)) = to (Getting (ws m p) 0) (Asked (Get p)) x.goes.phase (omega arith)
    falls-call (Put p) (inl x) = gave Outside _ _ x.1.ask
    falls-call (Put p) (inr (inl x)) = gave Done _ _ x.ask
    falls-call (Put p) (inr (inr x)) = falls-put p x.slot x.ends
    falls-call (Give p) (inl x) = gave Outside _ _ x.1.ask
    falls-call (Give p) (inr x) = falls-give p x.slot x.ends
    falls-call (Vacant p) (inl x) = gave (Found (Some x.page)) _ _ x.goes.ask
    falls-call (Vacant p) (inr x) = gave (Found None) _ _ x.goes.ask
    falls-call Commit x = to (Filling 0) (Asked Commit) x.phase (omega arith)
    falls-call Undo x = gave Done _ _ x.ask

    falls_at : (p : Phase) → PhaseAt N M S p m g r n → soon n.phase < soon p
    unfolding soon
    falls_at Opening x = to Header Opening x.1 (omega arith)
    falls_at Header x = to (Fetch 0) Header x.phase (omega arith)
    falls_at (Fetch i) (inl x) = to (Loading i) (Fetch i) x.1.phase (omega arith)
    falls_at (Fetch i) (inr x) = to (Check 0) (Fetch i) x.1.phase (omega arith)
    falls_at (Loading i) (inl x) = to (Fetch (i + 1)) (Loading i) x.phase (omega (arith, x.inside))
    falls_at (Loading i) (inr x) = gave x.1.0 _ _ x.1.1
    falls_at (Check i) (inl x) = to (Comparing i) (Check i) x.1.phase (omega arith)
    falls_at (Check i) (inr x) = gave Done _ _ x.1.ask
    falls_at (Comparing i) (inl x) = to (Check (i + 1)) (Comparing i) x.phase (omega (arith, x.inside))
    falls_at (Comparing i) (inr x) = gave x.1.0 _ _ x.1.1
    falls_at Idle x = gave x.0 _ _ x.1
    falls_at (Asked c) x = falls-call c x
    falls_at Short x = gave Outside _ _ x.ask
    falls_at (Getting e j) (inl x) = to (Getting e (j + 1)) (Getting e j) x.goes.phase (omega (arith, x.less))
    falls_at (Getting e j) (inr (inl x)) = gave Page _ _ x.goes.ask
    falls_at (Getting e j) (inr (inr x)) = gave x.1.0 _ _ x.1.1
    falls_at (Putting e j) (inl x) = to (Putting e (j + 1)) (Putting e j) x.goes.phase (omega (arith, x.less))
    falls_at (Putting e j) (inr (inl x)) = gave Done _ _ x.1.ask
    falls_at (Putting e j) (inr (inr x)) = gave x.2.0 _ _ x.2.1
    falls_at (Filling i) (inl x) = to Settled (Filling i) x.1.phase (omega arith)
    falls_at (Filling i) (inr x) = to (Filling (x.at + 1)) (Filling i) x.goes.phase (omega (arith, x.inside, x.from))
    falls_at Settled x = to Marked Settled x.0.phase (omega arith)
    falls_at Marked x = to Sealed Marked x.phase (omega arith)
    falls_at Sealed x = gave Done _ _ x.ask

  then-any : (r : Asking) (n : Pager) → Fixed N M S few n → ending.Then (λ k m. Fixed N M S few m) r n
  then-any (Read s) n h = h
  then-any (Write s) n h = h
  then-any Sync n h = h
  then-any Again n h = h
  then-any (Hand v) n h = h
  then-any (Answer y) n h = h

-- ALL TOGETHER
few-of : (size : ℕ) → pages size ≤ 64 * map_sectors size
few-of size = omega arith

standing : (size : ℕ) → Standing (pager_judge size) pager_engine size
unfolding Left
standing size =
    let N = pages size in
    let M = map_sectors size in
    let S = slots size in
    let few = few-of size in
    record {
      Off = Off N M S few;
      Rising = Rising N M S few;
      Ready = Ready N M S few;
      Busy = λ c vs s m g d. Busy N M S few c s m g d;
      blank = blank N M S few;
      opens = λ s m g d o p. record {
        fixed = record { pages = p.pages; maps = p.maps; slots = p.slots };
        off = o;
        at = subst (λ q. RisingAt N M S few q s o.area o.map m g d) (sym p.phase) tt;
      };
      begins = λ c s m n g d h p. begins-at N M S few c.it c.bytes s m n g d p.taken (fixed_on N M S few m n p.sizes h.fixed) (same_view (Stand N M S few s d) m n p.same h.stand);
      climbs = λ s m n g d r h p. climbs N M S few s m n g d r h p;
      works = λ c vs s m n g d r h p. goes N M S few c s m n g d r h p;
      cut_rising = λ s m g d f h x. lost N M S few h.off.area h.off.map s d f x h.off.low h.off.live;
      cut_ready = λ s m d f h x. lost N M S few m.second (bs m) s d f x h.stand.low h.stand.lived.live;
      cut_busy = λ c vs s m g d f h x. elim (left_at N M S few c s m d f x g m.phase h.at) [ inl o ↦ inl (begun-none (pager_judge size) c s vs, o) | inr o ↦ inr ([], o.0, o.1, o.2, o.3) ];
    }

steadily : (size : ℕ) → Sized size → Steady pager_engine size
steadily size z =
    let N = pages size in
    let M = map_sectors size in
    let S = slots size in
    let few = few-of size in
    record {
      Inv = λ k m. Fixed N M S few m;
      opens = λ m p. record { pages = p.pages; maps = p.maps; slots = p.slots };
      begins = λ c m n h p. fixed_on N M S few m n p.sizes h;
      steps = λ m n g r h s p. (
        fair-at N M S few size (omega (arith, z.least)) (omega (arith, z.least)) m.phase m n g r p.sector (at-fixed N M S few m n g r h p.does.at),
        then-any N M S few r n (fixed_on N M S few m n p.does.sizes h),
      );
    }

pub pager_whole : PagerWhole
unfolding steadily
pager_whole = record {
  keeps = λ size z. keeps (pager_judge size) pager_engine size (standing size);
  within = λ size z. within_by pager_engine size (steadily size z);
  ends = λ size z. ends_by pager_engine size (steadily size z) (λ m. soon (pages size) (map_sectors size) (slots size) (few-of size) m.phase)
      (λ m n g r h s p k. falls_at (pages size) (map_sectors size) (slots size) (few-of size) m n g r k m.phase (at-fixed (pages size) (map_sectors size) (slots size) (few-of size) m n g r h p.does.at));
}
