-- The frames keep to the model of pages above any store that keeps to the pager's, and so on the device.
use Rattle.std.proofs.Common.{◌≡◌, ℕ, ◌+◌, ◌-◌, ◌<◌, ◌≤◌, Bool, true, false, ◌⊎◌, Some, None, List, [], length, get_or, vec_items, sym, refl, ap, ◌∙◌, subst, inl, inr, arith, get_or-set_other, get_or-set_same}
use Rattle.std.proofs.lemmas.Bool.{not-true, not-false, true≢false}
use Rattle.std.proofs.lemmas.Grind.{common_steps}
use Rattle.device.specs.Device.{With, and, Sized}
use Rattle.device.specs.declared.Never.{Never}
use Rattle.device.specs.declared.Next.TheVariants as next
use Rattle.device.proofs.Sectors.{begun-none}
use Rattle.device.proofs.StandingAbove.{Led, StandingAbove}
use Rattle.octets.specs.Parts.{blank}
use Rattle.shadow.specs.Layout.{pages, slots, blank_page, updated}
use Rattle.pager.specs.Model.{Held, undone, committed, changed, cleared, Crowded, pager_judge}
use Rattle.pager.specs.Model as low
use Rattle.pager.specs.declared.state.Call.{Call}
use Rattle.pager.specs.declared.state.Call.TheVariants as call
use Rattle.pager.specs.declared.state.Reply.{Reply}
use Rattle.pager.specs.declared.state.Reply.TheVariants.{Page, Done, NoRoom, Found, Outside}
use Rattle.pages.specs.Layer.{Turn, frame_of, tg, st, fr, given, send_of, Refills, Vacates, Stores, Hit, GetBy, PutBy, FlushOn, CallStarts, Starts, OwnBy, Told, ClearBy, Made, Flushed, Hears, frames_layer}
use Rattle.pages.specs.Model.{Pages, put_page, keep, drop, Replies, gets, gets_none, puts, full, puts_none, puts_short, finds, finds_none, commits, undoes, pages_judge}
use Rattle.pages.specs.declared.frames.PageCall.{PageCall}
use Rattle.pages.specs.declared.frames.PageCall.TheVariants.{Get, Put, Vacant, Commit, Undo}
use Rattle.pages.specs.declared.frames.Doing.{Doing}
use Rattle.pages.specs.declared.frames.Doing.TheVariants.{Rising, Resting, Asked, Short, Owning, Evicting, Clearing, Making, Fetching, Searching, Flushing, Committing, Undoing}
use Rattle.pages.specs.declared.frames.Frames.{Frames}
use Rattle.pages.proofs.Agree.{at_same, at_other, Core, Cache, NoPage, cache-but, cache-fill, cache-leave, cache-plain, cache-weak, cache-wrote, wrote-holds, wrote-own, own-full, core-wrote, core-put, core-again, core-clear, blank-same, based, down-of, cache-empty, clean-same, core-keep, cache-keep, room}
use Rattle.pages.proofs.Cuts.{raised_at, taken_at, blank-down, Lost, amid-based, lost, done_at}
use Rattle.pages.proofs.Between.{put_of, clear_of, give-of, get-of, First, vacant-of, commit-of, undo-of, Of, Putting, Sending, InOwning, InEvicting, InClearing, InMaking, InFetching, InSearching, InFlushing, InCommitting, InUndoing, Amid, Known, BegunAt, Inv, cache-same, same-cache, same_of, same_tag, same_flag}

-- ON A DEVICE OF SO MANY SECTORS
module _ (size : ℕ) (sized : Sized size) where
  abbrev P : ℕ
  P = pages size

  abbrev S : ℕ
  S = slots size

  small : (p : ℕ) → p < P → p < 18446744073709551615
  small p l = omega (arith, sized.most)

  -- what a frame has after it was refilled
  module _ (p tag : ℕ) (flag : Bool) (bytes : List ℕ) (a b : Frames) (x : Refills p tag flag bytes a b) where
    tag-here : tg b (frame_of p) ≡ tag
    tag-here = ap (λ (v : List ℕ). get_or v (frame_of p) 0) x.tags ∙ get_or-set_same (vec_items a.tags) (frame_of p) tag 0 (omega (arith, a.tlen, a.tags.ok.0))

    flag-here : st b (frame_of p) ≡ flag
    flag-here = ap (λ (v : List Bool). get_or v (frame_of p) false) x.stale ∙ get_or-set_same (vec_items a.stale) (frame_of p) flag false (omega (arith, a.slen, a.stale.ok.0))

    row_here : fr b (frame_of p) ≡ bytes
    row_here = ap (λ (v : List (List ℕ)). get_or v (frame_of p) []) x.rows ∙ get_or-set_same (vec_items a.rows) (frame_of p) bytes [] (omega (arith, a.rlen, a.rows.ok.0))

    tag-there : (f : ℕ) → (f ≡ frame_of p → ⊥) → tg b f ≡ tg a f
    tag-there f n = ap (λ (v : List ℕ). get_or v f 0) x.tags ∙ get_or-set_other (vec_items a.tags) (frame_of p) f tag 0 n

    flag-there : (f : ℕ) → (f ≡ frame_of p → ⊥) → st b f ≡ st a f
    flag-there f n = ap (λ (v : List Bool). get_or v f false) x.stale ∙ get_or-set_other (vec_items a.stale) (frame_of p) f flag false n

    row-there : (f : ℕ) → (f ≡ frame_of p → ⊥) → fr b f ≡ fr a f
    row-there f n = ap (λ (v : List (List ℕ)). get_or v f []) x.rows ∙ get_or-set_other (vec_items a.rows) (frame_of p) f bytes [] n

  -- and after it was left
  vacated-tag : (p : ℕ) (a b : Frames) → Vacates p a b → tg b (frame_of p) ≡ 0
  vacated-tag p a b x = ap (λ (v : List ℕ). get_or v (frame_of p) 0) x.tags ∙ get_or-set_same (vec_items a.tags) (frame_of p) 0 0 (omega (arith, a.tlen, a.tags.ok.0))

  vacated-flag : (p : ℕ) (a b : Frames) → Vacates p a b → st b (frame_of p) ≡ false
  vacated-flag p a b x = ap (λ (v : List Bool). get_or v (frame_of p) false) x.stale ∙ get_or-set_same (vec_items a.stale) (frame_of p) false false (omega (arith, a.slen, a.stale.ok.0))

  vacated : (p : ℕ) (a b : Frames) (z : ℕ → Bool) (s : Held) (t : Pages) → Vacates p a b → ((f : ℕ) → (f ≡ frame_of p → ⊥) → z f ≡ st a f) → (p < P → s.now p ≡ t.now p) → (z (frame_of p) ≡ true → tg a (frame_of p) ≡ p + 1) →
      Cache P (λ q. q ≡ p) (tg a) z (fr a) s t → Cache P (NoPage P) (tg b) (st b) (fr b) s t
  vacated p a b z s t x zs same old h =
      cache-leave P p (tg a) (tg b) z (st b) (fr a) (fr b) s t
      (λ f n. ap (λ (v : List ℕ). get_or v f 0) x.tags ∙ get_or-set_other (vec_items a.tags) (frame_of p) f 0 0 n)
      (λ f n. ap (λ (v : List Bool). get_or v f false) x.stale ∙ get_or-set_other (vec_items a.stale) (frame_of p) f false false n ∙ sym (zs f n))
      (λ f n. ap (λ v. get_or (vec_items v) f []) x.rows)
      (vacated-tag p a b x) (vacated-flag p a b x) same old h

  module _ (c : With PageCall) (us : List (With Never)) (a b : Frames) (x : Turn) (t : Pages) where
    Leads : Held → Type 0
    Leads u = Led (pager_judge size) (pages_judge size) frames_layer (Inv P S) c us x b u t

    give : (u : Held) (e : PageCall) (y : Reply) (t' : Pages) → e ≡ c.it → x ≡ next.Give y → Replies size (and e c.bytes) t (and y (fr b b.at)) t' → Of P S b u t' → Leads u
    unfolding Leads
    give u e y t' k q p o = rw q (t', subst (λ z. Replies size (and z c.bytes) t (and y (fr b b.at)) t') k p, o)

    ask : (u : Held) (k : Call) (d : Doing) → x ≡ next.Call k → b.doing ≡ d → Amid P S d c (and k (send_of d b)) b u t → Leads u
    unfolding Leads
    ask u k d q e h = rw q (subst (λ z. Amid P S z c (and k (send_of z b)) b u t) (sym e) h)

    -- the page that is put is in its frame
    store : (p : ℕ) (u : Held) (z : ℕ → Bool) → ((f : ℕ) → (f ≡ frame_of p → ⊥) → z f ≡ st a f) → p < P → Putting P S p c a → Core P u (put_page p c.bytes t) → Cache P (λ q. q ≡ p) (tg a) z (fr a) u (put_page p c.bytes t) → u.given p ≡ true → (z (frame_of p) ≡ true → tg a (frame_of p) ≡ p + 1) → Stores p a x b → Leads u
    store p u z zs l w core cache own old y =
        let t' : Pages = put_page p c.bytes t in
        let k = y.refills (small p l) in
        let up : st b (frame_of p) ≡ true = flag-here p (p + 1) true (given a) a b k in
        give u (Put p) Done t' (sym w.put) y.turn (puts p c.bytes (fr b b.at) t l w.long) (record {
          core = core;
          cache = cache-fill P p l (tg a) (tg b) z (st b) (fr a) (fr b) u t' (tag-there p (p + 1) true (given a) a b k) (λ f n. flag-there p (p + 1) true (given a) a b k f n ∙ sym (zs f n)) (row-there p (p + 1) true (given a) a b k)
              (tag-here p (p + 1) true (given a) a b k) (row_here p (p + 1) true (given a) a b k ∙ w.bytes ∙ sym (at_same p p c.bytes t.now refl)) (λ _. own) (λ e. absurd (true≢false (sym up ∙ e))) old cache;
        })

    -- AT A CALL
    start-get : (p : ℕ) (s : Held) (h z : Bool) → Get p ≡ c.it → Of P S a s t → Hit p a h → st a (frame_of p) ≡ z → GetBy h z p a x b → Leads s
    start-get p s true z e o i k y =
        let l = (o.cache.inside (frame_of p) p i).0 in
        let u : fr b b.at ≡ t.now p = ap (fr b) y.1 ∙ ap (λ v. get_or (vec_items v) (frame_of p) []) y.0.same.rows ∙ o.cache.holds p l (λ n. n) i in
        give s (Get p) Page t e y.0.turn (subst (λ v. Replies size (and (Get p) c.bytes) t (and Page v) t) (sym u) (gets p c.bytes t l)) (same_of P S a b s t y.0.same o)
    start-get p s false true e o i k y =
        ask s (call.Put (tg a (frame_of p) - 1)) (Making p) y.turn y.doing (record {
          get = sym e;
          sending = record { call = ap (λ q. call.Put (q - 1)) (sym (same_tag P S a b (frame_of p) y.same)); bytes = ap (fr b) y.at; stale = same_flag P S a b (frame_of p) y.same ∙ k };
          other = λ q. i (sym (same_tag P S a b (frame_of p) y.same) ∙ q);
          of = same_of P S a b s t y.same o;
        })
    start-get p s false false e o i k y =
        ask s (call.Get p) (Fetching p) y.turn y.doing (record {
          get = sym e;
          call = refl;
          other = λ q. i (sym (same_tag P S a b (frame_of p) y.same) ∙ q);
          clean = same_flag P S a b (frame_of p) y.same ∙ k;
          of = same_of P S a b s t y.same o;
        })

    start-put : (p : ℕ) (s : Held) (n h z : Bool) → Put p ≡ c.it → Known P S (Put p) c.bytes a → Of P S a s t → blank (given a) ≡ n → Hit p a h → st a (frame_of p) ≡ z → PutBy n h z p a x b → Leads s
    start-put p s true h z e w o m i k y =
        ask s (call.Put p) (Clearing p) y.0.turn y.0.doing (record {
          put = sym e;
          long = w.0;
          blank = ap blank (sym w.1) ∙ m;
          call = refl;
          bytes = ap vec_items y.1 ∙ w.1;
          of = same_of P S a b s t y.0.same o;
        })
    start-put p s false true true e w o m i k y =
        let l = (o.cache.inside (frame_of p) p i).0 in
        let own = o.cache.own p l (λ n. n) i k in
        let f = ap blank (sym w.1) ∙ m in
        store p s (st a) (λ f n. refl) l (record { put = sym e; long = w.0; bytes = w.1; full = f }) (core-again P s t p c.bytes l o.core w.0 f own)
        (cache-but P p (tg a) (st a) (fr a) s s t (put_page p c.bytes t) (record { given = λ q n. refl; below = λ q n. refl; above = λ q n. at_other p q c.bytes t.now n }) o.cache) own (λ _. i) y
    start-put p s false true false e w o m i k y =
        ask s (call.Give p) (Owning p) y.0.turn y.0.doing (record {
          putting = record { put = sym e; long = w.0; bytes = ap vec_items y.1 ∙ w.1; full = ap blank (sym w.1) ∙ m };
          call = refl;
          of = same_of P S a b s t y.0.same o;
        })
    start-put p s false false z e w o m i k y =
        ask s (call.Give p) (Owning p) y.0.turn y.0.doing (record {
          putting = record { put = sym e; long = w.0; bytes = ap vec_items y.1 ∙ w.1; full = ap blank (sym w.1) ∙ m };
          call = refl;
          of = same_of P S a b s t y.0.same o;
        })

    -- the next stale frame, or the commit
    flush-on : (i : ℕ) (s : Held) → Commit ≡ c.it → ((k : ℕ) → k < i → st b k ≡ false) → Of P S b s t → FlushOn i x b → Leads s
    flush-on i s e clean o (inl y) =
        ask s (call.Put (tg b b.at - 1)) (Flushing b.at) y.turn y.doing (record {
          commit = sym e;
          less = b.low;
          sending = record { call = refl; bytes = refl; stale = y.stale };
          clean = λ k l. grind (arith, common_steps, y.clean k, clean k);
          of = o;
        })
    flush-on i s e clean o (inr y) = ask s call.Commit Committing y.turn y.doing (record { commit = sym e; call = refl; clean = λ k l. grind (arith, common_steps, y.clean k, clean k); of = o })

    start-call : (e : PageCall) (s : Held) → e ≡ c.it → Known P S e c.bytes a → Of P S a s t → CallStarts e a x b → Leads s
    start-call (Get p) s e w o y = start-get p s y.hit (st a (frame_of p)) e o y.hits refl y.by
    start-call (Put p) s e w o y = start-put p s (blank (given a)) y.hit (st a (frame_of p)) e w o refl y.hits refl y.by
    start-call (Vacant p) s e w o y = ask s (call.Vacant p) Searching y.turn y.doing (record { page = p; vacant = sym e; call = refl; of = same_of P S a b s t y.same o })
    start-call Commit s e w o y = flush-on 0 s e (λ k l. absurd (omega arith)) (same_of P S a b s t y.0 o) y.1
    start-call Undo s e w o y = ask s call.Undo Undoing y.turn y.doing (record { undo = sym e; call = refl; empty = record { none = y.none; clean = y.clean }; core = o.core })

    start-at : (d : Doing) (s : Held) → BegunAt P S d c a → Of P S a s t → Starts d a x b → Leads s
    start-at Rising s w o y = absurd w
    start-at Resting s w o y = absurd w
    start-at (Asked e) s w o y = start-call e s w.0 w.1 o y
    start-at Short s w o y = give s (Put w.0) Outside t (sym w.1) y.turn (puts_short w.0 c.bytes (fr b b.at) t w.2) (same_of P S a b s t y.same o)
    start-at (Owning p) s w o y = absurd w
    start-at (Evicting p) s w o y = absurd w
    start-at (Clearing p) s w o y = absurd w
    start-at (Making p) s w o y = absurd w
    start-at (Fetching p) s w o y = absurd w
    start-at Searching s w o y = absurd w
    start-at (Flushing i) s w o y = absurd w
    start-at Committing s w o y = absurd w
    start-at Undoing s w o y = absurd w

    -- WHEN THE PAGER HAS ANSWERED
    -- it says no, or what it found
    told_none : (p : ℕ) (s u : Held) (r : With Reply) → Put p ≡ c.it → pages size ≤ p → u ≡ s → Of P S a s t → Told Outside a x b → Leads u
    told_none p s u r e l k o y = subst Leads (sym k) (give s (Put p) Outside t e y.turn (puts_none p c.bytes (fr b b.at) t l) (same_of P S a b s t y.same o))

    own-by : (p : ℕ) (s : Held) (v : List ℕ) (h z : Bool) → p < P → Putting P S p c a → Of P S a s t → Hit p a h → st a (frame_of p) ≡ z → OwnBy h z p a x b → Leads (changed p v s)
    own-by p s v h z l w o i k y = by h z i k y
      where
        core : Core P (changed p v s) (put_page p c.bytes t)
        core = core-put P s t p v c.bytes o.core w.long w.full

        cache : Cache P (λ q. q ≡ p) (tg a) (st a) (fr a) (changed p v s) (put_page p c.bytes t)
        cache = cache-but P p (tg a) (st a) (fr a) s (changed p v s) t (put_page p c.bytes t) (record { given = λ q n. at_other p q true s.given n; below = λ q n. at_other p q v s.now n; above = λ q n. at_other p q c.bytes t.now n }) o.cache

        own : (changed p v s).given p ≡ true
        own = at_same p p true s.given refl

        by : (h z : Bool) → Hit p a h → st a (frame_of p) ≡ z → OwnBy h z p a x b → Leads (changed p v s)
        by true z i k y = store p (changed p v s) (st a) (λ f n. refl) l w core cache own (λ _. i) y
        by false true i k y =
            ask (changed p v s) (call.Put (tg a (frame_of p) - 1)) (Evicting p) y.turn y.doing (record {
              putting = record { put = w.put; long = w.long; bytes = ap vec_items y.page ∙ w.bytes; full = w.full };
              sending = record { call = ap (λ q. call.Put (q - 1)) (sym (same_tag P S a b (frame_of p) y.same)); bytes = ap (fr b) y.at; stale = same_flag P S a b (frame_of p) y.same ∙ k };
              inside = l;
              other = λ q. i (sym (same_tag P S a b (frame_of p) y.same) ∙ q);
              owned = own;
              core = core;
              cache = same-cache P S (λ q. q ≡ p) a b (changed p v s) (put_page p c.bytes t) y.same cache;
            })
        by false false i k y = store p (changed p v s) (st a) (λ f n. refl) l w core cache own (λ e. absurd (true≢false (sym e ∙ k))) y

    hear-owning : (p : ℕ) (d : With Call) (s u : Held) (r : With Reply) → InOwning P S p c d a s t → low.Replies P S d s r u → Hears (Owning p) r.it r.bytes a x b → Leads u
    hear-owning p d s u r h y q = by (give-of P S p d.bytes s r u (subst (λ k. low.Replies P S (and k d.bytes) s r u) h.call y))
      where
        hears : (k : Reply) → r.it ≡ k → Hears (Owning p) k r.bytes a x b
        hears k e = subst (λ z. Hears (Owning p) z r.bytes a x b) e q

        by : ((r.it ≡ Outside) × (P ≤ p) × (u ≡ s)) ⊎ ((r.it ≡ NoRoom) × Crowded P S p s × (u ≡ s)) ⊎ ((r.it ≡ Done) × (p < P) × ((v : List ℕ) × (u ≡ changed p v s))) → Leads u
        by (inl e) = told_none p s u r (sym h.putting.put) e.1 e.2 h.of (hears Outside e.0)
        by (inr (inl e)) =
            let k = hears NoRoom e.0 in
            subst Leads (sym e.2) (give s (Put p) NoRoom t (sym h.putting.put) k.turn
            (full p c.bytes (fr b b.at) t e.1.inside h.putting.long (room P S p c.bytes s t e.1 h.putting.full h.of.core)) (same_of P S a b s t k.same h.of))
        by (inr (inr e)) =
            let k = hears Done e.0 in
            subst Leads (sym e.2.1) (own-by p s e.2.0 k.hit (st a (frame_of p)) e.1 h.putting h.of k.hits refl k.by)

    -- a stale frame was written back
    module _ (E : ℕ → Type 0) (f : ℕ) (d : With Call) (s u : Held) (r : With Reply) (t' : Pages) (w : Sending P S f d a) (core : Core P s t') (cache : Cache P E (tg a) (st a) (fr a) s t') (but : E (tg a f - 1) → ⊥) (y : low.Replies P S d s r u) where
      back-tag : tg a f ≡ tg a f - 1 + 1
      back-tag = let k = cache.tagged f w.stale in omega arith

      back_in : (tg a f - 1 < P) × (frame_of (tg a f - 1) ≡ f)
      back_in = cache.inside f (tg a f - 1) back-tag

      back-own : s.given (tg a f - 1) ≡ true
      back-own = wrote-own P E (tg a) (st a) (updated f false (st a)) (fr a) s t' f (tg a f - 1) back-tag w.stale but (at_same f f false (st a) refl) (λ k n. at_other f k false (st a) n) cache

      back-holds : fr a f ≡ t'.now (tg a f - 1)
      back-holds = wrote-holds P E (tg a) (st a) (updated f false (st a)) (fr a) s t' f (tg a f - 1) back-tag w.stale but (at_same f f false (st a) refl) (λ k n. at_other f k false (st a) n) cache

      back_is : u ≡ changed (tg a f - 1) (fr a f) s
      back_is =
          let l = back_in.0 in
          let k = own-full P s t' (tg a f - 1) l core back-own in
          put_of P S (tg a f - 1) (fr a f) s r u l (ap length back-holds ∙ core.long (tg a f - 1) l) (ap blank back-holds ∙ k) back-own
          (subst (λ v. low.Replies P S (and (call.Put (tg a f - 1)) v) s r u) w.bytes (subst (λ k. low.Replies P S (and k d.bytes) s r u) w.call y))

      back-core : Core P u t'
      back-core = subst (λ k. Core P k t') (sym back_is) (core-wrote P s t' (tg a f - 1) (fr a f) back_in.0 core back-own)

      back-cache : (z : ℕ → Bool) → z f ≡ false → ((k : ℕ) → (k ≡ f → ⊥) → z k ≡ st a k) → Cache P E (tg a) z (fr a) u t'
      back-cache z e n = subst (λ k. Cache P E (tg a) z (fr a) k t') (sym back_is) (cache-wrote P E (tg a) (st a) z (fr a) s t' f (tg a f - 1) back-tag w.stale but e n cache)

    given-kept : (s : Held) (p q : ℕ) (v : List ℕ) → s.given p ≡ true → (changed q v s).given p ≡ true
    given-kept s p q v e = grind (arith, common_steps)

    hear-evicting : (p : ℕ) (d : With Call) (s u : Held) (r : With Reply) → InEvicting P S p c d a s t → low.Replies P S d s r u → Stores p a x b → Leads u
    hear-evicting p d s u r h y q =
        let f = frame_of p in
        let t' : Pages = put_page p c.bytes t in
        let E : ℕ → Type 0 = λ k. k ≡ p in
        let but : tg a f - 1 ≡ p → ⊥ = λ e. h.other (back-tag E f d s u r t' h.sending h.core h.cache (λ e. h.other (let k = h.cache.tagged f h.sending.stale in omega arith)) y ∙ ap (λ k. k + 1) e) in
        let z : ℕ → Bool = updated f false (st a) in
        store p u z (λ k n. at_other f k false (st a) n) h.inside h.putting (back-core E f d s u r t' h.sending h.core h.cache but y)
        (back-cache E f d s u r t' h.sending h.core h.cache but y z (at_same f f false (st a) refl) (λ k n. at_other f k false (st a) n))
        (subst (λ k. k.given p ≡ true) (sym (back_is E f d s u r t' h.sending h.core h.cache but y)) (given-kept s p (tg a f - 1) (fr a f) h.owned))
        (λ e. absurd (true≢false (sym e ∙ at_same f f false (st a) refl))) q

    hear-clearing : (p : ℕ) (d : With Call) (s u : Held) (r : With Reply) → InClearing P S p c d a s t → low.Replies P S d s r u → Hears (Clearing p) r.it r.bytes a x b → Leads u
    hear-clearing p d s u r h y q =
        by (clear_of P S p c.bytes s r u h.long h.blank (subst (λ v. low.Replies P S (and (call.Put p) v) s r u) h.bytes (subst (λ k. low.Replies P S (and k d.bytes) s r u) h.call y)))
      where
        hears : (k : Reply) → r.it ≡ k → Hears (Clearing p) k r.bytes a x b
        hears k e = subst (λ z. Hears (Clearing p) z r.bytes a x b) e q

        same : (cleared p s).now p ≡ (put_page p c.bytes t).now p
        same = at_same p p blank_page s.now refl ∙ blank-same P c.bytes h.long h.blank ∙ sym (at_same p p c.bytes t.now refl)

        cache : Cache P (λ q. q ≡ p) (tg a) (st a) (fr a) (cleared p s) (put_page p c.bytes t)
        cache = cache-but P p (tg a) (st a) (fr a) s (cleared p s) t (put_page p c.bytes t) (record { given = λ q n. at_other p q false s.given n; below = λ q n. at_other p q blank_page s.now n; above = λ q n. at_other p q c.bytes t.now n }) h.of.cache

        leaves : (i : Bool) → Hit p a i → ClearBy i p a b → Cache P (NoPage P) (tg b) (st b) (fr b) (cleared p s) (put_page p c.bytes t)
        leaves true k v = vacated p a b (st a) (cleared p s) (put_page p c.bytes t) v (λ f n. refl) (λ _. same) (λ _. k) cache
        leaves false k v = same-cache P S (NoPage P) a b (cleared p s) (put_page p c.bytes t) v (cache-plain P p (tg a) (st a) (fr a) (cleared p s) (put_page p c.bytes t) k (λ _. same) cache)

        by : ((r.it ≡ Outside) × (P ≤ p) × (u ≡ s)) ⊎ ((r.it ≡ Done) × (p < P) × (u ≡ cleared p s)) → Leads u
        by (inl e) = told_none p s u r (sym h.put) e.1 e.2 h.of (hears Outside e.0)
        by (inr e) =
            let k = hears Done e.0 in
            subst Leads (sym e.2) (give (cleared p s) (Put p) Done (put_page p c.bytes t) (sym h.put) k.turn (puts p c.bytes (fr b b.at) t e.1 h.long)
            (record { core = core-clear P s t p c.bytes h.of.core h.long h.blank; cache = leaves k.hit k.hits k.by }))

    hear-making : (p : ℕ) (d : With Call) (s u : Held) (r : With Reply) → InMaking P S p c d a s t → low.Replies P S d s r u → Made p a x b → Leads u
    hear-making p d s u r h y q =
        let f = frame_of p in
        let o = h.of in
        let z : ℕ → Bool = updated f false (st a) in
        let cache : Cache P (NoPage P) (tg a) z (fr a) u t = back-cache (NoPage P) f d s u r t h.sending o.core o.cache (λ n. n) y z (at_same f f false (st a) refl) (λ k n. at_other f k false (st a) n) in
        let down : z f ≡ false = at_same f f false (st a) refl in
        let e : tg b f ≡ 0 = vacated-tag p a b q.vacates in
        ask u (call.Get p) (Fetching p) q.turn q.doing (record {
          get = h.get;
          call = refl;
          other = λ k. omega arith;
          clean = vacated-flag p a b q.vacates;
          of = record {
            core = back-core (NoPage P) f d s u r t h.sending o.core o.cache (λ n. n) y;
            cache = vacated p a b z u t q.vacates (λ k n. at_other f k false (st a) n) (λ l. cache.cold p l (λ n. n) (λ i j. true≢false (sym j ∙ down))) (λ j. absurd (true≢false (sym j ∙ down))) (cache-weak P p (tg a) z (fr a) u t cache);
          };
        })

    hear-fetching : (p : ℕ) (d : With Call) (s u : Held) (r : With Reply) → InFetching P S p c d a s t → low.Replies P S d s r u → Hears (Fetching p) r.it r.bytes a x b → Leads u
    hear-fetching p d s u r h y q = by (get-of P S p d.bytes s r u (subst (λ k. low.Replies P S (and k d.bytes) s r u) h.call y))
      where
        hears : (k : Reply) → r.it ≡ k → Hears (Fetching p) k r.bytes a x b
        hears k e = subst (λ z. Hears (Fetching p) z r.bytes a x b) e q

        by : ((r.it ≡ Outside) × (P ≤ p) × (u ≡ s)) ⊎ ((r.it ≡ Page) × (p < P) × (r.bytes ≡ s.now p) × (u ≡ s)) → Leads u
        by (inl e) =
            let k = hears Outside e.0 in
            subst Leads (sym e.2) (give s (Get p) Outside t (sym h.get) k.turn (gets_none p c.bytes (fr b b.at) t e.1) (same_of P S a b s t k.same h.of))
        by (inr e) =
            let k = hears Page e.0 in
            let l = e.1 in
            let same : s.now p ≡ t.now p = h.of.cache.cold p l (λ n. n) (λ i j. h.other i) in
            let is : r.bytes ≡ t.now p = e.2 ∙ same in
            let long : length r.bytes ≡ 4096 = ap length is ∙ h.of.core.long p l in
            let z = k.refills long (small p l) in
            let row : fr b (frame_of p) ≡ t.now p = row_here p (p + 1) false r.bytes a b z ∙ is in
            let flag : st b (frame_of p) ≡ false = flag-here p (p + 1) false r.bytes a b z in
            let v : fr b b.at ≡ t.now p = ap (fr b) (k.at long) ∙ row in
            subst Leads (sym e.3) (give s (Get p) Page t (sym h.get) (k.turn long) (subst (λ w. Replies size (and (Get p) c.bytes) t (and Page w) t) (sym v) (gets p c.bytes t l)) (record {
              core = h.of.core;
              cache = cache-fill P p l (tg a) (tg b) (st a) (st b) (fr a) (fr b) s t (tag-there p (p + 1) false r.bytes a b z) (flag-there p (p + 1) false r.bytes a b z) (row-there p (p + 1) false r.bytes a b z)
                  (tag-here p (p + 1) false r.bytes a b z) row (λ j. absurd (true≢false (sym j ∙ flag))) (λ _. same) (λ j. absurd (true≢false (sym j ∙ h.clean))) (cache-weak P p (tg a) (st a) (fr a) s t h.of.cache);
            }))

    hear-searching : (d : With Call) (s u : Held) (r : With Reply) → InSearching P S c d a s t → low.Replies P S d s r u → Told r.it a x b → Leads u
    hear-searching d s u r h y q = by (vacant-of P S h.page d.bytes s r u (subst (λ k. low.Replies P S (and k d.bytes) s r u) h.call y))
      where
        by : ((k : ℕ) × (r.it ≡ Found (Some k)) × First P S h.page k s × (u ≡ s)) ⊎ ((r.it ≡ Found None) × ((k : ℕ) → h.page ≤ k → k < P → s.has k ≡ true) × (u ≡ s)) → Leads u
        by (inl e) =
            let k : Told (Found (Some e.0)) a x b = subst (λ z. Told z a x b) e.1 q in
            let f = e.2 in
            subst Leads (sym e.3) (give s (Vacant h.page) (Found (Some e.0)) t (sym h.vacant) k.turn (finds h.page e.0 c.bytes (fr b b.at) t f.from f.inside
            (not-false (blank (t.now e.0)) (sym (h.of.core.has e.0 f.inside) ∙ f.none))
            (λ j m n. not-true (blank (t.now j)) (sym (h.of.core.has j (omega (arith, f.inside))) ∙ f.least j m n))) (same_of P S a b s t k.same h.of))
        by (inr e) =
            let k : Told (Found None) a x b = subst (λ z. Told z a x b) e.0 q in
            subst Leads (sym e.2) (give s (Vacant h.page) (Found None) t (sym h.vacant) k.turn (finds_none h.page c.bytes (fr b b.at) t (λ j m n. not-true (blank (t.now j)) (sym (h.of.core.has j n) ∙ e.1 j m n))) (same_of P S a b s t k.same h.of))

    hear-flushing : (i : ℕ) (d : With Call) (s u : Held) (r : With Reply) → InFlushing P S i c d a s t → low.Replies P S d s r u → Flushed i a x b → Leads u
    hear-flushing i d s u r h y q =
        let o = h.of in
        let z = q.stale h.less in
        let here : st b i ≡ false = ap (λ (v : List Bool). get_or v i false) z ∙ get_or-set_same (vec_items a.stale) i false false (omega (arith, h.less, a.slen, a.stale.ok.0)) in
        let there : (k : ℕ) → (k ≡ i → ⊥) → st b k ≡ st a k = λ k n. ap (λ (v : List Bool). get_or v k false) z ∙ get_or-set_other (vec_items a.stale) i k false false n in
        flush-on (i + 1) u (sym h.commit) (λ k l. grind (arith, common_steps, here, there k, h.clean k)) (record {
          core = back-core (NoPage P) i d s u r t h.sending o.core o.cache (λ n. n) y;
          cache = cache-same P S (NoPage P) (tg a) (tg b) (st b) (st b) (fr a) (fr b) u t (ap (λ v f. get_or (vec_items v) f 0) q.tags) refl (ap (λ v f. get_or (vec_items v) f []) q.rows) (back-cache (NoPage P) i d s u r t h.sending o.core o.cache (λ n. n) y (st b) here there);
        }) q.on

    hear-committing : (d : With Call) (s u : Held) (r : With Reply) → InCommitting P S c d a s t → low.Replies P S d s r u → Told r.it a x b → Leads u
    hear-committing d s u r h y q =
        let (e, k) = commit-of P S d.bytes s r u (subst (λ k. low.Replies P S (and k d.bytes) s r u) h.call y) in
        let w : Told Done a x b = subst (λ z. Told z a x b) e q in
        let o = h.of in
        subst Leads (sym k) (give (committed s) Commit Done (keep t) (sym h.commit) w.turn (commits c.bytes (fr b b.at) t) (same_of P S a b (committed s) (keep t) w.same (record {
          core = core-keep P s t o.core (clean-same P (tg a) (st a) (fr a) s t h.clean o.cache);
          cache = cache-keep P (tg a) (st a) (fr a) s t h.clean o.cache;
        })))

    hear-undoing : (d : With Call) (s u : Held) (r : With Reply) → InUndoing P S c d a s t → low.Replies P S d s r u → Told r.it a x b → Leads u
    hear-undoing d s u r h y q =
        let (e, k) = undo-of P S d.bytes s r u (subst (λ k. low.Replies P S (and k d.bytes) s r u) h.call y) in
        let w : Told Done a x b = subst (λ z. Told z a x b) e q in
        let o = down-of P s t (based P s t h.core) in
        subst Leads (sym k) (give (undone s) Undo Done (drop t) (sym h.undo) w.turn (undoes c.bytes (fr b b.at) t) (same_of P S a b (undone s) (drop t) w.same (record {
          core = o.core;
          cache = cache-empty P (tg a) (st a) (fr a) (undone s) (drop t) h.empty.none h.empty.clean o;
        })))

    hear-at : (e : Doing) (d : With Call) (s u : Held) (r : With Reply) → Amid P S e c d a s t → low.Replies P S d s r u → Hears e r.it r.bytes a x b → Leads u
    hear-at Rising d s u r h y q = absurd h
    hear-at Resting d s u r h y q = absurd h
    hear-at (Asked e) d s u r h y q = absurd h
    hear-at Short d s u r h y q = absurd h
    hear-at (Owning p) d s u r h y q = hear-owning p d s u r h y q
    hear-at (Evicting p) d s u r h y q = hear-evicting p d s u r h y q
    hear-at (Clearing p) d s u r h y q = hear-clearing p d s u r h y q
    hear-at (Making p) d s u r h y q = hear-making p d s u r h y q
    hear-at (Fetching p) d s u r h y q = hear-fetching p d s u r h y q
    hear-at Searching d s u r h y q = hear-searching d s u r h y q
    hear-at (Flushing i) d s u r h y q = hear-flushing i d s u r h y q
    hear-at Committing d s u r h y q = hear-committing d s u r h y q
    hear-at Undoing d s u r h y q = hear-undoing d s u r h y q

  pub stands : StandingAbove (pager_judge size) (pages_judge size) frames_layer size
  unfolding Leads Lost
  stands =
      record {
        Inv = Inv P S;
        start = blank-down size;
        wakes = λ a s t h q. (q.doing, record { none = q.none; clean = q.clean }, h);
        rose = λ a s t h. h;
        raises = λ a x b s t h q. raised_at size a b x s t h.0 h.1 h.2 q;
        lifts_on = λ a c vs r x b s u t h y q. absurd h;
        takes = λ a c b s t h q. (taken_at size c.it c.bytes b q.taken, same_of P S a b s t q.same h);
        begins = λ c us a x b s t h q. start-at c us a b x t a.doing s h.0 h.1 q;
        goes = λ c us a d vs r x b s u t h y q. hear-at c us a b x t a.doing d s u r h y q;
        below_cut = λ a s t h. down-of P s t (based P s t h.2.core);
        raised_cut = λ a s t h. down-of P s t (based P s t h.2.core);
        lifting_lost = λ a c s t h. absurd h;
        lifting_done = λ a c vs r s u t h y. absurd h;
        rest_cut = λ a s t h. down-of P s t (based P s t h.core);
        begun_cut = λ c us a s t h. inl (begun-none (pages_judge size) c t us, down-of P s t (based P s t h.1.core));
        midst_lost = λ c us a d s t h. lost size c us a d s t s (amid-based size c us a d s t a.doing h);
        midst_done = λ c us a d vs r s u t h y. done_at size c us a d s t a.doing u r h y;
      }
