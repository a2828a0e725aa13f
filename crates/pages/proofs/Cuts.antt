-- The frames as they come up, and what a cut leaves of a call.
use Rattle.std.proofs.Common.{◌≡◌, ℕ, ◌-◌, not, List, [], sym, refl, ap, ◌∙◌, subst, inl, inr, arith}
use Rattle.device.specs.Device.{With, and}
use Rattle.device.specs.Layers.{up}
use Rattle.device.specs.declared.Never.{Never}
use Rattle.device.specs.declared.Next.TheVariants as next
use Rattle.device.proofs.Sectors.{begun-none}
use Rattle.device.proofs.StandingAbove.{Cut}
use Rattle.shadow.specs.Layout.{pages, slots}
use Rattle.shadow.proofs.Pages.{blank-zeros}
use Rattle.pager.specs.Model.{Held, undone, committed, pager_judge}
use Rattle.pager.specs.Model as low
use Rattle.pager.specs.declared.state.Call.{Call}
use Rattle.pager.specs.declared.state.Call.TheVariants as call
use Rattle.pager.specs.declared.state.Reply.{Reply}
use Rattle.pages.specs.Layer.{Turn, frame_of, tg, st, fr, Goes, Starts, TakenBy, frames_layer}
use Rattle.pages.specs.Model.{Pages, blank_pages, keep, drop, Replies, commits, pages_judge}
use Rattle.pages.specs.declared.frames.PageCall.{PageCall}
use Rattle.pages.specs.declared.frames.PageCall.TheVariants.{Get, Put, Vacant, Commit, Undo}
use Rattle.pager.specs.declared.state.Reply.TheVariants.{Done}
use Rattle.pages.specs.declared.frames.Doing.{Doing}
use Rattle.pages.specs.declared.frames.Doing.TheVariants.{Rising, Resting, Asked, Short, Owning, Evicting, Clearing, Making, Fetching, Searching, Flushing, Committing, Undoing}
use Rattle.pages.specs.declared.frames.Frames.{Frames}
use Rattle.pages.proofs.Agree.{length-zeros, Based, based, Down, down-of, cache-empty, clean-same, core-keep}
use Rattle.pages.proofs.Between.{steady, commit-of, Of, Empty, Amid, BegunAt, Inv, same_of}

module _ (size : ℕ) where
  abbrev P : ℕ
  P = pages size

  abbrev S : ℕ
  S = slots size

  -- COMING UP: nothing is asked
  pub raised_at : (a b : Frames) (x : Turn) (s : Held) (t : Pages) → a.doing ≡ Rising → Empty P S a → Down P s t → Starts a.doing a x b → Inv P S (up frames_layer x b s) t
  raised_at a b x s t e n h q =
      let y : Goes a x Resting (next.Give Done) b = subst (λ d. Starts d a x b) e q in
      let o : Of P S b s t = same_of P S a b s t y.same (record { core = h.core; cache = cache-empty P (tg a) (st a) (fr a) s t n.none n.clean h }) in
      rw y.turn o

  pub taken_at : (c : PageCall) (v : List ℕ) (b : Frames) → TakenBy c v b → BegunAt P S b.doing (and c v) b
  taken_at (Get p) v b e = subst (λ d. BegunAt P S d (and (Get p) v) b) (sym e) (refl, tt)
  taken_at (Put p) v b (inl e) = subst (λ d. BegunAt P S d (and (Put p) v) b) (sym e.1) (refl, (e.0, e.2))
  taken_at (Put p) v b (inr e) = subst (λ d. BegunAt P S d (and (Put p) v) b) (sym e.1) (p, refl, e.0)
  taken_at (Vacant p) v b e = subst (λ d. BegunAt P S d (and (Vacant p) v) b) (sym e) (refl, tt)
  taken_at Commit v b e = subst (λ d. BegunAt P S d (and Commit v) b) (sym e) (refl, tt)
  taken_at Undo v b e = subst (λ d. BegunAt P S d (and Undo v) b) (sym e) (refl, tt)

  -- WHAT A CUT LEAVES
  module _ (c : With PageCall) (us : List (With Never)) (a : Frames) (d : With Call) (s : Held) (t : Pages) where
    pub amid-based : (e : Doing) → Amid P S e c d a s t → Based P s t
    amid-based Rising h = absurd h
    amid-based Resting h = absurd h
    amid-based (Asked e) h = absurd h
    amid-based Short h = absurd h
    amid-based (Owning p) h = based P s t h.of.core
    amid-based (Evicting p) h = record { base = h.core.base; live = h.core.live; long_base = h.core.long_base }
    amid-based (Clearing p) h = based P s t h.of.core
    amid-based (Making p) h = based P s t h.of.core
    amid-based (Fetching p) h = based P s t h.of.core
    amid-based Searching h = based P s t h.of.core
    amid-based (Flushing i) h = based P s t h.of.core
    amid-based Committing h = based P s t h.of.core
    amid-based Undoing h = based P s t h.core

    unfoldable pub Lost : Held → Type 0
    Lost u = Cut (pager_judge size) (pages_judge size) frames_layer (Inv P S) c us u t

    pub lost : (u : Held) → Based P u t → Lost u
    unfolding Lost
    lost u h = inl (begun-none (pages_judge size) c t us, down-of P u t h)

    -- a call below that is no commit was done
    kept_by : (k : Call) (u : Held) (r : With Reply) → d.it ≡ k → (k ≡ call.Commit → ⊥) → Based P s t → low.Replies P S d s r u → Lost u
    kept_by k u r e n h y = elim (steady P S d s r u y) [
      | inl f ↦ absurd (n (sym e ∙ f))
      | inr f ↦ lost u (record { base = λ p l. ap (λ g. g p) f.0 ∙ h.base p l; live = λ p l. ap (λ g. g p) f.1 ∙ h.live p l; long_base = h.long_base })
    ]

    no-put : (p : ℕ) → call.Put p ≡ call.Commit → ⊥
    no-put p e = let z : ◌≡◌ {A = ℕ} 0 1 = cc in omega arith

    no-give : (p : ℕ) → call.Give p ≡ call.Commit → ⊥
    no-give p e = let z : ◌≡◌ {A = ℕ} 0 1 = cc in omega arith

    no-get : (p : ℕ) → call.Get p ≡ call.Commit → ⊥
    no-get p e = let z : ◌≡◌ {A = ℕ} 0 1 = cc in omega arith

    no-vacant : (p : ℕ) → call.Vacant p ≡ call.Commit → ⊥
    no-vacant p e = let z : ◌≡◌ {A = ℕ} 0 1 = cc in omega arith

    no-undo : call.Undo ≡ call.Commit → ⊥
    no-undo e = let z : ◌≡◌ {A = ℕ} 0 1 = cc in omega arith

    pub done_at : (e : Doing) (u : Held) (r : With Reply) → Amid P S e c d a s t → low.Replies P S d s r u → Lost u
    unfolding Lost
    done_at Rising u r h y = absurd h
    done_at Resting u r h y = absurd h
    done_at (Asked e) u r h y = absurd h
    done_at Short u r h y = absurd h
    done_at (Owning p) u r h y = kept_by (call.Give p) u r h.call (no-give p) (amid-based (Owning p) h) y
    done_at (Evicting p) u r h y = kept_by (call.Put (tg a (frame_of p) - 1)) u r h.sending.call (no-put (tg a (frame_of p) - 1)) (amid-based (Evicting p) h) y
    done_at (Clearing p) u r h y = kept_by (call.Put p) u r h.call (no-put p) (amid-based (Clearing p) h) y
    done_at (Making p) u r h y = kept_by (call.Put (tg a (frame_of p) - 1)) u r h.sending.call (no-put (tg a (frame_of p) - 1)) (amid-based (Making p) h) y
    done_at (Fetching p) u r h y = kept_by (call.Get p) u r h.call (no-get p) (amid-based (Fetching p) h) y
    done_at Searching u r h y = kept_by (call.Vacant h.page) u r h.call (no-vacant h.page) (amid-based Searching h) y
    done_at (Flushing i) u r h y = kept_by (call.Put (tg a i - 1)) u r h.sending.call (no-put (tg a i - 1)) (amid-based (Flushing i) h) y
    done_at Committing u r h y =
        let (e, k) = commit-of P S d.bytes s r u (subst (λ k. low.Replies P S (and k d.bytes) s r u) h.call y) in
        let o = core-keep P s t h.of.core (clean-same P (tg a) (st a) (fr a) s t h.clean h.of.cache) in
        inr (
          [],
          and Done [],
          keep t,
          subst (λ z. Replies size (and z c.bytes) t (and Done []) (keep t)) (sym h.commit) (commits c.bytes [] t),
          subst (λ v. Down P (undone v) (drop (keep t))) (sym k) (down-of P (committed s) (keep t) (based P (committed s) (keep t) o)),
        )
    done_at Undoing u r h y = kept_by call.Undo u r h.call no-undo (amid-based Undoing h) y

  pub blank-down : Down P (pager_judge size).start blank_pages
  blank-down = record {
    core = record {
      base = λ p l. refl;
      live = λ p l. sym (ap not (blank-zeros 4096));
      has = λ p l. sym (ap not (blank-zeros 4096));
      given = λ p l. refl;
      long = λ p l. length-zeros 4096;
      long_base = λ p l. length-zeros 4096;
    };
    same = λ p l. refl;
  }
