-- Between the pager and the pages: what the pager answers, and what holds at each place of the frames.
use Rattle.std.proofs.Common.{◌≡◌, ℕ, ◌+◌, ◌-◌, ◌<◌, ◌≤◌, Bool, true, false, ◌⊎◌, Some, None, List, [], length, get_or, vec_items, sym, refl, ap, ◌∙◌, inl, inr, arith}
use Rattle.std.proofs.lemmas.Bool.{true≢false}
use Rattle.device.specs.Device.{With, and}
use Rattle.device.specs.Layers.{Place, down, below, raised, lifting, rests, begun, midst}
use Rattle.device.specs.declared.Never.{Never}
use Rattle.octets.specs.Parts.{blank}
use Rattle.pager.specs.Model.{Held, undone, committed, changed, cleared, Crowded}
use Rattle.pager.specs.Model as low
use Rattle.pager.specs.declared.state.Call.{Call}
use Rattle.pager.specs.declared.state.Call.TheVariants as call
use Rattle.pager.specs.declared.state.Reply.{Reply}
use Rattle.pager.specs.declared.state.Reply.TheVariants.{Page, Done, NoRoom, Found, Outside}
use Rattle.pages.specs.Layer.{frame_of, tg, st, fr, given, Same}
use Rattle.pages.specs.Model.{Pages, put_page}
use Rattle.pages.specs.declared.frames.PageCall.{PageCall}
use Rattle.pages.specs.declared.frames.PageCall.TheVariants.{Get, Put, Vacant, Commit, Undo}
use Rattle.pages.specs.declared.frames.Doing.{Doing}
use Rattle.pages.specs.declared.frames.Doing.TheVariants.{Rising, Resting, Asked, Short, Owning, Evicting, Clearing, Making, Fetching, Searching, Flushing, Committing, Undoing}
use Rattle.pages.specs.declared.frames.Frames.{Frames}
use Rattle.pages.proofs.Agree.{Core, Cache, NoPage, Down}

-- WHAT THE PAGER ANSWERS
module _ (N S : ℕ) where
  -- all but a commit leave the committed state
  pub steady : (d : With Call) (s : Held) (r : With Reply) (u : Held) → low.Replies N S d s r u → (d.it ≡ call.Commit) ⊎ ((u.base ≡ s.base) × (u.live ≡ s.live))
  steady _ _ _ _ (low.gets p b s l) = inr (refl, refl)
  steady _ _ _ _ (low.gets_none p b y s l) = inr (refl, refl)
  steady _ _ _ _ (low.puts p b y s l n e) = inr (refl, refl)
  steady _ _ _ _ (low.clears p b y s l n e) = inr (refl, refl)
  steady _ _ _ _ (low.puts_none p b y s l) = inr (refl, refl)
  steady _ _ _ _ (low.puts_short p b y s n) = inr (refl, refl)
  steady _ _ _ _ (low.full p b y s e x) = inr (refl, refl)
  steady _ _ _ _ (low.lends p b v y s l) = inr (refl, refl)
  steady _ _ _ _ (low.lends_none p b y s l) = inr (refl, refl)
  steady _ _ _ _ (low.lends_full p b y s x) = inr (refl, refl)
  steady _ _ _ _ (low.finds p q b y s k l e f) = inr (refl, refl)
  steady _ _ _ _ (low.finds_none p b y s f) = inr (refl, refl)
  steady _ _ _ _ (low.commits b y s) = inl refl
  steady _ _ _ _ (low.undoes b y s) = inr (refl, refl)

  pub put_of : (p : ℕ) (b : List ℕ) (s : Held) (r : With Reply) (u : Held) → p < N → length b ≡ 4096 → blank b ≡ false → s.given p ≡ true → low.Replies N S (and (call.Put p) b) s r u → u ≡ changed p b s
  put_of _ _ _ _ _ i n e g (low.puts p b y s l m f) = refl
  put_of _ _ _ _ _ i n e g (low.clears p b y s l m f) = absurd (true≢false (sym f ∙ e))
  put_of _ _ _ _ _ i n e g (low.puts_none p b y s l) = absurd (omega arith)
  put_of _ _ _ _ _ i n e g (low.puts_short p b y s m) = absurd (m n)
  put_of _ _ _ _ _ i n e g (low.full p b y s f x) = absurd (true≢false (sym g ∙ x.wants))

  pub clear_of : (p : ℕ) (b : List ℕ) (s : Held) (r : With Reply) (u : Held) → length b ≡ 4096 → blank b ≡ true → low.Replies N S (and (call.Put p) b) s r u →
      ((r.it ≡ Outside) × (N ≤ p) × (u ≡ s)) ⊎ ((r.it ≡ Done) × (p < N) × (u ≡ cleared p s))
  clear_of _ _ _ _ _ n e (low.puts p b y s l m f) = absurd (true≢false (sym e ∙ f))
  clear_of _ _ _ _ _ n e (low.clears p b y s l m f) = inr (refl, l, refl)
  clear_of _ _ _ _ _ n e (low.puts_none p b y s l) = inl (refl, l, refl)
  clear_of _ _ _ _ _ n e (low.puts_short p b y s m) = absurd (m n)
  clear_of _ _ _ _ _ n e (low.full p b y s f x) = absurd (true≢false (sym e ∙ f))

  pub give-of : (p : ℕ) (b : List ℕ) (s : Held) (r : With Reply) (u : Held) → low.Replies N S (and (call.Give p) b) s r u →
      ((r.it ≡ Outside) × (N ≤ p) × (u ≡ s)) ⊎ ((r.it ≡ NoRoom) × Crowded N S p s × (u ≡ s)) ⊎ ((r.it ≡ Done) × (p < N) × ((v : List ℕ) × (u ≡ changed p v s)))
  give-of _ _ _ _ _ (low.lends p b v y s l) = inr (inr (refl, l, (v, refl)))
  give-of _ _ _ _ _ (low.lends_none p b y s l) = inl (refl, l, refl)
  give-of _ _ _ _ _ (low.lends_full p b y s x) = inr (inl (refl, x, refl))

  pub get-of : (p : ℕ) (b : List ℕ) (s : Held) (r : With Reply) (u : Held) → low.Replies N S (and (call.Get p) b) s r u →
      ((r.it ≡ Outside) × (N ≤ p) × (u ≡ s)) ⊎ ((r.it ≡ Page) × (p < N) × (r.bytes ≡ s.now p) × (u ≡ s))
  get-of _ _ _ _ _ (low.gets p b s l) = inr (refl, l, refl, refl)
  get-of _ _ _ _ _ (low.gets_none p b y s l) = inl (refl, l, refl)

  pub record First (p q : ℕ) (s : Held) : Type 0 where
    pub from : p ≤ q
    pub inside : q < N
    pub none : s.has q ≡ false
    pub least : (k : ℕ) → p ≤ k → k < q → s.has k ≡ true

  pub vacant-of : (p : ℕ) (b : List ℕ) (s : Held) (r : With Reply) (u : Held) → low.Replies N S (and (call.Vacant p) b) s r u →
      ((q : ℕ) × (r.it ≡ Found (Some q)) × First p q s × (u ≡ s)) ⊎ ((r.it ≡ Found None) × ((k : ℕ) → p ≤ k → k < N → s.has k ≡ true) × (u ≡ s))
  vacant-of _ _ _ _ _ (low.finds p q b y s k l e f) = inl (q, refl, record { from = k; inside = l; none = e; least = f }, refl)
  vacant-of _ _ _ _ _ (low.finds_none p b y s f) = inr (refl, f, refl)

  pub commit-of : (b : List ℕ) (s : Held) (r : With Reply) (u : Held) → low.Replies N S (and call.Commit b) s r u → (r.it ≡ Done) × (u ≡ committed s)
  commit-of _ _ _ _ (low.commits b y s) = (refl, refl)

  pub undo-of : (b : List ℕ) (s : Held) (r : With Reply) (u : Held) → low.Replies N S (and call.Undo b) s r u → (r.it ≡ Done) × (u ≡ undone s)
  undo-of _ _ _ _ (low.undoes b y s) = (refl, refl)

  -- THE INVARIANT
  pub record Of (a : Frames) (s : Held) (t : Pages) : Type 0 where
    pub core : Core N s t
    pub cache : Cache N (NoPage N) (tg a) (st a) (fr a) s t

  pub record Empty (a : Frames) : Type 0 where
    pub none : (f : ℕ) → tg a f ≡ 0
    pub clean : (f : ℕ) → st a f ≡ false

  -- a page that is put and is not blank
  pub record Putting (p : ℕ) (c : With PageCall) (a : Frames) : Type 0 where
    pub put : c.it ≡ Put p
    pub long : length c.bytes ≡ 4096
    pub bytes : given a ≡ c.bytes
    pub full : blank c.bytes ≡ false

  -- the stale frame f is sent
  pub record Sending (f : ℕ) (d : With Call) (a : Frames) : Type 0 where
    pub call : d.it ≡ call.Put (tg a f - 1)
    pub bytes : d.bytes ≡ fr a f
    pub stale : st a f ≡ true

  pub record InOwning (p : ℕ) (c : With PageCall) (d : With Call) (a : Frames) (s : Held) (t : Pages) : Type 0 where
    pub putting : Putting p c a
    pub call : d.it ≡ call.Give p
    pub of : Of a s t

  pub record InEvicting (p : ℕ) (c : With PageCall) (d : With Call) (a : Frames) (s : Held) (t : Pages) : Type 0 where
    pub putting : Putting p c a
    pub sending : Sending (frame_of p) d a
    pub inside : p < N
    pub other : tg a (frame_of p) ≡ p + 1 → ⊥
    pub owned : s.given p ≡ true
    pub core : Core N s (put_page p c.bytes t)
    pub cache : Cache N (λ q. q ≡ p) (tg a) (st a) (fr a) s (put_page p c.bytes t)

  pub record InClearing (p : ℕ) (c : With PageCall) (d : With Call) (a : Frames) (s : Held) (t : Pages) : Type 0 where
    pub put : c.it ≡ Put p
    pub long : length c.bytes ≡ 4096
    pub blank : blank c.bytes ≡ true
    pub call : d.it ≡ call.Put p
    pub bytes : d.bytes ≡ c.bytes
    pub of : Of a s t

  pub record InMaking (p : ℕ) (c : With PageCall) (d : With Call) (a : Frames) (s : Held) (t : Pages) : Type 0 where
    pub get : c.it ≡ Get p
    pub sending : Sending (frame_of p) d a
    pub other : tg a (frame_of p) ≡ p + 1 → ⊥
    pub of : Of a s t

  pub record InFetching (p : ℕ) (c : With PageCall) (d : With Call) (a : Frames) (s : Held) (t : Pages) : Type 0 where
    pub get : c.it ≡ Get p
    pub call : d.it ≡ call.Get p
    pub other : tg a (frame_of p) ≡ p + 1 → ⊥
    pub clean : st a (frame_of p) ≡ false
    pub of : Of a s t

  pub record InSearching (c : With PageCall) (d : With Call) (a : Frames) (s : Held) (t : Pages) : Type 0 where
    pub page : ℕ
    pub vacant : c.it ≡ Vacant page
    pub call : d.it ≡ call.Vacant page
    pub of : Of a s t

  pub record InFlushing (i : ℕ) (c : With PageCall) (d : With Call) (a : Frames) (s : Held) (t : Pages) : Type 0 where
    pub commit : c.it ≡ Commit
    pub less : i < 128
    pub sending : Sending i d a
    pub clean : (k : ℕ) → k < i → st a k ≡ false
    pub of : Of a s t

  pub record InCommitting (c : With PageCall) (d : With Call) (a : Frames) (s : Held) (t : Pages) : Type 0 where
    pub commit : c.it ≡ Commit
    pub call : d.it ≡ call.Commit
    pub clean : (k : ℕ) → k < 128 → st a k ≡ false
    pub of : Of a s t

  pub record InUndoing (c : With PageCall) (d : With Call) (a : Frames) (s : Held) (t : Pages) : Type 0 where
    pub undo : c.it ≡ Undo
    pub call : d.it ≡ call.Undo
    pub empty : Empty a
    pub core : Core N s t

  abbrev pub Amid : Doing → With PageCall → With Call → Frames → Held → Pages → Type 0
  Amid Rising c d a s t = ⊥
  Amid Resting c d a s t = ⊥
  Amid (Asked e) c d a s t = ⊥
  Amid Short c d a s t = ⊥
  Amid (Owning p) c d a s t = InOwning p c d a s t
  Amid (Evicting p) c d a s t = InEvicting p c d a s t
  Amid (Clearing p) c d a s t = InClearing p c d a s t
  Amid (Making p) c d a s t = InMaking p c d a s t
  Amid (Fetching p) c d a s t = InFetching p c d a s t
  Amid Searching c d a s t = InSearching c d a s t
  Amid (Flushing i) c d a s t = InFlushing i c d a s t
  Amid Committing c d a s t = InCommitting c d a s t
  Amid Undoing c d a s t = InUndoing c d a s t

  -- a call is taken
  abbrev pub Known : PageCall → List ℕ → Frames → Type 0
  Known (Get p) b a = Unit {0}
  Known (Put p) b a = (length b ≡ 4096) × (given a ≡ b)
  Known (Vacant p) b a = Unit {0}
  Known Commit b a = Unit {0}
  Known Undo b a = Unit {0}

  abbrev pub BegunAt : Doing → With PageCall → Frames → Type 0
  BegunAt Rising c a = ⊥
  BegunAt Resting c a = ⊥
  BegunAt (Asked e) c a = (e ≡ c.it) × Known e c.bytes a
  BegunAt Short c a = (p : ℕ) × (c.it ≡ Put p) × (length c.bytes ≡ 4096 → ⊥)
  BegunAt (Owning p) c a = ⊥
  BegunAt (Evicting p) c a = ⊥
  BegunAt (Clearing p) c a = ⊥
  BegunAt (Making p) c a = ⊥
  BegunAt (Fetching p) c a = ⊥
  BegunAt Searching c a = ⊥
  BegunAt (Flushing i) c a = ⊥
  BegunAt Committing c a = ⊥
  BegunAt Undoing c a = ⊥

  abbrev pub Inv : Place Frames Call PageCall Never Held → Pages → Type 0
  Inv (down s) t = Down N s t
  Inv (below a s) t = (a.doing ≡ Rising) × Empty a × Down N s t
  Inv (raised a s) t = (a.doing ≡ Rising) × Empty a × Down N s t
  Inv (lifting a c s) t = ⊥
  Inv (rests a s) t = Of a s t
  Inv (begun c us a s) t = BegunAt a.doing c a × Of a s t
  Inv (midst c us a d s) t = Amid a.doing c d a s t

  -- where the frames stay
  pub cache-same : (E : ℕ → Type 0) (g g' : ℕ → ℕ) (z z' : ℕ → Bool) (r r' : ℕ → List ℕ) (s : Held) (t : Pages) → g' ≡ g → z' ≡ z → r' ≡ r → Cache N E g z r s t → Cache N E g' z' r' s t
  cache-same E g g' z z' r r' s t e1 e2 e3 h = rw (e1, e2, e3) h

  pub same-cache : (E : ℕ → Type 0) (a b : Frames) (s : Held) (t : Pages) → Same a b → Cache N E (tg a) (st a) (fr a) s t → Cache N E (tg b) (st b) (fr b) s t
  same-cache E a b s t e h =
      cache-same E (tg a) (tg b) (st a) (st b) (fr a) (fr b) s t (ap (λ v f. get_or (vec_items v) f 0) e.tags) (ap (λ v f. get_or (vec_items v) f false) e.stale) (ap (λ v f. get_or (vec_items v) f []) e.rows) h

  pub same_of : (a b : Frames) (s : Held) (t : Pages) → Same a b → Of a s t → Of b s t
  same_of a b s t e h = record { core = h.core; cache = same-cache (NoPage N) a b s t e h.cache }

  pub same_tag : (a b : Frames) (f : ℕ) → Same a b → tg b f ≡ tg a f
  same_tag a b f e = ap (λ v. get_or (vec_items v) f 0) e.tags

  pub same_flag : (a b : Frames) (f : ℕ) → Same a b → st b f ≡ st a f
  same_flag a b f e = ap (λ v. get_or (vec_items v) f false) e.stale
