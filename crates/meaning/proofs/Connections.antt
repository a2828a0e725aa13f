-- Connections to sound tables stay so, whatever a call may answer. Assumes nothing.
use Rattle.std.proofs.Common.{◌≡◌, ℕ, Bool, cond, ltb, List, [], ◌∷◌, length, refl}
use Rattle.std.specs.List.{AllByRecursion as All}
use Rattle.std.proofs.lemmas.Bool.{cond_both}
use Rattle.meaning.specs.Tree.{Name, Statement, create_table, drop_table, create_index, drop_index, insert, insert_from, update, delete, select, begin, commit, rollback, savepoint, rollback_to, release}
use Rattle.meaning.specs.Meaning.{Db, same_name}
use Rattle.meaning.specs.Doing.{Outcome, Refused, Changed, Rows, does}
use Rattle.meaning.specs.Session.{Reply, Mark, Running, Idle, Giving, Connection, Answered, fresh, idle, no, after, has_mark, from, older, db_at, act, next, Call, Answers, reads, reads_not, too_long, nexts, too_full, mark_full}
use Rattle.meaning.specs.Laws.{Sound, SoundConnection, ConnectionStaysSound}
use Rattle.meaning.proofs.Sound.{stays-sound}

idle-sound : (c : Connection) → SoundConnection c → SoundConnection (idle c)
idle-sound c s = record { base = s.base; now = s.now; marks = s.marks }

fresh-sound : (db : Db) → Sound db → SoundConnection (fresh db)
fresh-sound db s = record { base = s; now = s; marks = tt }

after-sound : (st : Statement) (o : Outcome) (c : Connection) → does st c.now ≡ o → SoundConnection c → SoundConnection (after o c).conn
unfolding after
after-sound st (Refused k) c e s = idle-sound c s
after-sound st (Changed n db) c e s =
    let t = stays-sound st c.now db n s.now e in
    record { base = cond_both c.inside c.base db Sound (λ _. s.base) (λ _. t); now = t; marks = s.marks }
after-sound st (Rows rs) c e s = record { base = s.base; now = s.now; marks = s.marks }

-- savepoints from one on

from-sound : (n : Name) (ms : List Mark) → All (λ (m : Mark). Sound m.db) ms → All (λ (m : Mark). Sound m.db) (from n ms)
unfolding from
from-sound n [] h = tt
from-sound n (m ∷ ms) h = cond_both (same_name n m.name) (m ∷ ms) (from n ms) (All (λ (m : Mark). Sound m.db)) (λ _. h) (λ _. from-sound n ms h.1)

older-sound : (ms : List Mark) → All (λ (m : Mark). Sound m.db) ms → All (λ (m : Mark). Sound m.db) (older ms)
unfolding older
older-sound [] h = tt
older-sound (m ∷ ms) h = h.1

at-sound : (db : Db) (ms : List Mark) → Sound db → All (λ (m : Mark). Sound m.db) ms → Sound (db_at db ms)
unfolding db_at
at-sound db [] s h = s
at-sound db (m ∷ ms) s h = h.0

-- one of two answers
either-sound : (b : Bool) (x y : Answered) → SoundConnection x.conn → SoundConnection y.conn → SoundConnection (cond b x y).conn
either-sound b x y p q = cond_both b x y (λ (a : Answered). SoundConnection a.conn) (λ _. p) (λ _. q)

act-sound : (st : Statement) (c : Connection) → SoundConnection c → SoundConnection (act st c).conn
unfolding act
act-sound begin c s = either-sound c.inside _ _ (idle-sound c s) (record { base = s.base; now = s.now; marks = tt })
act-sound commit c s = either-sound c.inside _ _ (fresh-sound c.now s.now) (idle-sound c s)
act-sound rollback c s = either-sound c.inside _ _ (fresh-sound c.base s.base) (idle-sound c s)
act-sound (savepoint n) c s = either-sound c.inside _ _ (either-sound (ltb (length c.marks) 8) _ _ (record { base = s.base; now = s.now; marks = (s.now, s.marks) }) (idle-sound c s)) (idle-sound c s)
act-sound (rollback_to n) c s =
    either-sound c.inside _ _ (either-sound (has_mark n c.marks) _ _ (record { base = s.base; now = at-sound c.now (from n c.marks) s.now (from-sound n c.marks s.marks); marks = from-sound n c.marks s.marks }) (idle-sound c s)) (idle-sound c s)
act-sound (release n) c s =
    either-sound c.inside _ _ (either-sound (has_mark n c.marks) _ _ (record { base = s.base; now = s.now; marks = older-sound (from n c.marks) (from-sound n c.marks s.marks) }) (idle-sound c s)) (idle-sound c s)
act-sound (create_table n cs) c s = after-sound (create_table n cs) (does (create_table n cs) c.now) c refl s
act-sound (drop_table n) c s = after-sound (drop_table n) (does (drop_table n) c.now) c refl s
act-sound (create_index u n t cs) c s = after-sound (create_index u n t cs) (does (create_index u n t cs) c.now) c refl s
act-sound (drop_index n) c s = after-sound (drop_index n) (does (drop_index n) c.now) c refl s
act-sound (insert n rs) c s = after-sound (insert n rs) (does (insert n rs) c.now) c refl s
act-sound (insert_from n q) c s = after-sound (insert_from n q) (does (insert_from n q) c.now) c refl s
act-sound (update n ss w) c s = after-sound (update n ss w) (does (update n ss w) c.now) c refl s
act-sound (delete n w) c s = after-sound (delete n w) (does (delete n w) c.now) c refl s
act-sound (select q) c s = after-sound (select q) (does (select q) c.now) c refl s

next-sound : (r : Running) (c : Connection) → SoundConnection c → SoundConnection (next r c).conn
unfolding next
next-sound Idle c s = idle-sound c s
next-sound (Giving []) c s = idle-sound c s
next-sound (Giving (r ∷ rs)) c s = record { base = s.base; now = s.now; marks = s.marks }

answers-sound : (can : Statement → Bool) (size : ℕ) {k : Call} {c d : Connection} {r : Reply} → Answers can size k c r d → SoundConnection c → SoundConnection d
answers-sound can size (reads t st c l p) s = either-sound (can st) (act st c) (no 12 c) (act-sound st c s) (idle-sound c s)
answers-sound can size (reads_not t c l p) s = idle-sound c s
answers-sound can size (too_long t c l) s = idle-sound c s
answers-sound can size (nexts c) s = next-sound c.running c s
answers-sound can size (too_full t st c n db l p b m e f) s = idle-sound c s
answers-sound can size (mark_full t n c l p b i m f) s = idle-sound c s

pub connection-stays-sound : ConnectionStaysSound
connection-stays-sound can size k c d r s h = answers-sound can size h s
