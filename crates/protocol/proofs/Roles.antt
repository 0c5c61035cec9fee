-- The roles of a thread, by its point and its list: of these alone the facts about locks speak.
use Rattle.std.proofs.Common.{◌≡◌, ◌≢◌, ℕ, Bool, true, false, ◌==◌, ◌||◌, List, [], ◌∷◌, ◌⊎◌, inl, inr, ap, ◌∙◌, sym}
use Rattle.std.proofs.lemmas.Bool.{false≢true, or_left, eqb-true, or_right, cases_Bool}
use Rattle.meaning.specs.Table.{Hold}
use Rattle.protocol.specs.Word.{owner, waiters}
use Rattle.protocol.specs.Points.{Purpose, ToEnter, ToReenter, ToResume, Entry, Owned, Unowned, Thread, Point, Unmade}
use Rattle.protocol.specs.Points.{EnterPends, EnterTries, ReenterPends, ReenterTries, TakeReads, TakeMarks}
use Rattle.protocol.specs.Points.{TakeSleeps, TakeTries, GotReads, GotLinks, GotHeads, GotUnpends, WaitReads}
use Rattle.protocol.specs.Points.{NotifyAdds, NotifyWakes, BroadcastAdds, BroadcastMarks, BroadcastReads}
use Rattle.protocol.specs.Points.{BroadcastMoves, LeavePends, LeaveReads, LeaveHeads, LeaveSwaps, LeaveWakes, HasLeft}
use Rattle.protocol.specs.Points.{LeaveLoads, LeaveKeeps, LeaveClears}
use Rattle.protocol.specs.Points.{Dies, Walks, entry_at, taking_entry, IsLive, NoEntry}
use Rattle.protocol.specs.World.{mem, tail, Distinct}
use Rattle.protocol.specs.Rules.{KeepsWaiters}
use Rattle.protocol.specs.Runs.{HoldIs}

abbrev pub own : Entry → ℕ → Bool
own (Owned m) x = x == m
own y x = false

abbrev pub owing : Entry → ℕ → Bool
owing (Unowned m) x = x == m
owing y x = false

-- a thread that takes a lock serves its sleepers once it is awake, but one that holds it already doesn't
abbrev pub takes : Purpose → ℕ → ℕ → Bool
takes ToEnter m x = x == m
takes ToReenter m x = false
takes (ToResume c) m x = x == m

abbrev pub point_helps : Point → ℕ → Bool
point_helps (TakeReads m k) x = takes k m x
point_helps (TakeMarks m v k) x = takes k m x
point_helps (TakeSleeps m v k) x = takes k m x
point_helps (TakeTries m v k) x = takes k m x
point_helps (LeaveWakes m r) x = x == m
point_helps (Dies cause y) x = owing y x
point_helps (Walks a y end) x = owing y x
point_helps p x = false

abbrev pub point_sleeps : Point → ℕ → Bool
point_sleeps (TakeReads m k) x = x == m
point_sleeps p x = false

-- whether the monitor that a thread takes is on its list
abbrev pub ListedFor : Purpose → ℕ → List ℕ → Type 0
ListedFor ToEnter m l = mem m l ≡ false
ListedFor ToReenter m l = mem m l ≡ true
ListedFor (ToResume c) m l = mem m l ≡ false

-- who sees the lock without an owner doesn't hold it
abbrev pub ListedFree : Purpose → ℕ → List ℕ → Type 0
ListedFree ToEnter m l = mem m l ≡ false
ListedFree ToReenter m l = ⊥
ListedFree (ToResume c) m l = mem m l ≡ false

-- an entry that is pending and not owned is not on the list
abbrev pub ListedEntry : Entry → List ℕ → Type 0
ListedEntry NoEntry l = Unit {0}
ListedEntry (Owned m) l = Unit {0}
ListedEntry (Unowned m) l = mem m l ≡ false

-- what a thread knows of the words in its hands and of its list
abbrev pub Listed : Point → List ℕ → Type 0
Listed Unmade l = l ≡ []
Listed (EnterPends m) l = mem m l ≡ false
Listed (EnterTries m) l = mem m l ≡ false
Listed (ReenterPends m) l = mem m l ≡ true
Listed (ReenterTries m) l = mem m l ≡ true
Listed (TakeReads m k) l = ListedFor k m l
Listed (TakeMarks m v k) l = ListedFor k m l × (owner v ≢ 0)
Listed (TakeSleeps m v k) l = ListedFor k m l × (owner v ≢ 0) × (waiters v ≡ 2147483648)
Listed (TakeTries m v k) l = ListedFree k m l × (owner v ≡ 0)
Listed (GotReads m v) l = mem m l ≡ false
Listed (GotLinks m v h) l = mem m l ≡ false
Listed (GotHeads m v) l = mem m l ≡ false
Listed (GotUnpends m v) l = l ≡ m ∷ tail l
Listed (WaitReads c) l = l ≡ c.monitor ∷ tail l
Listed (NotifyAdds c) l = l ≡ c.monitor ∷ tail l
Listed (NotifyWakes c) l = l ≡ c.monitor ∷ tail l
Listed (BroadcastAdds c) l = l ≡ c.monitor ∷ tail l
Listed (BroadcastMarks c) l = l ≡ c.monitor ∷ tail l
Listed (BroadcastReads c) l = l ≡ c.monitor ∷ tail l
Listed (BroadcastMoves c s) l = l ≡ c.monitor ∷ tail l
Listed (LeavePends m r) l = l ≡ m ∷ tail l
Listed (LeaveReads m r) l = l ≡ m ∷ tail l
Listed (LeaveHeads m h r) l = l ≡ m ∷ tail l
Listed (LeaveSwaps m r) l = mem m l ≡ false
Listed (LeaveLoads m r) l = mem m l ≡ false
Listed (LeaveKeeps m v r) l = mem m l ≡ false
Listed (LeaveWakes m r) l = mem m l ≡ false
Listed (LeaveClears m r) l = mem m l ≡ false
Listed (HasLeft m r) l = mem m l ≡ false
Listed (Dies cause x) l = ListedEntry x l
Listed (Walks a x end) l = ListedEntry x l
Listed p l = Unit {0}

-- which locks a thread holds, which lock's sleepers it will help, where it may sleep, and what it knows
unfoldable pub holds : Thread → ℕ → Bool
holds p x = mem x p.list || own (entry_at p.point) x

unfoldable pub helps : Thread → ℕ → Bool
helps p x = point_helps p.point x

unfoldable pub may_sleep : Thread → ℕ → Bool
may_sleep p x = point_sleeps p.point x

unfoldable pub Knows : Thread → Type 0
Knows p = Distinct p.list × Listed p.point p.list

-- a monitor's state, and its lock word, by what is so under any rule of releases
unfoldable pub Tie : Hold → ℕ → Type 0
Tie h v = HoldIs KeepsWaiters h v

pub takes-same : (k : Purpose) (m x : ℕ) → takes k m x ≡ true → x ≡ m
takes-same ToEnter m x h = eqb-true x m h
takes-same ToReenter m x h = absurd (false≢true h)
takes-same (ToResume c) m x h = eqb-true x m h

sleeper_for : (k : Purpose) (m x : ℕ) (l : List ℕ) (b : Bool) → ListedFor k m l → (x == m) ≡ true
    → (takes k m x ≡ true) ⊎ ((mem x l || b) ≡ true)
sleeper_for ToEnter m x l b known h = inl h
sleeper_for ToReenter m x l b known h = inr (or_left (mem x l) b (ap (λ y. mem y l) (eqb-true x m h) ∙ known))
sleeper_for (ToResume c) m x l b known h = inl h

sleeper_at : (p : Point) (x : ℕ) (l : List ℕ) → Listed p l → point_sleeps p x ≡ true
    → (point_helps p x ≡ true) ⊎ ((mem x l || own (entry_at p) x) ≡ true)
sleeper_at (TakeReads m k) x l known h = sleeper_for k m x l _ known h
sleeper_at p x l known h = absurd (false≢true h)

-- who may sleep on a lock helps it once awake, or holds it already
pub sleeper_role : (p : Thread) (x : ℕ) → Knows p → may_sleep p x ≡ true → (helps p x ≡ true) ⊎ (holds p x ≡ true)
unfolding holds helps may_sleep Knows
sleeper_role p x known h = sleeper_at p.point x p.list known.1 h

entry_for : (k : Purpose) (m : ℕ) (l : List ℕ) → ListedFor k m l → ListedEntry (taking_entry m k) l
entry_for ToEnter m l h = h
entry_for ToReenter m l h = tt
entry_for (ToResume c) m l h = h

entry_free : (k : Purpose) (m : ℕ) (l : List ℕ) → ListedFree k m l → ListedEntry (taking_entry m k) l
entry_free ToEnter m l h = h
entry_free ToReenter m l h = absurd h
entry_free (ToResume c) m l h = h

-- what a killed thread knows of its pending entry
pub entry_listed : (p : Point) (l : List ℕ) → IsLive p → Listed p l → ListedEntry (entry_at p) l
entry_listed (EnterTries m) l live h = h
entry_listed (TakeReads m k) l live h = entry_for k m l h
entry_listed (TakeMarks m v k) l live h = entry_for k m l h.0
entry_listed (TakeSleeps m v k) l live h = entry_for k m l h.0
entry_listed (TakeTries m v k) l live h = entry_free k m l h.0
entry_listed (LeaveWakes m r) l live h = h
entry_listed (LeaveClears m r) l live h = h
entry_listed (HasLeft m r) l live h = h
entry_listed (Dies cause x) l live h = h
entry_listed (Walks a x end) l live h = h
entry_listed p l live h = tt

-- the list without its first entry
pub entry_tail : (x : Entry) (a : ℕ) (l : List ℕ) → l ≡ a ∷ tail l → ListedEntry x l → ListedEntry x (tail l)
entry_tail NoEntry a l is h = tt
entry_tail (Owned m) a l is h = tt
entry_tail (Unowned m) a l is h = elim (cases_Bool (mem m (tail l)))
    [ inl y ↦ absurd (false≢true (sym (sym (ap (mem m) is) ∙ h) ∙ or_right (m == a) (mem m (tail l)) y)) | inr n ↦ n ]
