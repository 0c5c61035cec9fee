-- What comes of the turns that a worker hands in.
use Rattle.std.specs.Prelude.{ℕ, ◌≡◌, ◌⊎◌, ◌+◌, Bool, true, false, List, [], ◌∷◌, ◌++◌, length, take, slice_get, Option, Some, None, is_some}
use Rattle.std.specs.Prelude.{MatchOption}
use Rattle.isa.specs.Programs.{Program}
use Rattle.machine.specs.ConcreteSteps.{can_move}
use Rattle.machine.specs.declared.speculation.SpeculativeAccess.{SpeculativeAccess}
use Rattle.runner.specs.declared.fault.RunFault.{RunFault}
use Rattle.runner.specs.declared.fault.RunFault.TheVariants.{Stray, CannotMove, Limit}
use Rattle.runner.specs.declared.next.After.{After}
use Rattle.runner.specs.declared.next.After.TheVariants.{Goes, Sleeps, Ends}
use Rattle.runner.specs.Afters.{IsAfter}
use Rattle.runner.specs.Entries.{Takes, RefusesEntry}
use Rattle.runner.specs.Speculations.{TakesAll, access_entries}
use Rattle.runner.specs.Views.{PieceView, LogState, ShareView, log_state}
use Rattle.workers.specs.declared.bucket_waiters.BucketWaiters.{BucketWaiters}
use Rattle.workers.specs.BucketWaiters.{nobody, with_waiter, joined}
use Rattle.workers.specs.SharedRuns.{SharedRunView}
use Rattle.workers.specs.WakeReasons.{gives_up, last_event}

-- who waits for a bucket behind an entry: nobody where it gave one up, and then all who waited are to be called
abbrev pub Frees : Bool → SharedRunView → SharedRunView → Type 0
Frees true old new = (new.waiting ≡ nobody) × (new.freed ≡ joined old.freed old.waiting)
Frees false old new = (new.waiting ≡ old.waiting) × (new.freed ≡ old.freed)

-- the piece came in as an entry, which the share counts
pub record ComesIn (p : Program) (limit : ℕ) (old : SharedRunView) (t : ℕ) (piece : PieceView) (new : SharedRunView)
    (share share' : ShareView) : Type 0 where
  pub goes_on : old.fault ≡ None
  pub takes : Takes p limit (log_state old.shared) t piece (log_state new.shared)
  pub fault : new.fault ≡ None
  pub counted : share' ≡ record share { count = share.count + 1 }
  pub frees : Frees (gives_up (last_event new.shared.log)) old new
  pub refused : new.refused ≡ old.refused

-- the first of the pieces came in so
abbrev pub FirstComesIn : Program → ℕ → SharedRunView → ℕ → List PieceView → SharedRunView → ShareView → ShareView → Type 0
FirstComesIn p limit old t pieces new share share' =
    (piece : PieceView) × (slice_get pieces 0 ≡ Some piece) × ComesIn p limit old t piece new share share'

-- why the run ends before its time is as it was, or that this piece was refused
abbrev pub IsFaultAfter : Program → ℕ → LogState → ℕ → PieceView → Option RunFault → Option RunFault → Type 0
IsFaultAfter p limit h t piece old new =
    (new ≡ old) ⊎ ((old ≡ None) × (fault : RunFault) × (new ≡ Some fault) × RefusesEntry p limit h t piece fault)

-- how a worker goes on whose piece doesn't come in: it goes on from where its thread is, where that has gone on without
-- it or can't move; it ends where the run ends before its time, or the entry would pass the limit
abbrev pub IsAway : Program → ℕ → LogState → ℕ → PieceView → Option RunFault → After → Type 0
IsAway p limit h t piece fault Goes = ⊥
IsAway p limit h t piece fault Sleeps =
    (fault ≡ None) × (RefusesEntry p limit h t piece Stray ⊎ RefusesEntry p limit h t piece CannotMove)
IsAway p limit h t piece fault Ends = (is_some fault ≡ true) ⊎ RefusesEntry p limit h t piece Limit

-- a worker waits for a bucket whose piece isn't let in though its thread can move
abbrev pub noted : Bool → BucketWaiters → ℕ → BucketWaiters
noted true waiters t = with_waiter waiters t
noted false waiters t = waiters

-- who waits for a bucket where a piece doesn't come in
abbrev pub IsNoted : Program → ℕ → LogState → ℕ → PieceView → After → BucketWaiters → BucketWaiters → Type 0
IsNoted p limit h t piece Goes old new = ⊥
IsNoted p limit h t piece Sleeps old new =
    (RefusesEntry p limit h t piece Stray × (new ≡ old))
    ⊎ (RefusesEntry p limit h t piece CannotMove × (new ≡ noted (can_move h.concrete.concrete t) old t))
IsNoted p limit h t piece Ends old new = new ≡ old

-- who was refused with Limit where a piece doesn't come in: its worker too where the piece would pass the limit
abbrev pub IsRefused : Program → ℕ → LogState → ℕ → PieceView → Option RunFault → After → BucketWaiters → BucketWaiters
    → Type 0
IsRefused p limit h t piece fault Goes old new = ⊥
IsRefused p limit h t piece fault Sleeps old new = new ≡ old
IsRefused p limit h t piece fault Ends old new =
    ((is_some fault ≡ true) × (new ≡ old))
    ⊎ (RefusesEntry p limit h t piece Limit × (new ≡ with_waiter old t))

-- the piece doesn't come in, and the run is as it was
pub record StaysAway (p : Program) (limit : ℕ) (old : SharedRunView) (t : ℕ) (piece : PieceView) (new : SharedRunView)
    (after : After) : Type 0 where
  pub run : log_state new.shared ≡ log_state old.shared
  pub fault : IsFaultAfter p limit (log_state old.shared) t piece old.fault new.fault
  pub away : IsAway p limit (log_state old.shared) t piece new.fault after
  pub waits : IsNoted p limit (log_state old.shared) t piece after old.waiting new.waiting
  pub freed : new.freed ≡ old.freed
  pub refused : IsRefused p limit (log_state old.shared) t piece new.fault after old.refused new.refused

-- the pieces came in, one after the other
abbrev pub ComeIn : Program → ℕ → SharedRunView → ℕ → List PieceView → SharedRunView → ShareView → ShareView → Type 0
ComeIn p limit old t [] new share share' = (new ≡ old) × (share' ≡ share)
ComeIn p limit old t (piece ∷ pieces) new share share' =
    (mid : SharedRunView) × (counted : ShareView) × ComesIn p limit old t piece mid share counted
    × ComeIn p limit mid t pieces new counted share'

-- the pieces before one came in, and that one stays away
pub record StopsAt (p : Program) (limit : ℕ) (old : SharedRunView) (t : ℕ) (pieces : List PieceView)
    (new : SharedRunView)
    (share share' : ShareView) (after : After) : Type 0 where
  pub at : ℕ
  pub piece : PieceView
  pub is : slice_get pieces at ≡ Some piece
  pub mid : SharedRunView
  pub come : ComeIn p limit old t (take at pieces) mid share share'
  pub away : StaysAway p limit mid t piece new after

-- how the worker goes on from a piece: as its thread does, and it ends where the run ends before its time
abbrev pub IsNextOf : SharedRunView → ℕ → PieceView → After → Type 0
IsNextOf d t piece after = MatchOption d.fault (IsAfter (log_state d.shared).concrete t piece after) (λ _. after ≡ Ends)

-- the same from the first of its pieces
abbrev pub IsNextOfFirst : SharedRunView → ℕ → List PieceView → After → Type 0
IsNextOfFirst d t pieces after =
    (piece : PieceView) × (slice_get pieces 0 ≡ Some piece) × IsNextOf d t piece after

-- where the worker goes on, the first of its pieces begins anew as its thread's
abbrev pub IsAfresh : ℕ → List PieceView → After → Type 0
IsAfresh t pieces Goes =
    (piece : PieceView) × (slice_get pieces 0 ≡ Some piece) × (piece.thread ≡ t) × (piece.count ≡ 0)
    × (piece.here ≡ piece.origin)
IsAfresh t pieces Sleeps = Unit {0}
IsAfresh t pieces Ends = Unit {0}

-- the run is as it was
pub record IsUntouched (old new : SharedRunView) : Type 0 where
  pub run : log_state new.shared ≡ log_state old.shared
  pub fault : new.fault ≡ old.fault
  pub waits : (new.waiting ≡ old.waiting) × (new.freed ≡ old.freed) × (new.refused ≡ old.refused)

-- accesses that a thread made ahead came in together, each as an entry, which the share counts. They concern nobody
pub record ComeInTogether (p : Program) (limit : ℕ) (old : SharedRunView) (t : ℕ) (made : List SpeculativeAccess)
    (new : SharedRunView) (share share' : ShareView) : Type 0 where
  pub goes_on : old.fault ≡ None
  pub takes : TakesAll p limit (log_state old.shared) t made (log_state new.shared)
  pub log : new.shared.log ≡ old.shared.log ++ access_entries t made
  pub fault : new.fault ≡ None
  pub counted : share' ≡ record share { count = share.count + length made }
  pub waits : (new.waiting ≡ old.waiting) × (new.freed ≡ old.freed) × (new.refused ≡ old.refused)
