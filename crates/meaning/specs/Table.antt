-- What all processes share but variables and output: monitors, conditions, and the process table; and which actions it
-- allows (Lampson and Redell, sections 2 and 3).
use Rattle.std.specs.Prelude.{ℕ, ◌+◌, ◌≡◌, ◌≤◌, ◌<◌, Bool, true, false, List, [], ◌∷◌, Option, Some, None, Contains}
use Rattle.std.specs.List.Sorted.{IsStrictlyIncreasing}
use Rattle.words.specs.Updates.{put}
use Rattle.program.specs.declared.kinds.Member.{Member}
use Rattle.meaning.specs.Labels.{End, Label, Alone, Stores, Forks, FindsFull, Claims, FindsClaimed, Joins, Enters}
use Rattle.meaning.specs.Labels.{Resumes, Exits, Waits, Notifies, Broadcasts, Abandons, Ends}

-- a monitor is free, or abandoned by a process that died in it, or held by a process
pub data Hold : Type 0 where
  Free : Hold
  Abandoned : Hold
  HeldBy : (process : ℕ) → Hold

-- what processes share of monitors, conditions and one another
pub record Table : Type 0 where
  -- how many processes there can be
  pub most : ℕ
  -- of each monitor
  pub hold : ℕ → Hold
  -- the condition that each process waits on: so each condition has the set of processes that wait on it
  pub waits : ℕ → Option Member
  -- which processes were claimed for a JOIN
  pub claimed : ℕ → Bool
  -- how many processes were made: their numbers are 1, 2, 3 ..
  pub made : ℕ
  -- how each process is over, where it is
  pub over : ℕ → Option End

-- these processes wait no longer
abbrev pub without_waiters : List ℕ → (ℕ → Option Member) → ℕ → Option Member
without_waiters [] waits = waits
without_waiters (q ∷ qs) waits = put (without_waiters qs waits) q None

-- a monitor that can be entered: free, or abandoned
abbrev pub enterable : Bool → Hold
enterable true = Abandoned
enterable false = Free

-- these processes wait on the condition
abbrev pub AllWait : Table → Member → List ℕ → Type 0
AllWait t c resumed = (q : ℕ) → Contains resumed q → t.waits q ≡ Some c

-- a notify resumes some of the processes that wait on the condition, one at least where any waits: a set, as its rising
-- numbers
pub record IsNotified (t : Table) (c : Member) (resumed : List ℕ) : Type 0 where
  pub rising : IsStrictlyIncreasing resumed
  pub wait : AllWait t c resumed
  pub some : (q : ℕ) → t.waits q ≡ Some c → resumed ≡ [] → ⊥

-- a broadcast resumes all of them
pub record IsBroadcast (t : Table) (c : Member) (resumed : List ℕ) : Type 0 where
  pub rising : IsStrictlyIncreasing resumed
  pub wait : AllWait t c resumed
  pub all : (q : ℕ) → t.waits q ≡ Some c → Contains resumed q

-- the process may do this, and it leads from the first table to the second
abbrev pub Allows : ℕ → Label → Table → Table → Type 0
Allows p (Alone kind) t t' = t' ≡ t
Allows p (Stores m) t t' = t' ≡ t
Allows p (Forks child) t t' = (t.made < t.most) × (child ≡ t.made + 1) × (t' ≡ record t { made = t.made + 1 })
Allows p FindsFull t t' = (t.most ≤ t.made) × (t' ≡ t)
Allows p (Claims child) t t' = (t.claimed child ≡ false) × (t' ≡ record t { claimed = put t.claimed child true })
Allows p (FindsClaimed child) t t' = (t.claimed child ≡ true) × (t' ≡ t)
Allows p (Joins child end) t t' = (t.over child ≡ Some end) × (t' ≡ t)
Allows p (Enters m was_abandoned) t t' = (t.hold m ≡ enterable was_abandoned)
    × (t' ≡ record t { hold = put t.hold m (HeldBy p) })
Allows p (Resumes m was_abandoned) t t' =
    (t.waits p ≡ None) × (t.hold m ≡ enterable was_abandoned) × (t' ≡ record t { hold = put t.hold m (HeldBy p) })
Allows p (Exits m) t t' = t' ≡ record t { hold = put t.hold m Free }
Allows p (Waits c) t t' = t' ≡ record t { hold = put t.hold c.monitor Free; waits = put t.waits p (Some c) }
Allows p (Notifies c resumed) t t' = IsNotified t c resumed
    × (t' ≡ record t { waits = without_waiters resumed t.waits })
Allows p (Broadcasts c resumed) t t' = IsBroadcast t c resumed
    × (t' ≡ record t { waits = without_waiters resumed t.waits })
Allows p (Abandons m) t t' = t' ≡ record t { hold = put t.hold m Abandoned }
Allows p (Ends end) t t' = t' ≡ record t { over = put t.over p (Some end) }

-- from outside: a process that waits resumes
abbrev pub AllowsStray : ℕ → Member → Table → Table → Type 0
AllowsStray p c t t' = (t.waits p ≡ Some c) × (t' ≡ record t { waits = put t.waits p None })

-- the processes that one killed at a notify or broadcast has resumed: some that wait on the condition, or none
abbrev pub AreResumed : Table → Option Member → List ℕ → Type 0
AreResumed t None resumed = resumed ≡ []
AreResumed t (Some c) resumed = IsStrictlyIncreasing resumed × AllWait t c resumed

-- from outside: a process dies where it stands
abbrev pub AllowsKill : ℕ → Option Member → List ℕ → Table → Table → Type 0
AllowsKill p notified resumed t t' =
    AreResumed t notified resumed × (t' ≡ record t { waits = put (without_waiters resumed t.waits) p None })

-- nobody holds a monitor, waits, is claimed or over; the main process alone was made
abbrev pub first_table : ℕ → Table
first_table most = record {
  most = most;
  hold = λ m. Free;
  waits = λ p. None;
  claimed = λ p. false;
  made = 1;
  over = λ p. None;
}
