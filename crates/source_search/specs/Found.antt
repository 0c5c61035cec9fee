-- What a search over all runs finds.
use Rattle.std.specs.Prelude.{ℕ, zero, suc, ◌≡◌, ◌+◌, ◌<◌, ◌≤◌, ◌||◌, if◌then◌else◌, nat_lt, Bool, true, false}
use Rattle.std.specs.Prelude.{List, [], ◌∷◌, Option, Some, None, map, ⊤}
use Rattle.program.specs.Trees.{Program}
use Rattle.meaning.specs.Labels.{Action, Aborted, Cause, Faulted, Kill, Killed, Kind, Stray}
use Rattle.meaning.specs.Processes.{Process, Dying, Over}
use Rattle.meaning.specs.Runs.{IsRun}
use Rattle.meaning.specs.States.{SourceState}
use Rattle.source_states.specs.declared.action.Action.{Action as ActionOf}
use Rattle.source_states.specs.Actions.{action_of}
use Rattle.proof_exploration.specs.Exploring.{IsOver}
use Rattle.source_search.specs.declared.outside.Outside.{Outside}

-- something may come from outside
abbrev pub is_any : Outside → Bool
is_any may = may.strays || nat_lt 0 may.kills

-- with kills all actions are interleaved
abbrev pub interleaves : Outside → Bool
interleaves may = nat_lt 0 may.kills

-- a process that was killed: it dies of that, or has died
abbrev pub is_killed : Process → Bool
is_killed (Dying Killed ms) = true
is_killed (Over (Aborted Killed)) = true
is_killed other = false

abbrev pub is_killed_at : Option Process → Bool
is_killed_at None = false
is_killed_at (Some q) = is_killed q

-- how many of the processes up to a number were killed
abbrev pub killed_to : (ℕ → Option Process) → ℕ → ℕ
killed_to process zero = 0
killed_to process (suc n) = killed_to process n + (if is_killed_at (process (suc n)) then 1 else 0)

-- how many processes were killed, of those that were made
abbrev pub killed_in : SourceState → ℕ
killed_in s = killed_to s.process s.table.made

-- actions of this name are searched in a state: those of processes' own, with strays stray wake-ups, and kills as long as
-- fewer processes were killed than may be
abbrev pub IsFrom : Outside → SourceState → Kind → Type 0
IsFrom may s (Stray c) = may.strays ≡ true
IsFrom may s (Kill resumed last) = killed_in s < may.kills
IsFrom may s other = ⊤

-- a stray wake-up is searched with strays alone
abbrev pub IsNamed : Outside → Kind → Type 0
IsNamed may (Stray c) = may.strays ≡ true
IsNamed may other = ⊤

abbrev pub AreNamed : Outside → List Action → Type 0
AreNamed may [] = ⊤
AreNamed may (a ∷ actions) = IsNamed may a.kind × AreNamed may actions

-- how many of these actions are kills
abbrev pub one_kill : Kind → ℕ
one_kill (Kill resumed last) = 1
one_kill other = 0

abbrev pub kills_of : List Action → ℕ
kills_of [] = 0
kills_of (a ∷ actions) = one_kill a.kind + kills_of actions

-- actions of processes' own, with strays stray wake-ups too, and no more kills than may be
abbrev pub AreFrom : Outside → List Action → Type 0
AreFrom may actions = AreNamed may actions × (kills_of actions ≤ may.kills)

-- a run of such actions, to such an end
pub record LeadsTo (p : Program) (may : Outside) (Is : SourceState → Type 0) (actions : List ActionOf) : Type 0 where
  pub end : SourceState
  pub run : IsRun p (map action_of actions) end
  pub from : AreFrom may (map action_of actions)
  pub is : Is end

-- no run of such actions has such an end
abbrev pub LeadsNowhere : Program → Outside → (SourceState → Type 0) → Type 0
LeadsNowhere p may Is = (actions : List Action) (s : SourceState) → IsRun p actions s → AreFrom may actions
    → Is s → ⊥

-- there is such a process, and it isn't over
abbrev pub GoesOn : SourceState → ℕ → Type 0
GoesOn s q = (at : Process) × (s.process q ≡ Some at) × (IsOver at → ⊥)

-- an end of this cause is looked for: a fault, and a kill only where no kills are searched
abbrev pub IsCounted : Outside → Cause → Type 0
IsCounted may (Faulted fault) = ⊤
IsCounted may Killed = may.kills ≡ 0

-- there is such a process, and it has aborted of a cause that is looked for
abbrev pub FailedAt : Outside → SourceState → ℕ → Type 0
FailedAt may s q = (cause : Cause) × (s.process q ≡ Some (Over (Aborted cause))) × IsCounted may cause

-- some process has aborted of a cause that is looked for
abbrev pub HasFailed : Outside → SourceState → Type 0
HasFailed may s = (q : ℕ) × FailedAt may s q
