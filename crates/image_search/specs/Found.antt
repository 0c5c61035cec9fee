-- What a schedule that a search finds leads to.
use Rattle.std.specs.Prelude.{ℕ, ◌≡◌, ◌+◌, ◌≤◌, true, List, [], ◌∷◌, length, ⊤}
use Rattle.isa.specs.Programs.{Program}
use Rattle.words.specs.declared.outcome.Cause.TheVariants.{Faulted}
use Rattle.locals.specs.declared.request.NextStep.{NextStep}
use Rattle.locals.specs.declared.request.NextStep.TheVariants as next
use Rattle.locals.specs.declared.request.Request.TheVariants as told
use Rattle.machine.specs.States.{state_of}
use Rattle.machine.specs.Views.{concrete}
use Rattle.proof_image_search.specs.Searching.{HasFailed, May}
use Rattle.image_states.specs.Crowds.{IsCrowded}
use Rattle.runner.specs.Schedules.{FailsAt, IsFollowed}
use Rattle.runner.specs.declared.report.Report.{Report}
use Rattle.runner.specs.declared.report.Verdict.TheVariants.{Stuck}
use Rattle.runner.specs.declared.schedule.ScheduleFault.TheVariants.{Broken}
use Rattle.runner.specs.declared.schedule.Turn.{Turn}
use Rattle.runner.specs.declared.schedule.Turn.TheVariants.{Step, Stray, Kill}

-- a wake from outside is searched with strays alone
abbrev pub IsNamedTurn : May → Turn → Type 0
IsNamedTurn may (Step t) = ⊤
IsNamedTurn may (Stray t) = may.strays ≡ true
IsNamedTurn may (Kill t) = ⊤

abbrev pub AreNamedTurns : May → List Turn → Type 0
AreNamedTurns may [] = ⊤
AreNamedTurns may (turn ∷ turns) = IsNamedTurn may turn × AreNamedTurns may turns

-- how many of these turns are kills
abbrev pub one_kill : Turn → ℕ
one_kill (Step t) = 0
one_kill (Stray t) = 0
one_kill (Kill t) = 1

abbrev pub kills_of : List Turn → ℕ
kills_of [] = 0
kills_of (turn ∷ turns) = one_kill turn + kills_of turns

-- no more comes from outside in a schedule than may be
abbrev pub AreTurnsFrom : May → List Turn → Type 0
AreTurnsFrom may turns = AreNamedTurns may turns × (kills_of turns ≤ may.kills)

-- the schedule is followed, to a report of which this holds
pub record LeadsTo (p : Program) (may : May) (Is : Report → Type 0) (turns : List Turn) : Type 0 where
  pub report : Report
  pub followed : IsFollowed p turns report
  pub from : AreTurnsFrom may turns
  pub is : Is report

-- no thread can move, and not all have ended
abbrev pub EndsStuck : Report → Type 0
EndsStuck report = report.verdict ≡ Stuck

-- a thread is dying of a fault
abbrev pub EndsFailed : Report → Type 0
EndsFailed report = HasFailed (state_of (concrete report.last.view))

-- more than twelve threads sleep on one address
abbrev pub EndsCrowded : Report → Type 0
EndsCrowded report = IsCrowded (state_of (concrete report.last.view)).asleep

-- the step that writes that its thread dies of a fault
abbrev pub IsFault : NextStep → Type 0
IsFault (next.Shared (told.Fault (Faulted fault))) = ⊤
IsFault other = ⊥

-- the schedule is followed up to its last turn, which is a step that may not be
pub record LeadsToBroken (p : Program) (may : May) (turns : List Turn) : Type 0 where
  pub refused : FailsAt p turns (Broken (length turns))
  pub from : AreTurnsFrom may turns
