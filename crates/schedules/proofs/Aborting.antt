-- Threads that aborted by a fault.
use Rattle.std.proofs.Common.{◌≡◌, ◌≢◌, ◌∙◌, ◌<◌, ◌+◌, ℕ, Option, Some, None, ap, arith, subst, sym}
use Rattle.words.specs.Outcomes.{outcome_of}
use Rattle.words.specs.Process.{process_word}
use Rattle.words.specs.declared.outcome.Fault.{Fault}
use Rattle.words.specs.declared.outcome.Outcome.{Outcome}
use Rattle.machine.specs.States.{ConcreteState, state_of}
use Rattle.machine.specs.Views.{concrete}
use Rattle.runner.specs.declared.report.Report.{Report}
use Rattle.runner.specs.declared.report.Verdict.TheVariants as verdict
use Rattle.schedules.specs.Failing.{FailsBy, HasAborted, HasFaulted, fault_in}
use Rattle.schedules.specs.declared.failing.RunFailure.{RunFailure}
use Rattle.schedules.specs.declared.failing.RunFailure.TheVariants.{Stuck, Aborted}

pub none_or_some : (fault : Fault) (o : Option Fault) → o ≡ None → o ≡ Some fault → ⊥
none_or_some fault None none some = absurd cc
none_or_some fault (Some x) none some = absurd cc

-- where this one didn't, it is one behind it
pub is_behind : (k : ConcreteState) (before t : ℕ) (fault : Fault) (o : Outcome) → before < t
    → o ≡ outcome_of ((state_of k).word (process_word (before + 1) 5)) → fault_in o ≡ None → HasFaulted k t fault
    → before + 1 < t
is_behind k before t fault o behind is none h =
    let apart : t ≢ before + 1 = λ same.
    none_or_some fault (fault_in o) none
    (ap fault_in is ∙ subst (λ (n : ℕ). fault_in (outcome_of ((state_of k).word (process_word n 5))) ≡ Some fault) same h.told) in
    omega (arith, behind, apart)

-- a run that isn't stuck and in which no thread aborted doesn't fail
pub never : (r : Report) → (r.verdict ≡ verdict.Stuck → ⊥)
    → ((t : ℕ) (fault : Fault) → HasFaulted (concrete r.last.view) t fault → ⊥) → (f : RunFailure) → FailsBy r f → ⊥
never r calm none Stuck h = calm h
never r calm none (Aborted t fault) h = none t fault h

-- a failure is the one that it is
pub fails_as : (r : Report) (f same : RunFailure) → f ≡ same → FailsBy r same → FailsBy r f
fails_as r f same is h = subst (FailsBy r) (sym is) h

pub aborted_as : (k : ConcreteState) (f same : RunFailure) → f ≡ same → HasAborted k same → HasAborted k f
aborted_as k f same is h = subst (HasAborted k) (sym is) h

-- who aborted so makes the run fail
pub aborted_fails : (r : Report) (f : RunFailure) → HasAborted (concrete r.last.view) f → FailsBy r f
aborted_fails r Stuck h = absurd h
aborted_fails r (Aborted t fault) h = h

-- and nothing else does, where the failure is one of a thread
pub aborted_only : (r : Report) (f : RunFailure) (t : ℕ) (fault : Fault) → f ≡ Aborted t fault → FailsBy r f
    → HasAborted (concrete r.last.view) f
aborted_only r f t fault is h =
    aborted_as (concrete r.last.view) f (Aborted t fault) is (subst (FailsBy r) is h)

pub same_some : (a b : Fault) → (let x : Option Fault = Some a in x) ≡ (let y : Option Fault = Some b in y) → a ≡ b
same_some a b same = cc
