-- What is deferred of each process, as a recorder counts it.
use Rattle.std.specs.Prelude.{ℕ, ◌≡◌, ◌==◌, Bool, List, length, Option, Some, None, if◌then◌else◌}
use Rattle.std.specs.Prelude.{slice_get}
use Rattle.words.specs.declared.outcome.Fault.TheVariants.{ProcessTableFull}
use Rattle.locals.specs.declared.request.Request.TheVariants as told
use Rattle.locals.specs.declared.request.NextStep.{NextStep}
use Rattle.locals.specs.declared.request.NextStep.TheVariants as next
use Rattle.lowering.specs.declared.mark.Mark.{Mark}
use Rattle.proof_thread.specs.Deferrals.{deferred_by_mark, last_mark, fault_of}
use Rattle.meaning.specs.Labels.{Kind, Fails}
use Rattle.proof_simulation.specs.Deferred.{has_failed, is_failing}
use Rattle.log_simulation.specs.declared.deferral.Deferral.{Deferral}
use Rattle.log_simulation.specs.declared.deferral.Deferral.TheVariants as deferral
use Rattle.log_simulation.specs.declared.deferred.Deferred.{Deferred}

-- no action, or one that is deferred: a fault, or another one
abbrev pub deferral_of : Option Kind → Deferral
deferral_of None = deferral.Nothing
deferral_of (Some k) = if is_failing k then deferral.Fault else deferral.Action

-- the action that is deferred behind a step of a thread that stands at this mark and comes to this, with this value in
-- its event
abbrev pub deferred_by_next_step : Option Mark → NextStep → ℕ → Option Kind
deferred_by_next_step mark next.Local v = deferred_by_mark mark
deferred_by_next_step mark (next.Shared told.Return) v = last_mark mark
deferred_by_next_step mark (next.Shared (told.ReturnValue z)) v = last_mark mark
deferred_by_next_step mark (next.Shared (told.Fault cause)) v = fault_of cause
deferred_by_next_step mark (next.Fork entry count has_room) v = if v == 0 then Some (Fails ProcessTableFull) else None
deferred_by_next_step mark step v = None

-- so many are deferred, and a fault is among them or not
pub record Says (x : Deferred) (ks : List Kind) : Type 0 where
  pub count : x.count ≡ length ks
  pub failed : x.has_failed ≡ has_failed ks

-- of each process
abbrev pub CountsDeferred : List Deferred → (ℕ → List Kind) → Type 0
CountsDeferred counted deferred = (t : ℕ) → (x : Deferred) → slice_get counted t ≡ Some x → Says x (deferred t)

-- which threads have raised a number
abbrev pub Raises : List Bool → (ℕ → Bool) → Type 0
Raises bits raised = (t : ℕ) → (b : Bool) → slice_get bits t ≡ Some b → b ≡ raised t
