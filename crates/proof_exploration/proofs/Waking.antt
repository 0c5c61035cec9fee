-- A search that is complete with stray wake-ups has seen all ends of runs with them.
use Rattle.std.proofs.Common.{true, List, Contains}
use Rattle.program.specs.Trees.{Program}
use Rattle.program.specs.WellFormed.{WellFormed}
use Rattle.meaning.specs.Labels.{Action}
use Rattle.meaning.specs.States.{SourceState, opening}
use Rattle.meaning.specs.Runs.{IsRun}
use Rattle.proof_exploration.specs.Exploring.{AreUnkilled, HasAborted, IsStuck}
use Rattle.proof_exploration.specs.Searching.{IsComplete}
use Rattle.proof_exploration.proofs.Searching.{HasFailed, Stuck, nowhere}
use Rattle.proof_exploration.proofs.Sleeping.{PutOff, put_off_run, sleeps_aborted, sleeps_stuck}

module _ (p : Program) (kept : List SourceState) (wf : WellFormed p) (complete : IsComplete p true kept) where
  pub never_stuck_waking : ((s : SourceState) → Contains kept s → IsStuck p s → ⊥)
      → (actions : List Action) (s : SourceState) → IsRun p actions s → AreUnkilled actions → IsStuck p s → ⊥
  never_stuck_waking tested actions s run none stuck =
      let d : PutOff p wf (opening p) s = put_off_run p wf actions s run none in
      nowhere p wf true Stuck kept complete tested d.turns d.end d.led
      (sleeps_stuck p wf actions s d.end run d.more stuck)

  pub never_aborted_waking : ((s : SourceState) → Contains kept s → HasAborted s → ⊥)
      → (actions : List Action) (s : SourceState) → IsRun p actions s → AreUnkilled actions → HasAborted s → ⊥
  never_aborted_waking tested actions s run none is =
      let d : PutOff p wf (opening p) s = put_off_run p wf actions s run none in
      nowhere p wf true HasFailed kept complete tested d.turns d.end d.led
      (sleeps_aborted p wf s d.end d.more is)
