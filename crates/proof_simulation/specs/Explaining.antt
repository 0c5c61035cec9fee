-- The run of the source that explains a run of the machine: what the source has come to by the machine's steps, and
-- what is deferred at the end, by rising number of process.
use Rattle.std.specs.Prelude.{ℕ, ◌≡◌, false, List, ◌++◌}
use Rattle.machine.specs.States.{State, opening_state}
use Rattle.machine.specs.Runs.{Step, MachineRun}
use Rattle.program.specs.Trees.{Program}
use Rattle.program.specs.WellFormed.{WellFormed}
use Rattle.lowering.specs.Pieces.{code_of}
use Rattle.meaning.specs.Labels.{Action, Label}
use Rattle.meaning.specs.Runs.{IsRun}
use Rattle.meaning.specs.States.{SourceState}
use Rattle.proof_commutation.specs.Deferring.{IsBehind, is_internal}
use Rattle.proof_commutation.specs.Placed.{actions_up_to}
use Rattle.proof_simulation.specs.Deferred.{raised_at}
use Rattle.proof_simulation.specs.Ordering.{Resumes}
use Rattle.proof_simulation.specs.Progress.{Progress, progress, progress_caught_up, progress_of_trace}
use Rattle.proof_pieces.specs.Traces.{Trace, none_taken}
use Rattle.proof_simulation.specs.Tracking.{CanTake, Tracks}

-- all actions that the source has come to, and then what is deferred
abbrev pub explanation : (p : Program) (steps : List Step) (s : State) → MachineRun (code_of p) steps s → List Action
explanation p steps s run = let g = progress p steps s run in g.actions ++ actions_up_to s.made g.deferred

-- the same of a trace
abbrev pub explanation_of_trace : (p : Program) (steps : List Step) (s : State)
    → Trace (code_of p) (opening_state (code_of p)) none_taken steps s → List Action
explanation_of_trace p steps s run =
    let g = progress_of_trace p steps s run in g.actions ++ actions_up_to s.made g.deferred

-- the actions so far are a run of the program, whose source goes with the machine, but for what is deferred
pub record IsReached (p : Program) (w : WellFormed p) (steps : ℕ) (s : State) (g : Progress) : Type 0 where
  pub run : IsRun p g.actions g.source
  pub tracks : Tracks p w steps s g.source
  pub deferred : tracks.deferred ≡ g.deferred
  pub raises : (u : ℕ) → raised_at tracks.ties.world u ≡ g.raised u

-- a visible step of process t led to this state of the machine: what is deferred of the process may be taken, and then
-- a visible action of it
pub record IsDue (p : Program) (s : State) (t : ℕ) (g : Progress) : Type 0 where
  pub ahead : SourceState
  pub behind : IsBehind p g.deferred g.source ahead
  pub label : Label
  pub visible : is_internal label ≡ false
  pub can : CanTake p (progress_caught_up p t g).source t label
  pub resumes : Resumes p s (progress_caught_up p t g).source.table label
