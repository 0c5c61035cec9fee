use Rattle.machine.specs.States.{opening_state}
use Rattle.lowering.specs.Pieces.{code_of}
use Rattle.proof_simulation.specs.Progress.{opening_progress}
use Rattle.proof_simulation.proofs.Traces.{trace_of, progress_same}
use Rattle.proof_simulation.proofs.Explaining.{reached_along, explained_along}
use Rattle.proof_simulation.proofs.law.traces_explain.Goals as goal

pub returns-clause-traced : goal.returns-clause-traced
returns-clause-traced c = λ p steps s run. (
  trace_of p steps (opening_state (code_of p)) s run,
  progress_same p (opening_progress p) steps (opening_state (code_of p)) s run,
)

pub returns-clause-reached : goal.returns-clause-reached
returns-clause-reached c = reached_along

pub returns-clause-explained : goal.returns-clause-explained
returns-clause-explained c = explained_along
