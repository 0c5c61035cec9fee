use Rattle.std.proofs.Common.{subst}
use Rattle.program.specs.Views.{program_of}
use Rattle.meaning.specs.Runs.{IsStep}
use Rattle.meaning.specs.States.{SourceState}
use Rattle.source_states.specs.Actions.{action_of}
use Rattle.source_states.specs.States.{state_of}
use Rattle.source_states.proofs.state.SourceState.step.Goals as goal

pub returns-then-not-branch : goal.returns-then-not-branch
returns-then-not-branch c =
    subst (λ t. (s : SourceState) → IsStep (program_of t) (state_of c.args.self) (action_of c.args.action.now) s → ⊥)
    c.program.ensures.is (rw c.if-not-branch.true at c.in_ok-advance.ensures)
