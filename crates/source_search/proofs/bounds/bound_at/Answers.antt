use Rattle.source_states.specs.States.{state_of}
use Rattle.source_search.proofs.bounds.bound_at.Goals as goal

pub returns-then-branch : goal.returns-then-branch
returns-then-branch c = λ p may most kept here few.
    (state_of c.args.state.now, here, c.in_ok-is_crowded.ensures c.if-branch.true)
