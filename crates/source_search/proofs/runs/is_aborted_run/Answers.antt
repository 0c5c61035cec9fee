use Rattle.source_states.specs.States.{state_of}
use Rattle.source_search.proofs.runs.is_aborted_run.Goals as goal

pub returns-in_ok-aborted-in-Some : goal.returns-in_ok-aborted-in-Some
returns-in_ok-aborted-in-Some c = λ e. record {
  end = state_of c.in-Some.state;
  run = rw c.in-Some.is at c.in_ok-walked.ensures;
  from = c.are_from.ensures c.if-not-are_from.false;
  is = rw e at c.in_ok-aborted-in-Some.ensures;
}
