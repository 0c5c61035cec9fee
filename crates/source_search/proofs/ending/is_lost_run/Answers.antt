use Rattle.source_states.specs.States.{state_of}
use Rattle.source_search.proofs.ending.is_lost_run.Goals as goal

pub returns-in_ok-lost-in-Some : goal.returns-in_ok-lost-in-Some
returns-in_ok-lost-in-Some c = λ e.
    let run = rw c.in-Some.is at c.in_ok-walked.ensures in
    record {
      end = state_of c.in-Some.state;
      run = run;
      from = c.are_from.ensures c.if-not-are_from.false;
      is = c.in_ok-lost-in-Some.ensures e _ run;
    }
