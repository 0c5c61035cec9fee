use Rattle.source_states.specs.States.{state_of}
use Rattle.source_search.proofs.blocking.blocked_behind.Goals as goal

pub returns-in_ok-processes-in-Some : goal.returns-in_ok-processes-in-Some
returns-in_ok-processes-in-Some c = λ some.
    let run = rw c.in-Some.is at c.in_ok-walked.ensures in
    record {
      end = state_of c.in-Some.state;
      run = run;
      from = c.are_from.ensures c.if-not-are_from.false;
      is = c.in_ok-processes-in-Some.ensures _ run;
    }
