use Rattle.program.specs.Views.{program_of}
use Rattle.source_states.specs.States.{state_of}
use Rattle.source_reaching.specs.Ends.{LeadsTo}
use Rattle.std.proofs.Common.{Some}
use Rattle.source_reaching.proofs.Arriving.{reached}
use Rattle.source_reaching.proofs.reaching.behind.Goals as goal

pub returns-in_default : goal.returns-in_default
returns-in_default c = λ s a own leads. rw c.in_default.is at leads

pub returns : goal.returns
returns c = λ s a own leads.
    let p = program_of c.args.checked.now.tree in
    let led : LeadsTo p s a (Some c.in-Some.after) = rw c.in-Some.is at leads in
    reached p c.args.process s (state_of c.in-Some.after) (state_of c.follow_own.new.state) a own led.0
    (led.1 c.args.process) c.in_ok-followed.followed c.in_ok-followed.ensures
