use Rattle.std.proofs.Common.{◌≡◌, arith}
use Rattle.std.proofs.lemmas.Bool.Decides.{nat_tests}
use Rattle.std.proofs.lemmas.Result.{IfOk-weaker}
use Rattle.program.specs.Views.{program_of}
use Rattle.source_states.specs.Actions.{action_of}
use Rattle.source_states.specs.States.{state_of}
use Rattle.source_reaching.specs.Ends.{IsReachedBy, ends_in}
use Rattle.source_reaching.proofs.Arriving.{ends_nowhere}
use Rattle.source_reaching.proofs.reaching.add_only_end.Goals as goal

pub returns-in_default : goal.returns-in_default
returns-in_default c = λ e.
    let own : c.args.action.now.process ≡ c.args.process = grind (arith, nat_tests, c.if-action-process.false) in
    ends_nowhere (program_of c.args.checked.now.tree) c.args.process (state_of c.args.state)
    (ends_in c.args.ends.now.items) (action_of c.args.action.now) own (rw c.in_default.is at c.in_ok-reached.ensures)

pub returns : goal.returns
returns c =
    let p = program_of c.args.checked.now.tree in
    let s = state_of c.args.state in
    let a = action_of c.args.action.now in
    let reached : IsReachedBy p c.args.process s a c.in-Some.reached = rw c.in-Some.is at c.in_ok-reached.ensures in
    IfOk-weaker c.add_reached.result _ _ (λ b leads e. leads e s a reached) c.add_reached.ensures.leads
