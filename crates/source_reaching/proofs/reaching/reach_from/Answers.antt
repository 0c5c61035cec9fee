use Rattle.std.proofs.lemmas.Result.{IfOk-weaker}
use Rattle.program.specs.Views.{program_of}
use Rattle.source_states.specs.Actions.{action_of}
use Rattle.source_states.specs.States.{state_of}
use Rattle.source_reaching.proofs.Successors.{leads_to}
use Rattle.source_reaching.proofs.reaching.reach_from.Goals as goal

pub returns : goal.returns
returns c =
    let p = program_of c.args.checked.now.tree in
    let s = state_of c.args.state in
    let a = action_of c.args.action.now in
    IfOk-weaker c.behind.result _ _ (λ o h. h s a c.requires
    (leads_to p s a c.in_ok-next.next c.in_ok-next.ensures.next c.in_ok-next.ensures.stays)) c.behind.ensures
