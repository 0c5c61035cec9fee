use Rattle.std.proofs.Common.{All, List, map, subst}
use Rattle.program.specs.Views.{program_of}
use Rattle.source_states.specs.Actions.{action_of}
use Rattle.source_states.specs.States.{state_of}
use Rattle.source_states.specs.declared.action.Action.{Action as ActionOf}
use Rattle.source_reaching.specs.Among.{LeadsToEnds}
use Rattle.source_reaching.specs.Choices.{AreOwnChoices}
use Rattle.source_reaching.specs.Ends.{ends_in}
use Rattle.source_reaching.proofs.Arriving.{own_ends}
use Rattle.source_reaching.proofs.reaching.ends.Goals as goal

pub returns : goal.returns
returns c =
    let p = program_of c.args.checked.now.tree in
    let s = state_of c.args.state in
    let t = c.args.process in
    let ends = ends_in c.add_all_ends.new.ends.items in
    let are : AreOwnChoices p s t (map action_of c.in-Some.actions.items) =
    rw c.in-Some.is at c.in_ok-actions.ensures in
    own_ends p t s (map action_of c.in-Some.actions.items) ends
    (subst (λ (l : List ActionOf). All (LeadsToEnds p t s ends) (map action_of l)) c.as_slice-listed.ensures.value
    (c.in_ok-add_all_ends.ensures c.if-not-branch.false)) are
