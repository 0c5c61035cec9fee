use Rattle.std.proofs.Common.{All, map, subst}
use Rattle.program.specs.Views.{program_of}
use Rattle.source_states.specs.Actions.{action_of}
use Rattle.source_states.specs.States.{state_of}
use Rattle.source_search.specs.Choices.{AreChoices}
use Rattle.source_search.specs.Kept.{LeadsToKept, states_of}
use Rattle.source_search.proofs.Keeping.{all_followed}
use Rattle.source_search.proofs.kept.Kept.follow.Goals as goal

pub returns-clause-kept : goal.returns-clause-kept
returns-clause-kept c = λ e.
    let p = program_of c.args.checked.now.tree in
    let s = state_of c.args.state.now in
    let kept = states_of c.take_all.new.self in
    let are : AreChoices p c.args.outside s c.args.process (map action_of c.in-Some.actions.items) =
    rw c.in-Some.is at c.in_ok-actions.ensures in
    all_followed p c.args.outside kept s c.args.process (map action_of c.in-Some.actions.items) are
    (subst (λ xs. All (LeadsToKept p kept s) (map action_of xs)) c.as_slice-listed.ensures.value
    (c.in_ok-all.ensures.kept e))
