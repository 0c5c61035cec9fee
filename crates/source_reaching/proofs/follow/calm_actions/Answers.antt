use Rattle.std.proofs.Common.{All, List, map, subst}
use Rattle.program.specs.Views.{program_of}
use Rattle.proof_exploration.specs.Exploring.{IsCalmKind}
use Rattle.source_states.specs.Actions.{action_of}
use Rattle.source_states.specs.States.{state_of}
use Rattle.source_states.specs.declared.action.Action.{Action as ActionOf}
use Rattle.source_reaching.specs.Choices.{AreOwnChoices}
use Rattle.source_reaching.proofs.Ahead.{followable}
use Rattle.source_reaching.proofs.follow.calm_actions.Goals as goal

pub returns : goal.returns
returns c =
    let p = program_of c.args.checked.now.tree in
    let s = state_of c.args.state.now in
    let are : AreOwnChoices p s c.args.process (map action_of c.in-Some.actions.items) =
    rw c.in-Some.is at c.in_ok-actions.ensures in
    followable p s c.args.process (map action_of c.in-Some.actions.items)
    (rw c.if-not-can_move.false at c.can_move.ensures) are
    (subst (λ (xs : List ActionOf). All (λ a. IsCalmKind a.kind) (map action_of xs)) c.as_slice.ensures.value
    (c.are_calm.ensures c.if-not-are_calm.false))
