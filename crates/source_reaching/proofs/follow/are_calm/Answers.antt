use Rattle.std.proofs.Common.{All, List, map, subst}
use Rattle.std.proofs.lemmas.List.{take_all}
use Rattle.proof_exploration.specs.Exploring.{IsCalmKind}
use Rattle.source_states.specs.Actions.{action_of}
use Rattle.source_states.specs.declared.action.Action.{Action as ActionOf}
use Rattle.source_reaching.proofs.Listed.{one_more_action}
use Rattle.source_reaching.proofs.follow.are_calm.Goals as goal

pub loop-action-preserved : goal.loop-action-preserved
loop-action-preserved c =
    one_more_action (λ a. IsCalmKind a.kind) c.args.actions.now c.loop-action.action-index c.action-item.result
    c.loop-action-test.true c.action-item.is c.loop-action.invariant (c.is_calm.ensures.calm c.if-not-is_calm.false)

pub returns : goal.returns
returns c = λ e.
    subst (λ (xs : List ActionOf). All (λ a. IsCalmKind a.kind) (map action_of xs))
    (take_all c.loop-action.action-index c.args.actions.now c.loop-action-test.false) c.loop-action.invariant
