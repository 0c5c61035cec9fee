use Rattle.std.proofs.Common.{List, map, subst, sym}
use Rattle.std.proofs.lemmas.List.{drop_all}
use Rattle.source_sameness.proofs.Lists.{split_at}
use Rattle.source_states.specs.declared.action.Action.{Action}
use Rattle.source_states.specs.Actions.{action_of}
use Rattle.source_search.specs.Found.{AreNamed}
use Rattle.source_search.proofs.outside.are_named.Goals as goal

pub loop-action-preserved : goal.loop-action-preserved
loop-action-preserved c = λ rest.
    c.loop-action.invariant (subst (λ (l : List Action). AreNamed c.args.outside (map action_of l))
    (sym (split_at c.args.actions.now c.loop-action.action-index c.action-item.result c.loop-action-test.true
    c.action-item.is))
    (c.is_named.ensures c.if-not-is_named.false, rest))

pub returns : goal.returns
returns c = λ e.
    c.loop-action.invariant (subst (λ (l : List Action). AreNamed c.args.outside (map action_of l))
    (sym (drop_all c.loop-action.action-index c.args.actions.now c.loop-action-test.false)) tt)
