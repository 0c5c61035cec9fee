use Rattle.std.proofs.Common.{◌≡◌, ◌+◌, List, ap, arith, drop, map}
use Rattle.std.proofs.lemmas.List.{drop_all}
use Rattle.source_sameness.proofs.Lists.{split_at}
use Rattle.source_states.specs.declared.action.Action.{Action}
use Rattle.source_states.specs.Actions.{action_of, kind_of}
use Rattle.source_search.specs.Found.{kills_of, one_kill}
use Rattle.source_search.proofs.outside.are_few_kills.Goals as goal

pub loop-action-preserved : goal.loop-action-preserved
loop-action-preserved c =
    let split : kills_of (map action_of (drop c.loop-action.action-index c.args.actions.now))
    ≡ one_kill (kind_of c.action-item.result.kind)
    + kills_of (map action_of (drop (c.loop-action.action-index + 1) c.args.actions.now)) =
    ap (λ (l : List Action). kills_of (map action_of l))
    (split_at c.args.actions.now c.loop-action.action-index c.action-item.result c.loop-action-test.true
    c.action-item.is) in
    omega (arith, split, c.loop-action.invariant, c.in-Some.ensures)

pub returns : goal.returns
returns c = λ e.
    let end : kills_of (map action_of (drop c.loop-action.action-index c.args.actions.now)) ≡ 0 =
    ap (λ (l : List Action). kills_of (map action_of l))
    (drop_all c.loop-action.action-index c.args.actions.now c.loop-action-test.false) in
    omega (arith, end, c.loop-action.invariant)
