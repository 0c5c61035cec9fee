use Rattle.std.proofs.Common.{map, subst}
use Rattle.std.proofs.lemmas.List.{take_all}
use Rattle.program.specs.Views.{program_of}
use Rattle.meaning.specs.Runs.{IsStep, Leads}
use Rattle.source_states.specs.Actions.{action_of}
use Rattle.source_states.specs.States.{state_of}
use Rattle.source_search.proofs.Lively.{led_more, none_led}
use Rattle.source_search.proofs.walking.walk.Goals as goal

pub loop-action-init : goal.loop-action-init
loop-action-init c = none_led (program_of c.args.checked.now.tree) (state_of c.args.state.now) c.args.actions.now

pub loop-action-preserved : goal.loop-action-preserved
loop-action-preserved c =
    led_more (program_of c.args.checked.now.tree) (state_of c.args.state.now) (state_of c.loop-action.state)
    (state_of c.advance.new.self) c.args.actions.now c.loop-action.action-index c.action-item.result
    c.loop-action-test.true c.action-item.is c.loop-action.invariant
    (subst (λ t. IsStep (program_of t) (state_of c.loop-action.state) (action_of c.action-item.result)
    (state_of c.advance.new.self))
    c.program.ensures.is (rw c.if-not-branch.false at c.in_ok-advance.ensures))

pub returns : goal.returns
returns c = λ e.
    subst (λ actions. Leads (program_of c.args.checked.now.tree) (state_of c.args.state.now) (map action_of actions)
    (state_of c.loop-action.state))
    (take_all c.loop-action.action-index c.args.actions.now c.loop-action-test.false) c.loop-action.invariant
