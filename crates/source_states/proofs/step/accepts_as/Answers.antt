use Rattle.std.proofs.Common.{drop, map, ◌+◌, refl, subst, sym}
use Rattle.std.proofs.lemmas.List.{drop_all}
use Rattle.program.specs.Trees.{as_version}
use Rattle.program.specs.Views.{program_of}
use Rattle.meaning.specs.Runs.{IsStep, Leads}
use Rattle.meaning.specs.States.{SourceState}
use Rattle.meaning.proofs.Versions.{step_as, step_of}
use Rattle.source_states.specs.Actions.{action_of}
use Rattle.source_states.specs.States.{state_of}
use Rattle.source_states.proofs.Leading.{from_here, leads_nowhere, leads_on}
use Rattle.source_states.proofs.step.accepts_as.Goals as goal

pub returns-then-not-branch : goal.returns-then-not-branch
returns-then-not-branch c = λ s run.
    leads_nowhere (as_version c.args.version (program_of c.args.checked.now.tree)) (state_of c.loop-action.state)
    (map action_of (drop c.loop-action.action-index c.args.actions.now))
    (map action_of (drop (c.loop-action.action-index + 1) c.args.actions.now)) (action_of c.action-item.result)
    (from_here c.args.actions.now c.loop-action.action-index c.action-item.result c.loop-action-test.true
    c.action-item.is)
    (λ u step. subst (λ t. (u : SourceState) → IsStep (program_of t) (state_of c.loop-action.state)
    (action_of c.action-item.result) u → ⊥)
    c.program.ensures.is (rw c.if-not-branch.true at c.in_ok-advance.ensures) u
    (step_of c.args.version (program_of c.args.checked.now.tree) (state_of c.loop-action.state) u
    (action_of c.action-item.result) step)) s ((c.loop-action.invariant s).1 run)

pub loop-action-preserved : goal.loop-action-preserved
loop-action-preserved c = λ s.
    let on = leads_on (as_version c.args.version (program_of c.args.checked.now.tree)) (state_of c.loop-action.state) (state_of c.advance.new.self)
    (map action_of (drop c.loop-action.action-index c.args.actions.now))
    (map action_of (drop (c.loop-action.action-index + 1) c.args.actions.now)) (action_of c.action-item.result)
    (from_here c.args.actions.now c.loop-action.action-index c.action-item.result c.loop-action-test.true
    c.action-item.is)
    (step_as c.args.version (program_of c.args.checked.now.tree) (state_of c.loop-action.state)
    (state_of c.advance.new.self) (action_of c.action-item.result)
    (subst (λ t. IsStep (program_of t) (state_of c.loop-action.state) (action_of c.action-item.result)
    (state_of c.advance.new.self))
    c.program.ensures.is (rw c.if-not-branch.false at c.in_ok-advance.ensures))) s in
    (λ led. (c.loop-action.invariant s).0 (on.0 led), λ run. on.1 ((c.loop-action.invariant s).1 run))

pub returns : goal.returns
returns c =
    (c.loop-action.invariant (state_of c.loop-action.state)).0
    (subst (λ xs. Leads (as_version c.args.version (program_of c.args.checked.now.tree)) (state_of c.loop-action.state) (map action_of xs)
    (state_of c.loop-action.state))
    (sym (drop_all c.loop-action.action-index c.args.actions.now c.loop-action-test.false)) refl)
