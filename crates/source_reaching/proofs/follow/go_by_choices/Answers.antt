use Rattle.std.proofs.Common.{◌≡◌, ◌∙◌, ◌∷◌, [], ap, arith, length, map, subst, sym}
use Rattle.std.proofs.lemmas.Bool.Decides.{nat_tests}
use Rattle.program.specs.Views.{program_of}
use Rattle.meaning.specs.Runs.{IsStep}
use Rattle.source_states.specs.Actions.{action_of}
use Rattle.source_states.specs.States.{state_of}
use Rattle.source_reaching.specs.Covered.{IsFollowable}
use Rattle.source_reaching.proofs.Listed.{one_listed}
use Rattle.source_reaching.proofs.Following.{ahead_among_none, ahead_among_one, choices_among}
use Rattle.source_reaching.proofs.follow.go_by_choices.Goals as goal

pub returns-in_default : goal.returns-in_default
returns-in_default g c =
    ahead_among_none (program_of c.args.checked.now.tree) c.args.process (state_of c.args.state.now)

pub returns-then-listed-ne1 : goal.returns-then-listed-ne1
returns-then-listed-ne1 g c = (
  ahead_among_none (program_of c.args.checked.now.tree) c.args.process (state_of c.args.state.now),
  choices_among (program_of c.args.checked.now.tree) c.args.process (state_of c.args.state.now)
      (map action_of c.in-Some.actions.items) (rw c.in-Some.is at c.in_ok-actions.ensures),
)

pub returns : goal.returns
returns g c =
    let p = program_of c.args.checked.now.tree in
    let s = state_of c.args.state.now in
    let a = action_of c.index-listed-0.result in
    let after = state_of c.advance.new.self in
    let is : IsFollowable p s c.args.process (map action_of c.in-Some.actions.items) =
    rw c.in-Some.is at c.in_ok-actions.ensures in
    let one : length c.as_slice-listed.result.now ≡ 1 = grind (arith, nat_tests, c.if-listed-ne1.false) in
    let alone : IsFollowable p s c.args.process (a ∷ []) =
    subst (IsFollowable p s c.args.process) (ap (map action_of) (sym c.as_slice-listed.ensures.value)
    ∙ one_listed c.as_slice-listed.result.now c.index-listed-0.result one c.index-listed-0.is) is in
    let step : IsStep p s a after =
    subst (λ t. IsStep (program_of t) s a after) c.program.ensures.is
    (rw c.if-not-branch.false at c.in_ok-advance.ensures) in
    ahead_among_one p c.args.process s a after alone step
