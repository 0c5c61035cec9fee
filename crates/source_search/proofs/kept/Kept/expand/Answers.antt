use Rattle.std.proofs.Common.{◌∙◌, All, subst}
use Rattle.std.proofs.lemmas.List.{take_all}
use Rattle.program.specs.Views.{program_of}
use Rattle.source_states.specs.States.{state_of}
use Rattle.source_search.specs.Kept.{IsFollowed, states_of}
use Rattle.source_search.proofs.Keeping.{all_expanded, followed_more, longer_twice}
use Rattle.source_search.proofs.kept.Kept.expand.Goals as goal

pub loop-number-preserved : goal.loop-number-preserved
loop-number-preserved c =
    let kept = states_of c.loop-number.self in
    let kept' = states_of c.follow.new.self in
    record {
      sound = c.in_ok-follow.ensures.sound;
      longer = longer_twice (states_of c.args.self.now) kept kept' c.loop-number.invariant.longer
          c.in_ok-follow.ensures.longer;
      all = followed_more kept kept' c.in_ok-follow.ensures.longer (program_of c.args.checked.now.tree)
          c.args.outside (state_of c.args.state.now) c.as_slice-numbers.result.now c.loop-number.number-index
          c.loop-number-test.true c.loop-number.invariant.all (c.in_ok-follow.ensures.kept c.if-not-branch.false);
    }

pub returns-clause-kept : goal.returns-clause-kept
returns-clause-kept c = λ e.
    let kept = states_of c.loop-number.self in
    all_expanded (program_of c.args.checked.now.tree) c.args.outside kept (state_of c.args.state.now)
    c.in_ok-all.all.items c.in_ok-all.ensures.all
    (subst (All (IsFollowed (program_of c.args.checked.now.tree) c.args.outside kept (state_of c.args.state.now)))
    (take_all c.loop-number.number-index c.as_slice-numbers.result.now c.loop-number-test.false
    ∙ c.as_slice-numbers.ensures.value) c.loop-number.invariant.all)
