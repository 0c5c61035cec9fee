use Rattle.std.proofs.Common.{All, ap, map, subst}
use Rattle.std.proofs.lemmas.List.{take_all}
use Rattle.program.specs.Views.{program_of}
use Rattle.source_states.specs.Actions.{action_of}
use Rattle.source_states.specs.States.{state_of}
use Rattle.source_search.specs.Kept.{LeadsToKept, states_of}
use Rattle.source_search.proofs.Keeping.{leads_more, longer_twice}
use Rattle.source_search.proofs.kept.Kept.take_all.Goals as goal

pub loop-choice-preserved : goal.loop-choice-preserved
loop-choice-preserved c =
    let kept = states_of c.loop-choice.self in
    let kept' = states_of c.take.new.self in
    record {
      sound = c.in_ok-take.ensures.sound;
      longer = longer_twice (states_of c.args.self.now) kept kept' c.loop-choice.invariant.longer
          c.in_ok-take.ensures.longer;
      all = leads_more kept kept' c.in_ok-take.ensures.longer (program_of c.args.checked.now.tree)
          (state_of c.args.state.now) c.args.actions.now c.loop-choice.choice c.index-actions-choice.result
          c.loop-choice-test.true c.index-actions-choice.is c.loop-choice.invariant.all
          (c.in_ok-take.ensures.kept c.if-not-branch.false);
    }

pub returns-clause-kept : goal.returns-clause-kept
returns-clause-kept c = λ e.
    subst (All (LeadsToKept (program_of c.args.checked.now.tree) (states_of c.loop-choice.self)
    (state_of c.args.state.now)))
    (ap (map action_of) (take_all c.loop-choice.choice c.args.actions.now c.loop-choice-test.false))
    c.loop-choice.invariant.all
