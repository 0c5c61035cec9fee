use Rattle.std.proofs.Common.{ap, map, subst, All}
use Rattle.std.proofs.lemmas.List.{take_all}
use Rattle.program.specs.Views.{program_of}
use Rattle.source_states.specs.Actions.{action_of}
use Rattle.source_states.specs.States.{state_of}
use Rattle.source_reaching.specs.Among.{LeadsToEnds}
use Rattle.source_reaching.specs.Ends.{ends_in}
use Rattle.source_reaching.proofs.Listed.{longer_none, longer_twice}
use Rattle.source_reaching.proofs.Arriving.{ends_none_yet, ends_one_more}
use Rattle.source_reaching.proofs.reaching.add_choices.Goals as goal

pub loop-later-init : goal.loop-later-init
loop-later-init c = record {
  longer = longer_none (ends_in c.args.ends.now.items);
  all = ends_none_yet (program_of c.args.checked.now.tree) c.args.process (state_of c.args.state.now)
      (ends_in c.args.ends.now.items) c.args.actions.now;
}

pub loop-later-preserved : goal.loop-later-preserved
loop-later-preserved c =
    let old = ends_in c.loop-later.ends.items in
    let new = ends_in c.add_later.new.ends.items in
    record {
      longer = longer_twice (ends_in c.args.ends.now.items) old new c.loop-later.invariant.longer c.in_ok-add_later.ensures.longer;
      all = ends_one_more (program_of c.args.checked.now.tree) c.args.process (state_of c.args.state.now) old new
          c.args.actions.now c.loop-later.later c.index-actions-later.result c.in_ok-add_later.ensures.longer c.loop-later-test.true
          c.index-actions-later.is c.loop-later.invariant.all (c.in_ok-add_later.ensures.leads c.if-not-branch.false);
    }

pub returns-clause-leads : goal.returns-clause-leads
returns-clause-leads c = λ e.
    subst (All (LeadsToEnds (program_of c.args.checked.now.tree) c.args.process (state_of c.args.state.now)
    (ends_in c.loop-later.ends.items)))
    (ap (map action_of) (take_all c.loop-later.later c.args.actions.now c.loop-later-test.false)) c.loop-later.invariant.all
