use Rattle.std.proofs.Common.{ap, map, subst, All}
use Rattle.std.proofs.lemmas.List.{take_all}
use Rattle.program.specs.Views.{program_of}
use Rattle.source_states.specs.Actions.{action_of}
use Rattle.source_states.specs.States.{state_of}
use Rattle.source_reaching.specs.Among.{LeadsToEnds}
use Rattle.source_reaching.specs.Ends.{ends_in}
use Rattle.source_reaching.proofs.Arriving.{ends_none_yet, ends_one_more}
use Rattle.source_reaching.proofs.reaching.add_ends.Goals as goal

pub loop-choice-init : goal.loop-choice-init
loop-choice-init c = ends_none_yet (program_of c.args.checked.now.tree) c.args.process (state_of c.args.state.now)
    (ends_in c.args.ends.now.items) c.args.actions.now

pub loop-choice-preserved : goal.loop-choice-preserved
loop-choice-preserved c =
    let old = ends_in c.loop-choice.ends.items in
    let new = ends_in c.add_end.new.ends.items in
    ends_one_more (program_of c.args.checked.now.tree) c.args.process (state_of c.args.state.now) old new
    c.args.actions.now c.loop-choice.choice c.index-actions-choice.result c.in_ok-add_end.ensures.longer c.loop-choice-test.true
    c.index-actions-choice.is c.loop-choice.invariant (c.in_ok-add_end.ensures.leads c.if-not-branch.false)

pub returns : goal.returns
returns c = λ e.
    subst (All (LeadsToEnds (program_of c.args.checked.now.tree) c.args.process (state_of c.args.state.now)
    (ends_in c.loop-choice.ends.items)))
    (ap (map action_of) (take_all c.loop-choice.choice c.args.actions.now c.loop-choice-test.false)) c.loop-choice.invariant
