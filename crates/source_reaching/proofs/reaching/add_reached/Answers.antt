use Rattle.std.proofs.Common.{◌∙◌, All, List, ap, map, subst}
use Rattle.std.proofs.lemmas.List.{map_push}
use Rattle.std.proofs.lemmas.Result.{IfOk-weaker}
use Rattle.program.specs.Views.{program_of}
use Rattle.source_states.specs.Actions.{action_of}
use Rattle.source_states.specs.States.{state_of}
use Rattle.source_states.specs.declared.action.Action.{Action as ActionOf}
use Rattle.source_reaching.specs.Among.{LeadsToEnds}
use Rattle.source_reaching.specs.Ends.{ends_in}
use Rattle.source_reaching.specs.Followed.{IsReached}
use Rattle.source_reaching.specs.declared.follow.Followed.TheVariants.{Choices}
use Rattle.source_reaching.specs.declared.reaching.End.{End}
use Rattle.source_reaching.proofs.Arriving.{ends_chosen, ends_last}
use Rattle.source_reaching.proofs.Listed.{longer_one}
use Rattle.source_reaching.proofs.reaching.add_reached.Goals as goal

pub returns-in_default : goal.returns-in_default
returns-in_default c =
    let p = program_of c.args.checked.now.tree in
    let r = state_of c.args.reached.state in
    let old = ends_in c.args.ends.now.items in
    let new = ends_in c.push.new.self.items in
    record {
      longer = longer_one old new r (ap ends_in c.in_ok-push.ensures.items
          ∙ map_push (λ (e : End). state_of e.state) c.args.ends.now.items _);
      leads = λ e s a is. ends_last p c.args.process s r a old new (ap ends_in c.in_ok-push.ensures.items
          ∙ map_push (λ (e : End). state_of e.state) c.args.ends.now.items _)
          (c.is_lost.ensures.reaches c.if-is_lost.false p c.args.process s a r is);
    }

pub returns-clause-leads : goal.returns-clause-leads
returns-clause-leads c =
    let p = program_of c.args.checked.now.tree in
    let t = c.args.process in
    let r = state_of c.args.reached.state in
    let ends = ends_in c.add_choices.new.ends.items in
    IfOk-weaker c.add_choices.result _ _ (λ b leads e s a is.
    let reached : IsReached p t s a r (Choices c.in-Choices.actions) =
    subst (IsReached p t s a r) c.in-Choices.is is in
    ends_chosen p t s r a (map action_of c.in-Choices.actions.items) ends reached.0 reached.1
    (subst (λ (l : List ActionOf). All (LeadsToEnds p t r ends) (map action_of l)) c.as_slice-listed.ensures.value
    (leads e))) c.add_choices.ensures.leads
