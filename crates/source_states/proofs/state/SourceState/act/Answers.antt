use Rattle.std.proofs.Common.{Some, ap, sym, subst}
use Rattle.std.proofs.lemmas.Result.{IfOk-weaker}
use Rattle.std.specs.Prelude.{is_some, option_map}
use Rattle.program.specs.Views.{program_of}
use Rattle.source_offers.specs.NextAction.{offer_of}
use Rattle.source_offers.specs.Offered.{offer_with}
use Rattle.source_offers.specs.Stages.{process_of}
use Rattle.source_table.proofs.Tables.{put_in}
use Rattle.source_states.specs.Actions.{action_of, kind_of}
use Rattle.source_states.specs.States.{processes_in, state_of}
use Rattle.source_states.specs.Taken.{IsAnswer, IsTakenUp}
use Rattle.source_states.proofs.Places.{there}
use Rattle.source_states.proofs.Steps.{answered}
use Rattle.source_states.proofs.state.SourceState.act.Goals as goal

pub returns-in-Own-Does : goal.returns-in-Own-Does
returns-in-Own-Does c =
    let q = c.next_offer.new.process in
    let after = c.get_mut.follows.lender q in
    let at = c.get_mut.follows.holds q (ap is_some (sym c.in-Some.ensures.value)) in
    IfOk-weaker c.act_alone.result _ _ (λ b h.
    answered (program_of c.args.program.now) (state_of c.args.self.now)
    (action_of c.args.action.now) (process_of c.in-Some.process.now) (Some (process_of q))
    (offer_of (program_of c.args.program.now) c.in_ok-offer.offer q) b (state_of c.act_alone.new.self)
    (processes_in after) (ap (option_map process_of) (sym c.in-Some.ensures.value))
    c.in_ok-offer.ensures
    (put_in (option_map process_of) c.args.self.now.processes after c.args.action.now.process (Some q) at)
    (subst (λ o. IsAnswer b (IsTakenUp c.args.action.now.process (kind_of c.args.action.now.kind)
    (offer_of (program_of c.args.program.now) o q) (record (state_of c.args.self.now) { process = processes_in after }))
    (state_of c.act_alone.new.self)) (sym c.in-Own-Does.is)
    (subst (λ o. IsAnswer b (IsTakenUp c.args.action.now.process (kind_of c.args.action.now.kind)
    (offer_with o q) (record (state_of c.args.self.now) { process = processes_in after }))
    (state_of c.act_alone.new.self)) (sym (rw c.in-Own-Does.is at c.in-Own-Does.field-0-is))
    (h (process_of q) (ap (option_map process_of) (there c.args.self.now.processes after c.args.action.now.process (Some q) at)))))) c.act_alone.ensures

pub returns : goal.returns
returns c =
    let q = c.next_offer.new.process in
    let after = c.get_mut.follows.lender q in
    let at = c.get_mut.follows.holds q (ap is_some (sym c.in-Some.ensures.value)) in
    IfOk-weaker c.take_up_outside.result _ _ (λ b h.
    answered (program_of c.args.program.now) (state_of c.args.self.now)
    (action_of c.args.action.now) (process_of c.in-Some.process.now) (Some (process_of q))
    (offer_of (program_of c.args.program.now) c.in_ok-offer.offer q) b _
    (processes_in after) (ap (option_map process_of) (sym c.in-Some.ensures.value))
    c.in_ok-offer.ensures
    (put_in (option_map process_of) c.args.self.now.processes after c.args.action.now.process (Some q) at)
    (h q (there c.args.self.now.processes after c.args.action.now.process (Some q) at))) c.take_up_outside.ensures
