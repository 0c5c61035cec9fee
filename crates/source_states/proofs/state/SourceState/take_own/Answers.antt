use Rattle.std.proofs.Common.{◌≡◌, Some, ap, subst, sym, ◌∙◌}
use Rattle.std.proofs.lemmas.Result.{IfOk-weaker}
use Rattle.std.specs.Prelude.{is_some, option_map}
use Rattle.program.specs.Views.{program_of}
use Rattle.meaning.specs.Labels.{Broadcasts, Notifies}
use Rattle.meaning.specs.Offers.{NotifiesAll, NotifiesSome, offer}
use Rattle.meaning.specs.Table.{Allows}
use Rattle.source_offers.specs.Foreseen.{IsForeseen}
use Rattle.source_offers.specs.NextAction.{offer_of}
use Rattle.source_offers.specs.Offered.{effect_of, label_of}
use Rattle.source_offers.specs.Stages.{process_of}
use Rattle.source_offers.specs.declared.next_action.Offer.TheVariants.{Own}
use Rattle.source_offers.specs.declared.offers.Offered.TheVariants as Code
use Rattle.source_table.specs.Tables.{table_of}
use Rattle.source_table.proofs.Tables.{put_in}
use Rattle.source_states.specs.Own.{AreToResume, IsOwnTaken}
use Rattle.source_states.specs.States.{processes_in, state_of}
use Rattle.source_states.proofs.Places.{there}
use Rattle.source_states.proofs.Acts.{took}
use Rattle.source_states.proofs.Notices.{broadcast, foreseen_all, foreseen_some, may_broadcast, may_notify, notified}
use Rattle.source_states.proofs.Notices.{was_done}
use Rattle.source_states.proofs.state.SourceState.take_own.Goals as goal

pub returns-in-Own-Does : goal.returns-in-Own-Does
returns-in-Own-Does c =
    let p = program_of c.args.program.now in
    let s = state_of c.args.self.now in
    let q = c.next_offer.new.process in
    let after = c.get_mut.follows.lender q in
    let at = c.get_mut.follows.holds q (ap is_some (sym c.in-Some.ensures.value)) in
    let is : c.in_ok-label.field-0 ≡ Own (Code.Does c.in-Own-Does.label c.in-Own-Does.effect) = cc in
    IfOk-weaker c.perform_named.result _ _ (λ o h.
    subst (λ k. IsOwnTaken p c.args.number k s (state_of c.perform_named.new.self)) (sym h.0)
    (took p s (state_of c.perform_named.new.self) c.args.number (process_of c.in-Some.process.now) (process_of q)
    (label_of c.in-Own-Does.label) (effect_of c.in-Own-Does.effect) (processes_in after)
    (ap (option_map process_of) (sym c.in-Some.ensures.value))
    (sym (ap (λ o. offer_of p o q) is) ∙ c.in_ok-label.ensures)
    (put_in (option_map process_of) c.args.self.now.processes after c.args.number (Some q) at)
    (h.1 (process_of q) (ap (option_map process_of) (there c.args.self.now.processes after c.args.number (Some q) at))))) c.perform_named.ensures

pub returns-in-Own-NotifiesSome : goal.returns-in-Own-NotifiesSome
returns-in-Own-NotifiesSome c =
    let p = program_of c.args.program.now in
    let s = state_of c.args.self.now in
    let n = c.args.number in
    let before = process_of c.in-Some.process.now in
    let q = c.next_offer.new.process in
    let after = c.get_mut.follows.lender q in
    let at = c.get_mut.follows.holds q (ap is_some (sym c.in-Some.ensures.value)) in
    let condition = c.in-Own-NotifiesSome.condition in
    let resumed = c.in-Some-2.resumed.items in
    let t = table_of c.notify-done.new.self in
    let is : c.in_ok-label.field-0 ≡ Own (Code.NotifiesSome condition) = cc in
    let offers : NotifiesSome condition (process_of q) ≡ offer p s.variable before =
    sym (ap (λ o. offer_of p o q) is) ∙ c.in_ok-label.ensures in
    let are : AreToResume c.foresee.result s.table resumed = rw c.in-Some-2.is at c.in_ok-resumed.ensures in
    let some = foreseen_some s.table resumed c.foresee.result condition (process_of q)
    (subst (IsForeseen c.foresee.result) (sym offers) (c.foresee.ensures p s.variable)) are in
    let allows : Allows n (Notifies condition resumed) s.table t =
    was_done c.notify-done.result (Allows n (Notifies condition resumed) s.table) s.table t _
    (may_notify n condition s.table resumed some.1.0 some.1.1)
    (rw c.as_slice.ensures.value at (c.notify-done.ensures n)) in
    notified p s n before (process_of q) condition resumed (ap (option_map process_of) (sym c.in-Some.ensures.value))
    some.1.0 some.1.1 (processes_in after) t
    (put_in (option_map process_of) c.args.self.now.processes after n (Some q) at) offers some.0 allows

pub returns-in-Own-NotifiesAll : goal.returns-in-Own-NotifiesAll
returns-in-Own-NotifiesAll c =
    let p = program_of c.args.program.now in
    let s = state_of c.args.self.now in
    let n = c.args.number in
    let before = process_of c.in-Some.process.now in
    let q = c.next_offer.new.process in
    let after = c.get_mut.follows.lender q in
    let at = c.get_mut.follows.holds q (ap is_some (sym c.in-Some.ensures.value)) in
    let condition = c.in-Own-NotifiesAll.condition in
    let resumed = c.in-Some-2.resumed.items in
    let t = table_of c.broadcast-done.new.self in
    let is : c.in_ok-label.field-0 ≡ Own (Code.NotifiesAll condition) = cc in
    let offers : NotifiesAll condition (process_of q) ≡ offer p s.variable before =
    sym (ap (λ o. offer_of p o q) is) ∙ c.in_ok-label.ensures in
    let are : AreToResume c.foresee.result s.table resumed = rw c.in-Some-2.is at c.in_ok-resumed.ensures in
    let all = foreseen_all s.table resumed c.foresee.result condition (process_of q)
    (subst (IsForeseen c.foresee.result) (sym offers) (c.foresee.ensures p s.variable)) are in
    let allows : Allows n (Broadcasts condition resumed) s.table t =
    was_done c.broadcast-done.result (Allows n (Broadcasts condition resumed) s.table) s.table t _
    (may_broadcast n condition s.table resumed all.0 all.1)
    (rw c.as_slice-in-Own-NotifiesAll.ensures.value at (c.broadcast-done.ensures n)) in
    broadcast p s n before (process_of q) condition resumed (ap (option_map process_of) (sym c.in-Some.ensures.value))
    all.0 all.1 (processes_in after) t
    (put_in (option_map process_of) c.args.self.now.processes after n (Some q) at) offers allows
