use Rattle.std.proofs.Common.{◌≡◌, true, Some, ap, sym, ◌∙◌, subst, rules}
use Rattle.std.proofs.lemmas.Result.{IfOk-weaker}
use Rattle.std.specs.Prelude.{is_some, option_map}
use Rattle.words.specs.Updates.{put}
use Rattle.program.specs.Views.{program_of}
use Rattle.meaning.specs.Offers.{offer}
use Rattle.source_offers.specs.NextAction.{offer_of}
use Rattle.source_offers.specs.Offered.{effect_of, label_of}
use Rattle.source_offers.specs.Stages.{process_of}
use Rattle.source_offers.specs.declared.next_action.Offer.TheVariants.{Own}
use Rattle.source_offers.specs.declared.offers.Offered.TheVariants.{Claims, Does, Makes}
use Rattle.source_table.proofs.Tables.{put_in}
use Rattle.source_states.specs.Internal.{IsInternalTaken, internal_kind}
use Rattle.source_states.specs.States.{processes_in, state_of}
use Rattle.source_states.proofs.Places.{there}
use Rattle.source_states.proofs.Settled.{does, full, claimed}
use Rattle.source_states.proofs.state.SourceState.take_internal.Goals as goal

pub returns-in-Own-Does : goal.returns-in-Own-Does
returns-in-Own-Does c =
    let p = program_of c.args.program.now in
    let s = state_of c.args.self.now in
    let before = process_of c.in-Some.process.now in
    let q = c.next_offer.new.process in
    let after = c.get_mut.follows.lender q in
    let at = c.get_mut.follows.holds q (ap is_some (sym c.in-Some.ensures.value)) in
    let is : c.in_ok-label.field-0 ≡ Own (Does c.in-Own-Does.label c.in-Own-Does.effect) = cc in
    let some : is_some (internal_kind (offer p s.variable before) s.table) ≡ true =
    sym (c.is_internal.ensures (offer p s.variable before) c.look_ahead.ensures) ∙ search rules in
    IfOk-weaker c.perform_named.result _ _ (λ o h.
    subst (λ k. IsInternalTaken p c.args.number k s (state_of c.perform_named.new.self)) (sym h.0)
    (does p s (state_of c.perform_named.new.self) c.args.number before
    (ap (option_map process_of) (sym c.in-Some.ensures.value))
    some (label_of c.in-Own-Does.label) (effect_of c.in-Own-Does.effect) (process_of q) (processes_in after)
    (sym (ap (λ o. offer_of p o q) is) ∙ c.in_ok-label.ensures)
    (put_in (option_map process_of) c.args.self.now.processes after c.args.number (Some q) at)
    (h.1 (process_of q) (ap (option_map process_of) (there c.args.self.now.processes after c.args.number (Some q) at))))) c.perform_named.ensures

pub returns-in-Own-Makes : goal.returns-in-Own-Makes
returns-in-Own-Makes c =
    let p = program_of c.args.program.now in
    let s = state_of c.args.self.now in
    let before = process_of c.in-Some.process.now in
    let q = c.next_offer.new.process in
    let after = c.get_mut.follows.lender c.fail.new.process in
    let at = c.get_mut.follows.holds c.fail.new.process (ap is_some (sym c.in-Some.ensures.value)) in
    let is : c.in_ok-label.field-0 ≡ Own (Makes c.in-Own-Makes.field-0-0 c.in-Own-Makes.field-0-1) = cc in
    let some : is_some (internal_kind (offer p s.variable before) s.table) ≡ true =
    sym (c.is_internal.ensures (offer p s.variable before) c.look_ahead.ensures) ∙ search rules in
    IfOk-weaker c.fail.result _ _ (λ o h.
    subst (λ k. IsInternalTaken p c.args.number k s (record s { process = processes_in after })) (sym h.0)
    (full p s (record s { process = processes_in after }) c.args.number before
    (ap (option_map process_of) (sym c.in-Some.ensures.value)) some _ _ _
    (sym (ap (λ o. offer_of p o q) is) ∙ c.in_ok-label.ensures)
    (ap (λ f. record s { process = f })
    (put_in (option_map process_of) c.args.self.now.processes after c.args.number (Some c.fail.new.process) at
    ∙ ap (λ x. put s.process c.args.number (Some x)) h.1)))) c.fail.ensures

pub returns-in-Own-Claims : goal.returns-in-Own-Claims
returns-in-Own-Claims c =
    let p = program_of c.args.program.now in
    let s = state_of c.args.self.now in
    let before = process_of c.in-Some.process.now in
    let q = c.next_offer.new.process in
    let failed = c.fail-in-Own-Claims.new.process in
    let after = c.get_mut.follows.lender failed in
    let at = c.get_mut.follows.holds failed (ap is_some (sym c.in-Some.ensures.value)) in
    let is : c.in_ok-label.field-0
    ≡ Own (Claims c.in-Own-Claims.field-0-0 c.in-Own-Claims.field-0-1 c.in-Own-Claims.field-0-2) = cc in
    let some : is_some (internal_kind (offer p s.variable before) s.table) ≡ true =
    sym (c.is_internal.ensures (offer p s.variable before) c.look_ahead.ensures) ∙ search rules in
    IfOk-weaker c.fail-in-Own-Claims.result _ _ (λ o h.
    subst (λ k. IsInternalTaken p c.args.number k s (record s { process = processes_in after })) (sym h.0)
    (claimed p s (record s { process = processes_in after }) c.args.number before
    (ap (option_map process_of) (sym c.in-Some.ensures.value)) some _ _ _
    (sym (ap (λ o. offer_of p o q) is) ∙ c.in_ok-label.ensures)
    (ap (λ f. record s { process = f })
    (put_in (option_map process_of) c.args.self.now.processes after c.args.number (Some failed) at
    ∙ ap (λ x. put s.process c.args.number (Some x)) h.1)))) c.fail-in-Own-Claims.ensures
