use Rattle.std.proofs.Common.{◌≡◌, ◌∙◌, Some, ap, map}
use Rattle.std.proofs.lemmas.Option.{IfSome_then}
use Rattle.std.proofs.lemmas.Result.{IfOk-weaker}
use Rattle.std.specs.Prelude.{option_map}
use Rattle.program.specs.Views.{program_of}
use Rattle.meaning.specs.Offers.{offer}
use Rattle.source_offers.specs.NextAction.{offer_of}
use Rattle.source_offers.specs.Stages.{process_of}
use Rattle.source_states.specs.Actions.{action_of}
use Rattle.source_states.specs.States.{state_of}
use Rattle.source_reaching.proofs.Tried.{are_choices}
use Rattle.source_reaching.proofs.own.own_actions.Goals as goal

pub returns-in-Some-standing_offer : goal.returns-in-Some-standing_offer
returns-in-Some-standing_offer c =
    let p = program_of c.args.checked.now.tree in
    let s = state_of c.args.state.now in
    let found : Some (process_of c.in-Some.found.now) ≡ s.process c.args.process = rw c.in-Some.is at c.process.ensures in
    let is : Some (offer_of p c.in-Some-standing_offer.offer c.in-Some.found.now) ≡ option_map (offer p s.variable) (s.process c.args.process) =
    ap Some ((rw c.in-Some-standing_offer.is at c.standing_offer.ensures) p s.variable) ∙ ap (option_map (offer p s.variable)) found in
    IfOk-weaker c.choices_of.result _ _ (λ o h. IfSome_then o h (λ v all.
    are_choices p s c.args.process (offer_of p c.in-Some-standing_offer.offer c.in-Some.found.now) (map action_of v.items) is
    (all p c.in-Some.found.now))) c.choices_of.ensures

pub returns : goal.returns
returns c =
    let p = program_of c.args.checked.now.tree in
    let s = state_of c.args.state.now in
    let is : Some (offer_of p c.in-Some-2.offer c.in-Some-2.field-0-1) ≡ option_map (offer p s.variable) (s.process c.args.process) =
    rw c.in-Some-2.is at c.in_ok-offer.ensures in
    IfOk-weaker c.choices_of-2.result _ _ (λ o h. IfSome_then o h (λ v all.
    are_choices p s c.args.process (offer_of p c.in-Some-2.offer c.in-Some-2.field-0-1) (map action_of v.items) is
    (all p c.in-Some-2.field-0-1))) c.choices_of-2.ensures
