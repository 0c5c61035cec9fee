use Rattle.std.proofs.Common.{◌≡◌, None, Some}
use Rattle.std.specs.Prelude.{option_map}
use Rattle.program.specs.Views.{program_of}
use Rattle.meaning.specs.Offers.{offer}
use Rattle.source_offers.specs.NextAction.{offer_of}
use Rattle.source_states.specs.States.{state_of}
use Rattle.source_search.proofs.Kills.{none_notified, offer_notified}
use Rattle.source_search.proofs.killing.condition_of.Goals as goal

pub returns-in-None : goal.returns-in-None
returns-in-None c =
    let p = program_of c.args.checked.now.tree in
    let s = state_of c.args.state.now in
    let none : None ≡ option_map (offer p s.variable) (s.process c.args.process) =
    rw c.in-None.is at c.in_ok-offered.ensures in
    none_notified p s c.args.process none

pub returns : goal.returns
returns c =
    let p = program_of c.args.checked.now.tree in
    let s = state_of c.args.state.now in
    let is : Some (offer_of p c.in-Some.offer c.in-Some.field-0-1) ≡ option_map (offer p s.variable) (s.process c.args.process) =
    rw c.in-Some.is at c.in_ok-offered.ensures in
    offer_notified p s c.args.process (offer_of p c.in-Some.offer c.in-Some.field-0-1) c.notified.result is
    (λ d notifies. c.notified.ensures p c.in-Some.field-0-1 d notifies)
