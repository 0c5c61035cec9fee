use Rattle.std.proofs.Common.{ap, sym, ◌∙◌, option_map}
use Rattle.log_simulation.specs.Shown.{shown}
use Rattle.log_simulation.specs.Going.{followed}
use Rattle.meaning.specs.Offers.{offer}
use Rattle.source_offers.specs.NextAction.{offer_of}
use Rattle.source_states.specs.States.{state_of}
use Rattle.log_simulation.proofs.CatchingUp.{visible_here}
use Rattle.log_simulation.proofs.follower.Follower.next_visible.Goals as goal

pub returns : goal.returns
returns c = λ label layout can visible who.
    let p = followed c.args.self.now in
    let a = state_of c.args.self.now.state in
    c.visible_action.ensures ∙ visible_here p a c.args.t c.in-Some.offer c.in-Some.field-0-1 label can
    (ap (option_map (λ n. offer_of p n.0 n.1)) (sym c.in-Some.is) ∙ c.in_ok-offer.ensures
    ∙ ap (λ n. option_map (offer p a.variable) (a.process n)) c.from.ensures)
    (shown c.args.machine.now) c.in_ok-resumed.resumed.items visible who
    (λ d e. c.in_ok-resumed.ensures.some layout d e)
