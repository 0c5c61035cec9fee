use Rattle.std.proofs.Common.{All, subst, sym}
use Rattle.std.proofs.lemmas.List.Elements.{All-push}
use Rattle.source_states.specs.States.{state_of}
use Rattle.source_search.specs.Kept.{states_of}
use Rattle.source_search.specs.Living.{IsHeldIn}
use Rattle.source_search.proofs.holding.add_held.Goals as goal

pub returns : goal.returns
returns c = λ all p.
    let P = IsHeldIn p (states_of c.args.kept.now) (state_of c.args.state.now) in
    subst (All P) (sym c.in_ok-push.ensures.items)
    (All-push P c.args.held.now.items c.args.number (all p) (c.is_held_in.ensures c.if-not-is_held_in.false p))
