use Rattle.std.proofs.Common.{All, arith, subst, sym}
use Rattle.source_states.specs.States.{state_of}
use Rattle.source_search.specs.Kept.{states_of}
use Rattle.source_search.specs.Living.{IsHeldIn}
use Rattle.source_search.proofs.holding.held_of.Goals as goal

pub loop-number-init : goal.loop-number-init
loop-number-init c = λ p.
    subst (All (IsHeldIn p (states_of c.args.kept.now) (state_of c.args.state.now))) (sym c.new-held.ensures.items)
    (λ k d l. absurd (omega (arith, l)))

pub loop-number-preserved : goal.loop-number-preserved
loop-number-preserved c = c.in_ok-add_held.ensures c.loop-number.invariant
