use Rattle.std.proofs.Common.{◌≡◌, ℕ, Option, Some, None, ap, sym, ◌∙◌}
use Rattle.machine.specs.PieceStates.{committed}
use Rattle.machine.specs.States.{state_of as machine_state}
use Rattle.machine.specs.Views.{View, address_of, concrete}
use Rattle.piece_machine.specs.PieceViews.{pieces}
use Rattle.proof_pieces.specs.Whole.{either}
use Rattle.log_simulation.proofs.follower.sleeps_at.Goals as goal

either_some : (a : ℕ) (o e : Option ℕ) → Some a ≡ o → Some a ≡ either o e
either_some a None e is = absurd cc
either_some a (Some b) e is = is

pub returns-in-Some : goal.returns-in-Some
returns-in-Some c =
    let v = c.args.machine.now in
    let t = c.args.t in
    either_some c.in-Some.word.0 ((machine_state (concrete v.view)).asleep t) (committed v.view.program (pieces v) t)
    (ap address_of (sym c.in-Some.is) ∙ c.asleep.ensures
    ∙ ap (λ (w : View). (machine_state (concrete w)).asleep t) c.machine.ensures.shows)

pub returns-in-None : goal.returns-in-None
returns-in-None c =
    let v = c.args.machine.now in
    let t = c.args.t in
    c.committed.ensures ∙ ap (λ o. either o (committed v.view.program (pieces v) t))
    (ap address_of (sym c.in-None.is) ∙ c.asleep.ensures
    ∙ ap (λ (w : View). (machine_state (concrete w)).asleep t) c.machine.ensures.shows)
