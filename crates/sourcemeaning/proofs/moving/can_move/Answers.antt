use Rattle.std.proofs.Common.{subst, sym}
use Rattle.program.specs.Views.{program_of}
use Rattle.meaning.specs.Offers.{offer}
use Rattle.source_offers.specs.Stages.{process_of}
use Rattle.source_states.specs.States.{state_of}
use Rattle.sourcemeaning.proofs.Moves.{decided, moves}
use Rattle.sourcemeaning.proofs.Ready.{IsReady}
use Rattle.sourcemeaning.proofs.moving.can_move.Goals as goal

pub returns-in-Some : goal.returns-in-Some
returns-in-Some c =
    decided c.is_ready.result _ _
    (moves (program_of c.args.checked.now.tree) (state_of c.args.state.now) c.args.number
    (process_of c.in-Some.process.now) (sym c.in-Some.ensures))
    (subst (λ t. IsReady c.is_ready.result c.args.number (state_of c.args.state.now).table
    (offer (program_of t) (state_of c.args.state.now).variable (process_of c.in-Some.process.now)))
    c.program.ensures.is c.is_ready.ensures)
