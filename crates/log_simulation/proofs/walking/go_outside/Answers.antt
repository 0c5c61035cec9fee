-- The entry is taken where it is just the wake of a thread that sleeps, or the kill of one that was made.
use Rattle.std.proofs.Common.{arith}
use Rattle.piece_machine.specs.PieceViews.{parts}
use Rattle.log_simulation.proofs.Entering.{no_event}
use Rattle.log_simulation.proofs.walking.go_outside.Goals as goal

pub returns-in_default-clause-enters : goal.returns-in_default-clause-enters
returns-in_default-clause-enters c = λ k outside.
    no_event c.args.machine.now.view.program (parts c.args.machine.now) k c.args.entry.now c.in_default.is outside

pub returns-then-entry-gt0-clause-enters : goal.returns-then-entry-gt0-clause-enters
returns-then-entry-gt0-clause-enters c = λ k outside.
    let alone = outside.alone in absurd (omega (arith, c.if-entry-gt0.true, alone))
