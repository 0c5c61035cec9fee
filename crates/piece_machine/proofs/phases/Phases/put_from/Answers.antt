-- The count goes with the phase that changes, and is no more than the phases are.
use Rattle.std.proofs.Common.{arith}
use Rattle.piece_machine.proofs.Counts.{within_most, count_few}
use Rattle.piece_machine.proofs.phases.Phases.put_from.Goals as goal

pub overflow_add-self : goal.overflow_add-self
overflow_add-self c =
    let phases = c.self.inside.of_threads in
    omega (arith, c.self.invariant, count_few phases.items, phases.ok.0, c.counted.ensures, within_most c.args.phase)
