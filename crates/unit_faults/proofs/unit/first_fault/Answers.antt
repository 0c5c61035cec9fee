use Rattle.std.proofs.Common.{◌∙◌}
use Rattle.syntax.specs.Whole.{unit_of}
use Rattle.unit_faults.proofs.unit.first_fault.Goals as goal

pub least_fault-requires-clause-calls : goal.least_fault-requires-clause-calls
least_fault-requires-clause-calls c = c.deref.ensures.value
    ∙ c.in_ok-calls.ensures (unit_of c.args.unit.now) c.requires.callees
