use Rattle.std.proofs.Common.{sym, subst}
use Rattle.types.specs.CallFaults.{condition_faults}
use Rattle.types.specs.Faults.{Gathers}
use Rattle.body_faults.proofs.names.condition.Goals as goal

pub returns : goal.returns
returns c = λ s h. subst (λ m. Gathers (condition_faults m c.args.name.place) c.args.least c.note.result)
    (c.meaning.ensures s h)
    (subst (λ xs. Gathers xs c.args.least c.note.result) (sym (c.condition_fault.ensures c.args.name.place))
    c.note.ensures)
