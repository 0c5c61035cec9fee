use Rattle.std.proofs.Common.{sym, subst}
use Rattle.types.specs.Faults.{Gathers}
use Rattle.body_faults.proofs.operands.operand.Goals as goal

pub returns : goal.returns
returns c = subst (λ xs. Gathers xs c.args.least c.note.result) (sym (c.operand_fault.ensures c.args.place))
    c.note.ensures
