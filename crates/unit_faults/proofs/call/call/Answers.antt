use Rattle.syntax.specs.View.{callee_of, option_name}
use Rattle.types.specs.CallFaults.{recover_faults, call_faults}
use Rattle.types.specs.StatementFaults.{called_piece}
use Rattle.types.proofs.Gathered.{gathers_both}
use Rattle.unit_faults.proofs.call.call.Goals as goal

pub returns : goal.returns
returns c = λ s h.
    let e = callee_of c.args.callee.now in
    gathers_both (recover_faults s c.args.place)
    (call_faults s e (option_name c.args.name) (called_piece s e)) c.args.least
    c.recover-first.result c.called.result (c.recover-first.ensures s h.role) (c.called.ensures s h)
