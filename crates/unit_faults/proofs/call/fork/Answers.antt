use Rattle.syntax.specs.View.{callee_of, name_of}
use Rattle.types.specs.CallFaults.{recover_faults, fork_faults}
use Rattle.types.specs.StatementFaults.{called_piece}
use Rattle.types.proofs.Gathered.{gathers_both}
use Rattle.unit_faults.proofs.call.fork.Goals as goal

pub returns : goal.returns
returns c = λ s h.
    let e = callee_of c.args.callee.now in
    gathers_both (recover_faults s c.args.place) (fork_faults s e (name_of c.args.name) (called_piece s e)) c.args.least
    c.recover-first.result c.begun.result (c.recover-first.ensures s h.role) (c.begun.ensures s h)
