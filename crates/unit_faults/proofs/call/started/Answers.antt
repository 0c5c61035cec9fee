use Rattle.std.proofs.Common.{Some}
use Rattle.program.specs.declared.kinds.ValueType.TheVariants.{Process}
use Rattle.syntax.specs.View.{callee_of, name_of}
use Rattle.types.specs.StatementFaults.{arguments_faults, matched_faults, taker_faults}
use Rattle.callees.specs.Pieces.{piece_of}
use Rattle.unit_faults.specs.Calls.{fork_name_faults}
use Rattle.unit_faults.proofs.Gathering.{gathers_call}
use Rattle.unit_faults.proofs.call.started.Goals as goal

pub returns : goal.returns
returns c = λ s h.
    let e = callee_of c.args.callee.now in
    let n = name_of c.args.name in
    let q = piece_of c.args.piece.now in
    gathers_call (fork_name_faults e q) (arguments_faults s e.arguments) (matched_faults s e.arguments q.parameters)
    (taker_faults s (Some Process) n) c.args.least c.forked-first.result c.passed-second.result c.taker.result
    c.forked-first.ensures (c.passed-second.ensures s h) (c.taker.ensures s h.standing)
