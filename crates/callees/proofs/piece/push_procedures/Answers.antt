use Rattle.std.proofs.Common.{map, ap, ◌∙◌}
use Rattle.syntax.specs.Tree.{MonitorProcedureTree}
use Rattle.syntax.specs.View.{procedure_of, monitor_procedure_of}
use Rattle.types.specs.Pieces as p
use Rattle.callees.specs.Pieces.{piece_of}
use Rattle.callees.proofs.Growing.{pushed, each_pushed}
use Rattle.callees.proofs.piece.push_procedures.Goals as goal

pub loop-procedure-preserved : goal.loop-procedure-preserved
loop-procedure-preserved c =
    let procedure = c.procedure-item.result in
    pushed piece_of (λ (q : MonitorProcedureTree). p.piece_of (p.role_of q.access c.args.number) q.procedure)
    monitor_procedure_of c.args.procedures.now c.loop-procedure.procedure-index procedure
    c.loop-procedure.pieces.items c.push.new.self.items c.procedure_piece.result
    (map piece_of c.args.pieces.now.items) c.loop-procedure-test.true c.procedure-item.is c.in_ok-push.ensures.items
    (c.procedure_piece.ensures ∙ ap (λ r. p.piece_of r (procedure_of procedure.procedure)) c.role_of-role.ensures)
    c.loop-procedure.invariant

pub returns : goal.returns
returns c =
    each_pushed piece_of (λ (q : MonitorProcedureTree). p.piece_of (p.role_of q.access c.args.number) q.procedure)
    monitor_procedure_of c.args.procedures.now c.loop-procedure.procedure-index c.loop-procedure.pieces.items
    (map piece_of c.args.pieces.now.items) c.loop-procedure-test.false c.loop-procedure.invariant
