use Rattle.callgraph.proofs.Marking.{marks_none, marks_more}
use Rattle.callgraph.proofs.reach.mark_all.Goals as goal

pub loop-procedure-init : goal.loop-procedure-init
loop-procedure-init c = marks_none _ _

pub loop-procedure-preserved : goal.loop-procedure-preserved
loop-procedure-preserved c =
    marks_more c.args.procedures.now c.args.marks.now c.args.pending.now.items c.loop-procedure.procedure-index 0
    c.loop-procedure.marks c.loop-procedure.pending.items c.mark.new.marks c.mark.new.pending.items
    c.loop-procedure-test.true c.loop-procedure.invariant c.mark.auto.marks c.in_ok-mark.ensures.marked
    c.mark.ensures.kept c.mark.ensures.only c.in_ok-mark.ensures.added c.in_ok-mark.ensures.queued
    c.mark.ensures.waiting
    c.in_ok-mark.ensures.counted
