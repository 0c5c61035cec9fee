use Rattle.std.proofs.Common.{map, arith}
use Rattle.syntax.specs.View.{name_of}
use Rattle.unit_faults.proofs.Collecting.{collects_same}
use Rattle.unit_faults.proofs.Along.{along_end}
use Rattle.unit_faults.proofs.Relations.{PastAt, past_none, past_to, past_from}
use Rattle.unit_faults.proofs.Steps.{past_step}
use Rattle.unit_faults.proofs.limits.past.Goals as goal

pub loop-i-init : goal.loop-i-init
loop-i-init c = past_none c.args.most (map name_of c.args.names.now) c.args.least

pub loop-i-preserved : goal.loop-i-preserved
loop-i-preserved c = past_step c.args.most c.args.names.now c.loop-i.i _ _ c.loop-i.least c.note_where-least.result
    (omega arith) (omega arith) c.loop-i.invariant c.note_where-least.ensures

pub returns : goal.returns
returns c =
    collects_same _ _ c.args.least c.loop-i.least (past_to c.args.most (map name_of c.args.names.now))
    (past_from c.args.most (map name_of c.args.names.now))
    (along_end name_of (PastAt c.args.most) c.args.names.now c.loop-i.i c.args.least c.loop-i.least (omega arith)
    c.loop-i.invariant)
