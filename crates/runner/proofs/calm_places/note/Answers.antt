-- Each place that is noted leads to noted ones alone, the new one too.
use Rattle.std.proofs.Common.{◌-◌, arith}
use Rattle.runner.proofs.CalmNotes.{closed_read}
use Rattle.runner.proofs.calm_places.note.Goals as goal

pub loop-at-preserved-then-leads_calmly : goal.loop-at-preserved-then-leads_calmly
loop-at-preserved-then-leads_calmly c =
    let v = c.loop-at.invariant in
    let at = c.loop-at.at - 1 in
    record {
      len = v.len;
      closed = closed_read c.args.code.now c.loop-at.places.items c.as_slice.result.now at _ c.leads_calmly.result v.closed
          c.as_slice.ensures.value (omega (arith, v.within, c.loop-at-test.true)) c.leads_calmly.ensures
          c.if-leads_calmly.true;
      within = omega (arith, v.within);
    }
