use Rattle.std.proofs.Common.{arith}
use Rattle.isa.proofs.FieldLaws.{monitors_bound, code_bound, code_limit}
use Rattle.isa.proofs.TargetLaws.{passed}
use Rattle.isa.proofs.reading.image.Goals as goal

pub new-requires : goal.new-requires
new-requires c =
    let few = monitors_bound c.in_ok-version.rest.now (c.in_ok-monitors.monitors.items, c.in_ok-monitors.rest.now)
    c.in_ok-monitors.ensures in
    record {
      few_monitors = few.0;
      few_members = few.1;
      short = code_bound c.in_ok-start.rest.now (c.in_ok-code.code.items, c.in_ok-code.rest.now) c.in_ok-code.ensures;
      starts = omega arith;
      instructions = code_limit c.in_ok-start.rest.now (c.in_ok-code.code.items, c.in_ok-code.rest.now)
          c.in_ok-code.ensures;
      targets = passed c.lead_below.result c.len-else-start-len.result _ c.as_slice.result.now
          c.in_ok-code.code.items c.if-not-lead_below.false c.lead_below.ensures c.len-else-start-len.ensures
          c.as_slice.ensures.value c.as_slice.ensures.len;
    }
