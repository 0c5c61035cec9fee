use Rattle.std.proofs.Common.{map}
use Rattle.syntax.specs.View.{member_of}
use Rattle.unit_faults.proofs.Collecting.{collects_same}
use Rattle.unit_faults.proofs.Along.{along_end}
use Rattle.unit_faults.proofs.Relations.{SizeAt, sizes_to, sizes_from}
use Rattle.unit_faults.proofs.Steps.{size_step}
use Rattle.unit_faults.proofs.limits.sizes.Goals as goal

pub loop-member-preserved : goal.loop-member-preserved
loop-member-preserved c = size_step c.args.members.now c.loop-member.member-index _ c.args.least c.loop-member.least
    c.size-least.result c.loop-member-test.true c.loop-member.invariant c.size-least.ensures

pub returns : goal.returns
returns c =
    collects_same _ _ c.args.least c.loop-member.least (sizes_to (map member_of c.args.members.now))
    (sizes_from (map member_of c.args.members.now))
    (along_end member_of SizeAt c.args.members.now c.loop-member.member-index c.args.least c.loop-member.least
    c.loop-member-test.false c.loop-member.invariant)
