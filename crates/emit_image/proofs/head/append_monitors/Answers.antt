use Rattle.emit_image.proofs.Growing.{monitors_end}
use Rattle.emit_image.proofs.head.append_monitors.Goals as goal

pub returns : goal.returns
returns c =
    let l = c.loop-members in
    monitors_end l.members-index l.address c.args.first c.args.monitors.now _ _ _ c.loop-members-test.false l.invariant.written
    c.in_ok-write-2.ensures.bytes
