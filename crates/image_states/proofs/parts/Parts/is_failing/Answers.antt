use Rattle.std.proofs.Common.{suc}
use Rattle.image_states.specs.Packed.{unpacked}
use Rattle.image_states.proofs.Found.{failing_absent, failing_so}
use Rattle.image_states.proofs.parts.Parts.is_failing.Goals as goal

pub returns-in-None : goal.returns-in-None
returns-in-None c = failing_absent (unpacked c.args.image.now c.args.self.now c.args.packed.now) (suc c.args.k)
    (rw c.in-None.is at c.thread.ensures.none)

pub returns-in-Some : goal.returns-in-Some
returns-in-Some c = failing_so (unpacked c.args.image.now c.args.self.now c.args.packed.now) (suc c.args.k)
    c.in-Some.local.now c.is_failing.result (rw c.in-Some.is at c.thread.ensures.some) c.is_failing.ensures
