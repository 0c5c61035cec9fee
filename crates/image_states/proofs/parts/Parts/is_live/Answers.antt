use Rattle.std.proofs.Common.{suc}
use Rattle.image_states.specs.Packed.{unpacked}
use Rattle.image_states.proofs.Found.{live_absent, live_so}
use Rattle.image_states.proofs.parts.Parts.is_live.Goals as goal

pub returns-in-None : goal.returns-in-None
returns-in-None c = λ p. live_absent (unpacked p c.args.self.now c.args.packed.now) (suc c.args.k)
    (rw c.in-None.is at c.thread.ensures.none)

pub returns-in-Some : goal.returns-in-Some
returns-in-Some c = λ p. live_so (unpacked p c.args.self.now c.args.packed.now) (suc c.args.k) c.in-Some.local.now
    c.has_ended.result (rw c.in-Some.is at c.thread.ensures.some) c.has_ended.ensures
