-- It begins anew where it has come.
use Rattle.std.proofs.Common.{arith, sym}
use Rattle.runner.proofs.Speculating.{begun}
use Rattle.runner.proofs.speculation.Speculation.settle.Goals as goal

pub invariant_of-self : goal.invariant_of-self
invariant_of-self g c =
    let r = begun g.J.RunName.program c.self.inside.thread c.copy_from.new.self c.self.inside.here
    c.clear.new.self.items c.clear.ensures.items (sym c.copy_from.ensures) in
    (r.0, r.1, omega (arith, c.self.invariant.2, c.clear.ensures.capacity))
