-- It begins anew where the piece began.
use Rattle.std.proofs.Common.{◌∙◌, arith, sym}
use Rattle.runner.proofs.Speculating.{begun}
use Rattle.runner.proofs.speculation.Speculation.begin.Goals as goal

pub invariant_of-self : goal.invariant_of-self
invariant_of-self g c =
    let r = begun g.J.RunName.program c.piece.inside.thread c.copy_from.new.self c.copy_from-2.new.self
    c.clear.new.self.items c.clear.ensures.items (c.copy_from-2.ensures ∙ sym c.copy_from.ensures) in
    (r.0, r.1, omega (arith, c.self.invariant.2, c.clear.ensures.capacity))
