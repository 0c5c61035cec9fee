-- What always holds is kept, and the bits are right.
use Rattle.std.proofs.Common.{◌≡◌, true, ap, ◌∙◌}
use Rattle.machine.specs.States.{ConcreteState}
use Rattle.machine.specs.ConcreteSteps.{can_move}
use Rattle.machine.specs.Views.{View, concrete, common, parts_of}
use Rattle.machine.proofs.Ables.{keeps_put, mover_made, shows_put}
use Rattle.machine.proofs.machine.Machine.put_local.Goals as goal

pub invariant_of-self : goal.invariant_of-self
invariant_of-self c =
    let k : ConcreteState = parts_of c.self.inside.common c.self.inside.threads.items in
    let moves : can_move k c.args.t ≡ true =
    ap (λ (q : View). can_move (concrete q) c.args.t) c.self.view_is ∙ c.requires in
    let made = mover_made c.self.inside.image k c.args.t c.self.invariant.0 moves in (
      keeps_put c.self.inside.image k c.args.t c.args.local c.self.invariant.0,
      c.self.invariant.1,
      shows_put (common c.self.inside.common) k.threads c.deref.result.now c.args.t c.args.local
          c.self.inside.able.words c.refresh.new.self.words made.0 c.deref.ensures.value c.self.invariant.2
          c.refresh.ensures.kept c.refresh.ensures.right,
    )
