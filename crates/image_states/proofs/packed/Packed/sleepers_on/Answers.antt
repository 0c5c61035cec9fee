use Rattle.std.proofs.Common.{◌≡◌, ◌+◌, arith, subst, suc}
use Rattle.std.specs.Prelude.{IfOk}
use Rattle.image_states.specs.Choosing.{AreSleepers}
use Rattle.image_states.proofs.packed.Packed.sleepers_on.Goals as goal

pub returns : goal.returns
returns c =
    let e : c.args.a.0 + 1 ≡ suc c.args.a.0 = omega arith in
    subst (λ n. IfOk c.sleepers.result (λ v. AreSleepers c.args.self.now.places.items n v.items)) e c.sleepers.ensures
