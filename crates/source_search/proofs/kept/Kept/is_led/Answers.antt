use Rattle.std.proofs.Common.{◌≡◌, subst, true}
use Rattle.std.specs.Prelude.{IfOk}
use Rattle.program.specs.Views.{program_of}
use Rattle.source_states.specs.States.{state_of}
use Rattle.source_search.specs.Kept.{states_of}
use Rattle.source_search.specs.Living.{ComesToOne}
use Rattle.source_search.specs.Packed.{unpacked}
use Rattle.source_search.proofs.kept.Kept.is_led.Goals as goal

pub returns-in-Some-clause-comes : goal.returns-in-Some-clause-comes
returns-in-Some-clause-comes c =
    let same : state_of c.in-Some.state ≡ unpacked c.args.self.now.parts c.args.packed.now =
    rw c.in-Some.is at c.in_ok-unpack.ensures.state in
    subst (λ s. IfOk c.is_walked.result (λ b. b ≡ true
    → ComesToOne (program_of c.args.checked.now.tree) (states_of c.args.self.now) s)) same c.is_walked.ensures.comes
