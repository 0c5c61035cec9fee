use Rattle.std.proofs.Common.{◌≡◌, false, subst}
use Rattle.std.specs.Prelude.{IfOk, IfSome}
use Rattle.program.specs.Views.{program_of}
use Rattle.proof_exploration.specs.Exploring.{IsStuck}
use Rattle.source_states.specs.States.{state_of}
use Rattle.source_search.specs.Packed.{unpacked}
use Rattle.source_search.proofs.search.is_stuck_at.Goals as goal

pub returns-then-moves : goal.returns-then-moves
returns-then-moves c = λ e stuck.
    let can = c.requires c.if-moves.true in
    stuck.rests can.0 can.1

pub returns : goal.returns
returns c =
    let same : state_of c.in-Some.state ≡ unpacked c.args.parts.now c.args.packed.now =
    rw c.in-Some.is at c.in_ok-state.ensures.state in
    subst (λ s. IfOk c.told_stuck.result (λ o. IfSome o (λ stuck. stuck ≡ false
    → IsStuck (program_of c.args.checked.now.tree) s → ⊥))) same c.told_stuck.ensures
