use Rattle.std.proofs.Common.{◌≡◌, subst}
use Rattle.program.specs.Views.{program_of}
use Rattle.proof_exploration.specs.Blocking.{GoesOn, IsLive}
use Rattle.proof_exploration.proofs.Lasting.{live_over}
use Rattle.source_states.specs.States.{state_of}
use Rattle.source_search.specs.Packed.{unpacked}
use Rattle.source_search.proofs.Lively.{rests_told}
use Rattle.source_search.proofs.living.rests.Goals as goal

pub returns-then-not-goes_on_at : goal.returns-then-not-goes_on_at
returns-then-not-goes_on_at c =
    let p = program_of c.args.checked.now.tree in
    let same : state_of c.in-Some.state ≡ unpacked c.args.parts.now c.args.packed.now =
    rw c.in-Some.is at c.in_ok-state.ensures.state in
    subst (λ s. IsLive p s c.args.process) same
    (live_over p (state_of c.in-Some.state) c.args.process (rw c.if-not-goes_on_at.true at c.goes_on_at.ensures))

pub returns : goal.returns
returns c =
    let p = program_of c.args.checked.now.tree in
    let same : state_of c.in-Some.state ≡ unpacked c.args.parts.now c.args.packed.now =
    rw c.in-Some.is at c.in_ok-state.ensures.state in
    let on : GoesOn (state_of c.in-Some.state) c.args.process = rw c.if-not-goes_on_at.false at c.goes_on_at.ensures in
    rests_told p (state_of c.in-Some.state) (unpacked c.args.parts.now c.args.packed.now) c.args.process
    c.can_move.result same on c.can_move.ensures
