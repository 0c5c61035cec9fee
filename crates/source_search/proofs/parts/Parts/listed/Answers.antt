use Rattle.std.proofs.Common.{arith}
use Rattle.program.specs.Views.{program_of}
use Rattle.source_states.specs.States.{state_of}
use Rattle.source_search.specs.Known.{IsOutcome}
use Rattle.source_search.proofs.Remembered.{single_outcome}
use Rattle.source_search.proofs.parts.Parts.listed.Goals as goal

pub returns-clause-numbered : goal.returns-clause-numbered
returns-clause-numbered c =
    let p = program_of c.args.checked.now.tree in
    let one : IsOutcome p c.outcome.new.self c.args.spot.process (state_of c.index-ends-0.result.state) c.in-Some-2.one =
    rw c.in-Some-2.is at c.in_ok-one.ensures.numbered in
    single_outcome p c.outcome.new.self c.args.spot.process c.args.ends.now c.index-ends-0.result c.in-Some-2.one
    (omega (arith, c.if-ends-ne1.false)) c.index-ends-0.is one
