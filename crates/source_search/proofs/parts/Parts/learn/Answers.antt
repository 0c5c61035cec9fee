use Rattle.std.proofs.Common.{refl}
use Rattle.program.specs.Views.{program_of}
use Rattle.source_reaching.specs.Ends.{ends_in}
use Rattle.source_search.specs.Known.{AreOutcomes, listed_in}
use Rattle.source_search.proofs.Remembered.{learnt}
use Rattle.source_search.proofs.parts.Parts.learn.Goals as goal

pub returns-clause-known : goal.returns-clause-known
returns-clause-known c = λ within leads can.
    let p = program_of c.args.checked.now.tree in
    let are : AreOutcomes p c.listed.new.self c.args.spot.process (ends_in c.args.ends.now) (listed_in c.in-Some.outcomes) =
    rw c.in-Some.is at c.in_ok-outcomes.ensures.numbered in
    learnt p c.args.self.now c.listed.new.self c.in_ok-outcomes.ensures.grown c.args.spot (ends_in c.args.ends.now) _
    refl are within leads can
