use Rattle.std.proofs.Common.{arith, below_more, suc}
use Rattle.program.specs.Views.{program_of}
use Rattle.proof_exploration.specs.Blocking.{IsLive}
use Rattle.source_search.specs.Living.{IsAsked}
use Rattle.source_search.specs.Packed.{unpacked}
use Rattle.source_search.proofs.Lively.{live_each}
use Rattle.source_search.proofs.kept.Kept.are_able.Goals as goal

pub loop-place-init : goal.loop-place-init
loop-place-init c = λ k l. absurd (omega (arith, l))

pub loop-place-preserved : goal.loop-place-preserved
loop-place-preserved c = below_more
    (λ k. IsAsked c.args.who (suc k)
    → IsLive (program_of c.args.checked.now.tree) (unpacked c.args.self.now.parts c.args.packed.now) (suc k))
    c.loop-place.place c.loop-place.invariant (c.in_ok-is_able_or_not_asked.ensures c.if-not-branch.false)

pub returns : goal.returns
returns c = λ e.
    live_each (program_of c.args.checked.now.tree) c.args.who c.args.self.now.parts c.args.packed.now
    (λ k less. c.loop-place.invariant k (omega (arith, less, c.loop-place-test.false, c.len-place-end.ensures)))
