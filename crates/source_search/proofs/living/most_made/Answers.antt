use Rattle.std.proofs.Common.{◌≤◌, All, arith, length, subst, take}
use Rattle.std.proofs.lemmas.List.{take_all}
use Rattle.std.proofs.lemmas.List.Elements.{All-more, All-weaker}
use Rattle.source_search.specs.declared.packed.Packed.{Packed}
use Rattle.source_search.proofs.living.most_made.Goals as goal

pub loop-packed-init : goal.loop-packed-init
loop-packed-init c = λ k d l. absurd (omega (arith, l))

pub loop-packed-preserved : goal.loop-packed-preserved
loop-packed-preserved c =
    All-more (λ (x : Packed). length x.processes.items ≤ c.greater-most.result) c.args.states.now
    c.loop-packed.packed-index c.packed-item.result c.loop-packed-test.true
    (All-weaker (λ (x : Packed). length x.processes.items ≤ c.loop-packed.most)
    (λ (x : Packed). length x.processes.items ≤ c.greater-most.result)
    (λ x few. omega (arith, few, c.greater-most.ensures.first))
    (take c.loop-packed.packed-index c.args.states.now) c.loop-packed.invariant)
    (subst (λ (x : Packed). length x.processes.items ≤ c.greater-most.result) c.packed-item.is
    (omega (arith, c.len.ensures, c.greater-most.ensures.second)))

pub returns : goal.returns
returns c = subst (All (λ (x : Packed). length x.processes.items ≤ c.loop-packed.most))
    (take_all c.loop-packed.packed-index c.args.states.now c.loop-packed-test.false) c.loop-packed.invariant
