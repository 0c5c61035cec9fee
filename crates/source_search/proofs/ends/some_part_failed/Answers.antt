use Rattle.std.proofs.Common.{◌<◌, ◌∙◌, suc, ap, arith, below_more, length, get_or, sym}
use Rattle.source_search.specs.Found.{FailedAt}
use Rattle.source_search.specs.Packed.{process_in, unpacked}
use Rattle.source_search.proofs.Endings.{none_failed, part_stands}
use Rattle.source_search.proofs.ends.some_part_failed.Goals as goal

pub loop-place-preserved : goal.loop-place-preserved
loop-place-preserved c =
    let x = c.args.packed.now in
    let place = c.loop-place.place in
    let less : place < length x.processes.items =
    omega (arith, c.loop-place-test.true, ap length c.as_slice-processes.ensures.value) in
    below_more (λ k. FailedAt c.args.outside (unpacked c.args.parts.now x) (suc k) → ⊥) place c.loop-place.invariant
    (λ failed. c.part_failed.ensures c.if-part_failed.false failed.0
    (ap (λ xs. process_in c.args.parts.now.processes.items (get_or xs place 0)) c.as_slice-processes.ensures.value
    ∙ sym (part_stands c.args.parts.now x place less) ∙ failed.1) failed.2)

pub returns : goal.returns
returns c = λ e.
    none_failed c.args.outside c.args.parts.now c.args.packed.now
    (λ k less. c.loop-place.invariant k
    (omega (arith, less, c.loop-place-test.false, ap length c.as_slice-processes.ensures.value)))
