use Rattle.std.proofs.Common.{◌≡◌, ◌<◌, ◌∙◌, Some, suc, ap, arith, below_more, length, get_or, sym}
use Rattle.meaning.specs.Processes.{Process}
use Rattle.proof_exploration.specs.Blocking.{GoesOn}
use Rattle.proof_exploration.specs.Exploring.{IsOver}
use Rattle.source_search.specs.Packed.{process_in, unpacked}
use Rattle.source_search.proofs.Ended.{ended_each}
use Rattle.source_search.proofs.Endings.{part_stands}
use Rattle.source_search.proofs.ends.are_over.Goals as goal

pub loop-place-init : goal.loop-place-init
loop-place-init c = λ k l. absurd (omega (arith, l))

pub loop-place-preserved : goal.loop-place-preserved
loop-place-preserved c =
    let x = c.args.packed.now in
    let parts = c.args.parts.now in
    let place = c.loop-place.place in
    let less : place < length x.processes.items =
    omega (arith, c.loop-place-test.true, ap length c.as_slice-processes.ensures.value) in
    below_more (λ k. GoesOn (unpacked parts x) (suc k) → ⊥) place c.loop-place.invariant
    (λ on. on.2 ((rw c.if-not-is_part_over.false at c.is_part_over.ensures) on.0
    (ap (λ xs. process_in parts.processes.items (get_or xs place 0)) c.as_slice-processes.ensures.value
    ∙ sym (part_stands parts x place less) ∙ on.1)))

pub returns-then-not-is_part_over-clause-goes_on : goal.returns-then-not-is_part_over-clause-goes_on
returns-then-not-is_part_over-clause-goes_on c = λ e ended.
    let x = c.args.packed.now in
    let parts = c.args.parts.now in
    let place = c.loop-place.place in
    let less : place < length x.processes.items =
    omega (arith, c.loop-place-test.true, ap length c.as_slice-processes.ensures.value) in
    let on : (q : Process) × (process_in parts.processes.items (get_or c.as_slice-processes.result.now place 0) ≡ Some q)
    × (IsOver q → ⊥) = rw c.if-not-is_part_over.true at c.is_part_over.ensures in
    ended (suc place) (
      on.0,
      part_stands parts x place less
          ∙ sym (ap (λ xs. process_in parts.processes.items (get_or xs place 0)) c.as_slice-processes.ensures.value)
          ∙ on.1,
      on.2,
    )

pub returns-clause-over : goal.returns-clause-over
returns-clause-over c = λ e.
    ended_each c.args.parts.now c.args.packed.now
    (λ k less. c.loop-place.invariant k
    (omega (arith, less, c.loop-place-test.false, ap length c.as_slice-processes.ensures.value)))
