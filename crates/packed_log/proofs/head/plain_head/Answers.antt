use Rattle.std.proofs.Common.{◌≡◌, ◌+◌, ◌*◌, Some, arith, refl, subst}
use Rattle.machine.specs.ConcreteServing.{plain}
use Rattle.machine.specs.declared.event.Entry.{Entry}
use Rattle.machine.specs.declared.event.Event.{Event}
use Rattle.packed_log.specs.Packing.{widened}
use Rattle.packed_log.specs.Views.{IsHeadOf}
use Rattle.packed_log.proofs.Fields.{of_parts, step_head}
use Rattle.packed_log.proofs.head.plain_head.Goals as goal

pub returns : goal.returns
returns c =
    let event : Event = plain c.args.name c.args.value in
    let entry : Entry = record { thread = c.args.thread; local = c.args.local; event = Some event } in
    let t = c.from.result in
    let l = c.from-2.result in
    let k = c.number_of.result in
    let v = c.from-3.result in
    let whole : of_parts t l k 0 0 v ≡ t + l * 1024 + k * 524288 + v * 268435456 = omega arith in
    subst (λ h. IsHeadOf entry (widened h)) whole
    (step_head entry event t l k 0 0 v
    (record {
      step = refl;
      fits = c.requires;
      kind = c.number_of.ensures.name;
      small = c.number_of.ensures.small;
      value = omega arith;
      woken = _;
      moved = _;
    })
    c.from.ensures c.from-2.ensures refl refl c.from-3.ensures)
