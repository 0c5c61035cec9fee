use Rattle.std.proofs.Common.{◌≡◌, ◌<◌, Some, ap, arith, length, refl, slice_get, subst}
use Rattle.std.specs.Prelude.{option_map}
use Rattle.std.proofs.lemmas.Option.{slice_get_read}
use Rattle.source_offers.specs.Stages.{process_of}
use Rattle.source_search.specs.Packed.{process_in}
use Rattle.source_search.proofs.Ended.{part_decided}
use Rattle.source_search.proofs.Packing.{some_within}
use Rattle.source_search.proofs.ends.is_part_over.Goals as goal

pub returns-in-None : goal.returns-in-None
returns-in-None c = λ q stands.
    let parts = c.args.parts.now.processes.items in
    let less : c.args.part < length parts = some_within process_of parts c.args.part q stands in
    absurd (omega (arith, less, c.in-None.ensures.lookup.3, ap length c.deref.ensures.value))

pub returns-in-Some : goal.returns-in-Some
returns-in-Some c =
    let parts = c.args.parts.now in
    let there : process_in parts.processes.items c.args.part ≡ Some (process_of c.in-Some.process.now) =
    ap (option_map process_of) (subst (λ xs. slice_get xs c.args.part ≡ Some c.in-Some.process.now) c.deref.ensures.value
    (slice_get_read c.deref.result.now (length c.deref.result.now) c.args.part c.in-Some.process.now refl
    c.in-Some.ensures.lookup.3.0 c.in-Some.ensures.lookup.1)) in
    part_decided (process_in parts.processes.items c.args.part) (process_of c.in-Some.process.now) c.is_over.result there
    c.is_over.ensures
