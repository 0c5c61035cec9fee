use Rattle.std.proofs.Common.{◌≡◌, Some, ap, length, refl, slice_get, subst}
use Rattle.std.specs.Prelude.{option_map}
use Rattle.std.proofs.lemmas.Option.{slice_get_read}
use Rattle.source_offers.specs.Stages.{process_of}
use Rattle.source_search.specs.Packed.{process_in}
use Rattle.source_search.proofs.Lively.{over_at}
use Rattle.source_search.proofs.parts.Parts.is_over.Goals as goal

pub returns-in-Some : goal.returns-in-Some
returns-in-Some c =
    let parts = c.args.self.now in
    let spot = c.args.spot in
    let there : process_in parts.processes.items spot.part ≡ Some (process_of c.in-Some.process.now) =
    ap (option_map process_of) (subst (λ xs. slice_get xs spot.part ≡ Some c.in-Some.process.now) c.deref.ensures.value
    (slice_get_read c.deref.result.now (length c.deref.result.now) spot.part c.in-Some.process.now refl
    c.in-Some.ensures.lookup.3.0 c.in-Some.ensures.lookup.1)) in
    over_at (process_in parts.processes.items spot.part) (process_of c.in-Some.process.now) c.is_over.result there
    c.is_over.ensures
