use Rattle.std.proofs.Common.{◌≡◌, Some, ap, length, refl, slice_get, subst}
use Rattle.std.specs.Prelude.{option_map}
use Rattle.std.proofs.lemmas.Option.{slice_get_read}
use Rattle.source_offers.specs.Stages.{process_of}
use Rattle.source_table.specs.Tables.{table_of}
use Rattle.source_search.specs.Packed.{process_in, table_in}
use Rattle.source_search.proofs.Merged.{held_alone}
use Rattle.source_search.proofs.parts.Parts.is_held_up.Goals as goal

pub returns : goal.returns
returns c = λ e p can.
    let parts = c.args.self.now in
    let spot = c.args.spot in
    let q : process_in parts.processes.items spot.part ≡ Some (process_of c.in-Some.part.now) =
    ap (option_map process_of) (subst (λ xs. slice_get xs spot.part ≡ Some c.in-Some.part.now) c.deref.ensures.value
    (slice_get_read c.deref.result.now (length c.deref.result.now) spot.part c.in-Some.part.now refl
    c.in-Some.ensures.lookup.3.0 c.in-Some.ensures.lookup.1)) in
    let t : table_in parts.tables.items spot.table ≡ Some (table_of c.in-Some-get.table.now) =
    ap (option_map table_of) (subst (λ xs. slice_get xs spot.table ≡ Some c.in-Some-get.table.now) c.deref-2.ensures.value
    (slice_get_read c.deref-2.result.now (length c.deref-2.result.now) spot.table c.in-Some-get.table.now refl
    c.in-Some-get.ensures.lookup.3.0 c.in-Some-get.ensures.lookup.1)) in
    held_alone p parts spot c.from.result (table_of c.in-Some-get.table.now) (process_of c.in-Some.part.now) t q
    c.from.ensures (c.is_held_up.ensures e p) can
