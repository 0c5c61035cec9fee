use Rattle.std.proofs.Common.{◌≡◌, ◌∙◌, Some, ap, length, refl, slice_get, subst, sym}
use Rattle.std.specs.Prelude.{option_map}
use Rattle.std.proofs.lemmas.Option.{slice_get_read}
use Rattle.words.specs.Updates.{put}
use Rattle.meaning.specs.States.{SourceState}
use Rattle.source_offers.specs.Stages.{process_of}
use Rattle.source_offers.specs.Stores.{variables_of}
use Rattle.source_states.specs.States.{state_of}
use Rattle.source_table.specs.Tables.{table_of}
use Rattle.source_search.specs.Packed.{process_in, table_in, variables_in}
use Rattle.source_search.proofs.Merged.{alone_of}
use Rattle.source_search.proofs.parts.Parts.small.Goals as goal

pub returns : goal.returns
returns c =
    let parts = c.args.self.now in
    let spot = c.args.spot in
    let number : c.from.result ≡ spot.process = c.from.ensures in
    let q : process_in parts.processes.items spot.part ≡ Some (process_of c.in_ok-process.process) =
    ap (option_map process_of) (subst (λ xs. slice_get xs spot.part ≡ Some c.in-Some.part.now) c.deref.ensures.value
    (slice_get_read c.deref.result.now (length c.deref.result.now) spot.part c.in-Some.part.now refl
    c.in-Some.ensures.lookup.3.0 c.in-Some.ensures.lookup.1))
    ∙ ap Some (sym c.in_ok-process.ensures) in
    let t : table_in parts.tables.items spot.table ≡ Some (table_of c.in_ok-copy.field-0) =
    ap (option_map table_of) (subst (λ xs. slice_get xs spot.table ≡ Some c.in-Some-get.table.now) c.deref-2.ensures.value
    (slice_get_read c.deref-2.result.now (length c.deref-2.result.now) spot.table c.in-Some-get.table.now refl
    c.in-Some-get.ensures.lookup.3.0 c.in-Some-get.ensures.lookup.1))
    ∙ ap Some (sym c.in_ok-copy.ensures) in
    let v : variables_in parts.variables.items spot.variables ≡ Some (variables_of c.in_ok-copy-2.field-0) =
    ap (option_map variables_of) (subst (λ xs. slice_get xs spot.variables ≡ Some c.in-Some-get-2.variables.now)
    c.deref-3.ensures.value
    (slice_get_read c.deref-3.result.now (length c.deref-3.result.now) spot.variables c.in-Some-get-2.variables.now refl
    c.in-Some-get-2.ensures.lookup.3.0 c.in-Some-get-2.ensures.lookup.1))
    ∙ ap Some (sym c.in_ok-copy-2.ensures) in
    alone_of parts spot (state_of c.place.new.self) (table_of c.in_ok-copy.field-0) (variables_of c.in_ok-copy-2.field-0)
    (process_of c.in_ok-process.process) t v q
    (c.in_ok-place.ensures
    ∙ ap (λ n. record (state_of c.unpeopled-state.result) {
      process = put (state_of c.unpeopled-state.result).process n (Some (process_of c.in_ok-process.process));
    }) number
    ∙ ap (λ (s : SourceState). record s { process = put s.process spot.process (Some (process_of c.in_ok-process.process)) })
    c.unpeopled-state.ensures)
