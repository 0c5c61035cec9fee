use Rattle.std.proofs.Common.{◌≡◌, ◌∙◌, Some, ap, length, refl, slice_get, subst, sym}
use Rattle.std.specs.Prelude.{option_map}
use Rattle.std.proofs.lemmas.Option.{slice_get_read}
use Rattle.meaning.specs.States.{SourceState}
use Rattle.source_offers.specs.Stores.{variables_of}
use Rattle.source_states.specs.States.{state_of}
use Rattle.source_table.specs.Tables.{table_of}
use Rattle.source_search.specs.Packed.{processes_at, table_in, variables_in}
use Rattle.source_search.proofs.Packing.{unpacked_of}
use Rattle.source_search.proofs.parts.Parts.unpack.Goals as goal

pub unpack_processes-requires : goal.unpack_processes-requires
unpack_processes-requires c = λ q. ap (λ (s : SourceState). s.process q) c.unpeopled-state.ensures

pub returns-clause-state : goal.returns-clause-state
returns-clause-state c =
    let parts = c.args.self.now in
    let x = c.args.packed.now in
    let t : table_in parts.tables.items x.table ≡ Some (table_of c.in_ok-copy.field-0) =
    ap (option_map table_of) (subst (λ xs. slice_get xs x.table ≡ Some c.in-Some.table.now) c.deref.ensures.value
    (slice_get_read c.deref.result.now (length c.deref.result.now) x.table c.in-Some.table.now refl
    c.in-Some.ensures.lookup.3.0 c.in-Some.ensures.lookup.1))
    ∙ ap Some (sym c.in_ok-copy.ensures) in
    let v : variables_in parts.variables.items x.variables ≡ Some (variables_of c.in_ok-copy-2.field-0) =
    ap (option_map variables_of) (subst (λ xs. slice_get xs x.variables ≡ Some c.in-Some-get.variables.now)
    c.deref-2.ensures.value
    (slice_get_read c.deref-2.result.now (length c.deref-2.result.now) x.variables c.in-Some-get.variables.now refl
    c.in-Some-get.ensures.lookup.3.0 c.in-Some-get.ensures.lookup.1))
    ∙ ap Some (sym c.in_ok-copy-2.ensures) in
    unpacked_of parts x (state_of c.unpack_processes.new.state) (table_of c.in_ok-copy.field-0)
    (variables_of c.in_ok-copy-2.field-0) c.as_slice.result.now t v
    (c.in_ok-unpack_processes.ensures.all c.if-not-branch.false
    ∙ ap (λ (s : SourceState). record s { process = processes_at parts.processes.items c.as_slice.result.now })
    c.unpeopled-state.ensures) c.as_slice.ensures.value
