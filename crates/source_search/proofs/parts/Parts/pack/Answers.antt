use Rattle.std.proofs.Common.{◌≡◌, ◌∙◌, ◌↔◌, ℕ, Contains, List, Some, ap, subst, sym}
use Rattle.std.specs.Prelude.{IsSome}
use Rattle.source_offers.specs.Stores.{variables_of}
use Rattle.source_states.specs.States.{state_of}
use Rattle.source_search.specs.Packed.{ArePacked, table_in, variables_in}
use Rattle.source_search.proofs.Packing.{grown_twice, packed_all}
use Rattle.source_search.proofs.parts.Parts.pack.Goals as goal

pub returns-clause-packed : goal.returns-clause-packed
returns-clause-packed c =
    let a = c.pack_processes.new.self in
    let b = c.table_number.new.self in
    let d = c.variables_number.new.self in
    let s = state_of c.args.state.now in
    let are : ArePacked a.processes.items c.in-Some.processes.items c.as_slice-numbers.result.now s.process =
    rw c.in-Some.is at c.in_ok-processes.ensures.packed in
    let t : table_in b.tables.items c.in-Some-2.table ≡ Some s.table =
    rw c.in-Some-2.is at c.in_ok-table.ensures.there in
    let v : variables_in d.variables.items c.in-Some-3.variables ≡ Some (variables_of c.variables-values.result.now) =
    rw c.in-Some-3.is at c.in_ok-variables.ensures.there in
    packed_all a b d c.in_ok-table.ensures.grown c.in_ok-variables.ensures.grown
    (record { table = c.in-Some-2.table; variables = c.in-Some-3.variables; processes = c.in-Some.processes }) s
    c.as_slice-numbers.result.now are
    (subst (λ (xs : List ℕ). (q : ℕ) → Contains xs q ↔ IsSome (s.process q)) (sym c.as_slice-numbers.ensures.value)
    c.in_ok-all.ensures.all)
    t (v ∙ ap Some c.variables-values.ensures)

pub returns-clause-grown : goal.returns-clause-grown
returns-clause-grown c =
    let a = c.pack_processes.new.self in
    let b = c.table_number.new.self in
    grown_twice c.args.self.now a c.variables_number.new.self c.in_ok-processes.ensures.grown
    (grown_twice a b c.variables_number.new.self c.in_ok-table.ensures.grown c.in_ok-variables.ensures.grown)
