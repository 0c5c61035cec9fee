use Rattle.std.proofs.Common.{◌≡◌, ◌<◌, ◌∙◌, ◌↔◌, ℕ, All, Contains, List, Some, ap, length, subst, sym}
use Rattle.std.specs.Prelude.{IsSome}
use Rattle.source_offers.specs.Stores.{variables_of}
use Rattle.source_states.specs.States.{state_of}
use Rattle.source_search.specs.Packed.{table_in, variables_in}
use Rattle.source_search.specs.Spots.{IsMergedTo}
use Rattle.source_search.proofs.Merged.{merged_all}
use Rattle.source_search.proofs.Packing.{grown_twice}
use Rattle.source_search.proofs.parts.Parts.merge.Goals as goal

pub returns-clause-merged : goal.returns-clause-merged
returns-clause-merged c = λ within.
    let o = c.args.self.now in
    let a = c.merge_processes.new.self in
    let b = c.table_number.new.self in
    let d = c.variables_number.new.self in
    let x = c.args.packed.now in
    let s = state_of c.args.state.now in
    let own = c.as_slice-own.result.now in
    let are : IsMergedTo o.processes.items a.processes.items own s.process c.as_slice-numbers.result.now
    c.in-Some.processes.items =
    rw c.in-Some.is at (c.in_ok-processes.ensures.merged
    (subst (All (λ n. n < length o.processes.items)) (sym c.as_slice-own.ensures.value) within.processes)) in
    let t : table_in b.tables.items c.in-Some-2.table ≡ Some s.table =
    rw c.in-Some-2.is at c.in_ok-table.ensures.there in
    let v : variables_in d.variables.items c.in-Some-3.variables ≡ Some (variables_of c.variables-values.result.now) =
    rw c.in-Some-3.is at c.in_ok-variables.ensures.there in
    merged_all o a b d c.in_ok-table.ensures.grown c.in_ok-variables.ensures.grown x
    (record { table = c.in-Some-2.table; variables = c.in-Some-3.variables; processes = c.in-Some.processes }) s
    c.as_slice-numbers.result.now
    (subst (λ ids. IsMergedTo o.processes.items a.processes.items ids s.process c.as_slice-numbers.result.now
    c.in-Some.processes.items) c.as_slice-own.ensures.value are)
    (subst (λ (xs : List ℕ). (q : ℕ) → Contains xs q ↔ IsSome (s.process q)) (sym c.as_slice-numbers.ensures.value)
    c.in_ok-all.ensures.all)
    t (v ∙ ap Some c.variables-values.ensures)

pub returns-clause-grown : goal.returns-clause-grown
returns-clause-grown c =
    let a = c.merge_processes.new.self in
    let b = c.table_number.new.self in
    grown_twice c.args.self.now a c.variables_number.new.self c.in_ok-processes.ensures.grown
    (grown_twice a b c.variables_number.new.self c.in_ok-table.ensures.grown c.in_ok-variables.ensures.grown)
