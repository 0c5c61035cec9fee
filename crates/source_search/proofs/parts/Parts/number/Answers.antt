use Rattle.std.proofs.Common.{◌≡◌, ◌∙◌, Some, ap, subst, sym}
use Rattle.source_offers.specs.Stages.{process_of}
use Rattle.source_offers.specs.Stores.{variables_of}
use Rattle.source_states.specs.States.{state_of}
use Rattle.source_search.specs.Known.{AreOnly, IsChild}
use Rattle.source_search.specs.Packed.{process_in, table_in, variables_in}
use Rattle.source_search.proofs.Remembered.{numbered}
use Rattle.source_search.proofs.Packing.{grown_twice}
use Rattle.source_search.proofs.parts.Parts.number.Goals as goal

pub returns-clause-numbered : goal.returns-clause-numbered
returns-clause-numbered c =
    let a = c.process_number.new.self in
    let e = c.child_number.new.self in
    let b = c.table_number.new.self in
    let d = c.variables_number.new.self in
    let s = state_of c.args.state.now in
    let t = c.args.spot.process in
    let q : process_in a.processes.items c.in-Some-2.part ≡ Some (process_of c.in-Some-process.process.now) =
    rw c.in-Some-2.is at c.in_ok-part.ensures.there in
    let child : IsChild e.processes.items s.process c.in-Some-3.child c.in-Some-2.part c.in-Some.number =
    rw c.in-Some-3.is at c.in_ok-child.ensures.there in
    let table : table_in b.tables.items c.in-Some-4.table ≡ Some s.table =
    rw c.in-Some-4.is at c.in_ok-table.ensures.there in
    let v : variables_in d.variables.items c.in-Some-5.variables ≡ Some (variables_of c.variables-values.result.now) =
    rw c.in-Some-5.is at c.in_ok-variables.ensures.there in
    numbered a e b d c.in_ok-child.ensures.grown c.in_ok-table.ensures.grown c.in_ok-variables.ensures.grown t _ s
    c.in_ok-all.all.items (process_of c.in-Some-process.process.now) c.in_ok-all.ensures.all
    (subst (λ n. s.process n ≡ Some (process_of c.in-Some-process.process.now)) c.from-2.ensures (sym c.in-Some-process.ensures)) q
    table (v ∙ ap Some c.variables-values.ensures) c.in-Some.number c.in-Some-way_of.ensures
    (subst (λ ns. AreOnly ns t c.in-Some.number) c.as_slice.ensures.value
    (subst (λ n. AreOnly c.as_slice.result.now n c.in-Some.number) c.from.ensures c.in-Some.ensures)) child

pub returns-clause-grown : goal.returns-clause-grown
returns-clause-grown c =
    let a = c.process_number.new.self in
    let e = c.child_number.new.self in
    let b = c.table_number.new.self in
    let d = c.variables_number.new.self in
    grown_twice c.args.self.now a d c.in_ok-part.ensures.grown
    (grown_twice a e d c.in_ok-child.ensures.grown
    (grown_twice e b d c.in_ok-table.ensures.grown c.in_ok-variables.ensures.grown))
