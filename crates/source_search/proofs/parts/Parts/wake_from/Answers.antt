use Rattle.std.proofs.Common.{◌≡◌, Some, sym}
use Rattle.source_states.specs.States.{state_of}
use Rattle.source_search.specs.Packed.{table_in}
use Rattle.source_search.proofs.Woken.{woken_of}
use Rattle.source_search.proofs.parts.Parts.wake_from.Goals as goal

pub returns-clause-woken : goal.returns-clause-woken
returns-clause-woken c =
    let s' = state_of c.wake.new.state in
    let found : table_in c.table_number.new.self.tables.items c.in-Some-2.table ≡ Some s'.table =
    rw c.in-Some-2.is at c.in_ok-table.ensures.there in
    woken_of c.args.self.now c.table_number.new.self c.in_ok-table.ensures.grown c.args.packed.now _ c.args.place
    c.from.result c.args.spot (state_of c.args.small.now) s' _ c.requires.spot c.requires.alone c.from.ensures
    c.in-Some.ensures found (sym c.in_ok-woken.ensures.variables)
    (sym c.in_ok-woken.ensures.processes)
