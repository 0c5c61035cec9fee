use Rattle.std.proofs.Common.{◌≡◌, ◌-◌, ℕ, Some, ap, arith, length, refl, slice_get, subst, suc}
use Rattle.std.specs.Prelude.{option_map}
use Rattle.std.proofs.lemmas.Option.{slice_get_read}
use Rattle.proof_exploration.specs.Blocking.{IsHeldUp}
use Rattle.source_offers.specs.Stages.{process_of}
use Rattle.source_table.specs.Tables.{table_of}
use Rattle.source_search.specs.Packed.{process_in, table_in, unpacked}
use Rattle.source_search.proofs.Lively.{held_there}
use Rattle.source_search.proofs.holding.is_held_there.Goals as goal

pub returns : goal.returns
returns c = λ e p.
    let parts = c.args.parts.now in
    let x = c.args.packed.now in
    let n : ℕ = c.args.number - 1 in
    let number : c.args.number ≡ suc n = omega (arith, c.if-number-eq0.false) in
    let here : slice_get x.processes.items n ≡ Some c.in-Some.part.now =
    subst (λ xs. slice_get xs n ≡ Some c.in-Some.part.now) c.deref.ensures.value
    (slice_get_read c.deref.result.now (length c.deref.result.now) n c.in-Some.part.now refl
    c.in-Some.ensures.lookup.3.0 c.in-Some.ensures.lookup.1) in
    let there : process_in parts.processes.items c.in-Some.part.now ≡ Some (process_of c.in-Some-get.at.now) =
    ap (option_map process_of) (subst (λ xs. slice_get xs c.in-Some.part.now ≡ Some c.in-Some-get.at.now)
    c.deref-2.ensures.value
    (slice_get_read c.deref-2.result.now (length c.deref-2.result.now) c.in-Some.part.now c.in-Some-get.at.now refl
    c.in-Some-get.ensures.lookup.3.0 c.in-Some-get.ensures.lookup.1)) in
    let table : table_in parts.tables.items x.table ≡ Some (table_of c.in-Some-get-2.table.now) =
    ap (option_map table_of) (subst (λ xs. slice_get xs x.table ≡ Some c.in-Some-get-2.table.now) c.deref-3.ensures.value
    (slice_get_read c.deref-3.result.now (length c.deref-3.result.now) x.table c.in-Some-get-2.table.now refl
    c.in-Some-get-2.ensures.lookup.3.0 c.in-Some-get-2.ensures.lookup.1)) in
    subst (IsHeldUp p (unpacked parts x) c.args.number) (c.same_process.ensures c.if-not-same_process.false)
    (held_there parts x n c.in-Some.part.now c.args.number (process_of c.in-Some-get.at.now)
    (table_of c.in-Some-get-2.table.now) number here there table (c.is_held_up.ensures e) p)
