use Rattle.std.proofs.Common.{◌≡◌, ◌<◌, ◌≤◌, ◌∙◌, ℕ, Some, ap, arith, get_or, length, refl, slice_get, subst, sym}
use Rattle.std.proofs.lemmas.Bool.Decides.{nat_tests}
use Rattle.std.specs.Prelude.{option_map}
use Rattle.std.proofs.lemmas.List.{take_all}
use Rattle.std.proofs.lemmas.Option.{slice_get-get_or, slice_get_read}
use Rattle.source_offers.specs.Stages.{process_of}
use Rattle.source_states.specs.States.{state_of}
use Rattle.source_search.specs.Packed.{process_in, processes_at}
use Rattle.source_search.proofs.Packing.{placed_none, placed_on}
use Rattle.source_search.proofs.parts.Parts.unpack_processes.Goals as goal

pub loop-k-init : goal.loop-k-init
loop-k-init c =
    placed_none (state_of c.args.state.now) c.args.self.now.processes.items c.args.parts.now c.requires

pub loop-k-preserved : goal.loop-k-preserved
loop-k-preserved c =
    let parts = c.args.self.now.processes.items in
    let n : ℕ = get_or c.args.parts.now c.loop-k.k 0 in
    let there : process_in parts n ≡ Some (process_of c.in_ok-copy.field-0) =
    ap (option_map process_of) (subst (λ xs. slice_get xs n ≡ Some c.in-Some.process.now) c.deref.ensures.value
    (slice_get_read c.deref.result.now (length c.deref.result.now) n c.in-Some.process.now refl
    c.in-Some.ensures.lookup.3.0 c.in-Some.ensures.lookup.1))
    ∙ ap Some (sym c.in_ok-copy.ensures) in
    placed_on (state_of c.args.state.now) (state_of c.loop-k.state) (state_of c.place.new.self) parts c.args.parts.now
    c.loop-k.k n (process_of c.in_ok-copy.field-0) c.loop-k.invariant c.in_ok-place.ensures
    (slice_get-get_or c.args.parts.now c.loop-k.k 0 c.loop-k-test.true) there

pub returns-clause-all : goal.returns-clause-all
returns-clause-all c = λ e.
    c.loop-k.invariant
    ∙ ap (λ xs. record (state_of c.args.state.now) { process = processes_at c.args.self.now.processes.items xs })
    (take_all c.loop-k.k c.args.parts.now c.loop-k-test.false)

pub returns-in_default-clause-there : goal.returns-in_default-clause-there
returns-in_default-clause-there c = λ all.
    let n : ℕ = get_or c.args.parts.now c.loop-k.k 0 in
    let less : n < length c.args.self.now.processes.items = all c.loop-k.k 0 c.loop-k-test.true in
    let out : length c.deref.result.now ≤ n = grind (arith, nat_tests, c.in_default.ensures.lookup.0) in
    absurd (omega (arith, less, out, ap length c.deref.ensures.value))
