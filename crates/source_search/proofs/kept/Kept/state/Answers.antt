use Rattle.std.proofs.Common.{◌≡◌, ◌∙◌, Some, ap, length, refl, slice_get, subst, sym}
use Rattle.std.specs.Prelude.{option_map}
use Rattle.std.proofs.lemmas.Option.{slice_get-map, slice_get_read}
use Rattle.source_states.specs.States.{state_of}
use Rattle.source_search.specs.Packed.{unpacked}
use Rattle.source_search.proofs.kept.Kept.state.Goals as goal

pub returns : goal.returns
returns c =
    let parts = c.args.self.now.parts in
    let states = c.args.self.now.states.items in
    let is : state_of c.in-Some-2.state ≡ unpacked parts c.in-Some.packed.now =
    rw c.in-Some-2.is at c.in_ok-state.ensures.state in
    slice_get-map (unpacked parts) states c.args.place
    ∙ ap (option_map (unpacked parts)) (subst (λ xs. slice_get xs c.args.place ≡ Some c.in-Some.packed.now)
    c.deref.ensures.value
    (slice_get_read c.deref.result.now (length c.deref.result.now) c.args.place c.in-Some.packed.now refl
    c.in-Some.ensures.lookup.3.0 c.in-Some.ensures.lookup.1))
    ∙ ap Some (sym is)
