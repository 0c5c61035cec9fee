use Rattle.std.proofs.Common.{ℕ, List, slice_get, ap, sym, ◌∙◌}
use Rattle.std.specs.Prelude.{Vec}
use Rattle.std.specs.Global.{Global}
use Rattle.image_states.specs.Stores.{IsStored}
use Rattle.image_states.proofs.Growing.{grown_none, grown_twice, same_stored}
use Rattle.image_states.proofs.Storing.{has_number, stored_behind, stored_there}
use Rattle.image_states.proofs.parts.Parts.stored_at.Goals as goal

pub returns-then-before-v-clause-grown : goal.returns-then-before-v-clause-grown
returns-then-before-v-clause-grown c = grown_none c.args.self.now

pub returns-then-before-v-clause-there : goal.returns-then-before-v-clause-there
returns-then-before-v-clause-there c =
    same_stored c.args.self.now.memories.items c.args.number c.args.a.0 c.args.v c.requires.lies
    (sym c.if-before-v.true ∙ c.requires.before)

pub returns-in-Some-clause-grown : goal.returns-in-Some-clause-grown
returns-in-Some-clause-grown c = grown_none c.args.self.now

pub returns-in-Some-clause-there : goal.returns-in-Some-clause-there
returns-in-Some-clause-there c =
    let is : IsStored c.args.self.now.memories.items c.args.number c.args.a.0 c.args.v c.in-Some.found =
    rw c.in-Some.is at c.stored_before.ensures in
    stored_there c.args.self.now.memories.items c.args.number c.args.a.0 c.args.v c.in-Some.found is

pub store-requires : goal.store-requires
store-requires c = has_number c.args.self.now.memories.items c.args.number c.args.a.0 c.requires.lies

pub note_store-requires : goal.note_store-requires
note_store-requires c =
    stored_behind c.args.self.now c.store.new.self c.in_ok-store.ensures.grown c.args.number c.args.a.0 c.args.v
    c.in-Some-2.after c.requires.lies (rw c.in-Some-2.is at c.in_ok-store.ensures.there)

pub returns-in_ok-note_store-in-Some-2-clause-grown : goal.returns-in_ok-note_store-in-Some-2-clause-grown
returns-in_ok-note_store-in-Some-2-clause-grown c =
    grown_twice c.args.self.now c.store.new.self c.note_store.new.self c.in_ok-store.ensures.grown
    c.in_ok-note_store-in-Some-2.ensures.grown

pub returns-in_ok-note_store-in-Some-2-clause-there : goal.returns-in_ok-note_store-in-Some-2-clause-there
returns-in_ok-note_store-in-Some-2-clause-there c =
    ap (λ (v : Vec (List ℕ) Global). slice_get v.items c.in-Some-2.after) c.in_ok-note_store-in-Some-2.ensures.same
    ∙ (rw c.in-Some-2.is at c.in_ok-store.ensures.there)
