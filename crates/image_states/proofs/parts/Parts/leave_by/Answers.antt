use Rattle.image_states.proofs.Within.{address_in}
use Rattle.std.proofs.Common.{subst}
use Rattle.image_states.specs.Nexts.{ReachesAt}
use Rattle.image_states.specs.Packed.{words_in, IsMarked}
use Rattle.image_states.proofs.Growing.{more_grown, more_parts, within_still}
use Rattle.image_states.proofs.Marking.{unmarked}
use Rattle.image_states.proofs.Results.{if_both, on_ok}
use Rattle.image_states.proofs.Stepped.{leaves_by}
use Rattle.image_states.proofs.parts.Parts.leave_by.Goals as goal

pub marked-requires-clause-memory : goal.marked-requires-clause-memory
marked-requires-clause-memory c = (c.requires.within).memory

pub marked-requires-clause-lies : goal.marked-requires-clause-lies
marked-requires-clause-lies c = (c.requires.lies).marks

pub returns-in_default-clause-why : goal.returns-in_default-clause-why
returns-in_default-clause-why c = rw c.in_default.is at c.in_ok-memory.ensures.full

pub stand_by-requires-clause-address : goal.stand_by-requires-clause-address
stand_by-requires-clause-address c =
    address_in c.args.self.now c.args.packed.now.memory (c.requires.within).memory c.args.plan.wakes (c.requires.lies).wakes

pub returns-in_default-clause-more : goal.returns-in_default-clause-more
returns-in_default-clause-more c =
    more_grown c.args.self.now c.marked.new.self c.args.found.now.items c.in_ok-memory.ensures.grown

pub stand_by-requires-clause-within : goal.stand_by-requires-clause-within
stand_by-requires-clause-within c =
    within_still c.args.self.now c.marked.new.self c.in_ok-memory.ensures.grown c.args.packed.now c.requires.within

pub stand_by-requires-clause-memory : goal.stand_by-requires-clause-memory
stand_by-requires-clause-memory c =
    let marked : IsMarked c.marked.new.self c.args.packed.now.memory c.args.plan.marks c.in-Some.memory =
    rw c.in-Some.is at c.in_ok-memory.ensures.marked in
    marked.within

pub returns-clause-more : goal.returns-clause-more
returns-clause-more c = on_ok c.stand_by.result _ _ c.stand_by.ensures.more
    (λ m. more_parts c.args.self.now c.marked.new.self c.stand_by.new.self c.args.found.now.items
    c.stand_by.new.found.items c.in_ok-memory.ensures.grown m)

pub returns-clause-leaves : goal.returns-clause-leaves
returns-clause-leaves c =
    let x = c.args.packed.now in
    let a = c.marked.new.self in
    let b = c.stand_by.new.self in
    let marked : IsMarked a x.memory c.args.plan.marks c.in-Some.memory =
    rw c.in-Some.is at c.in_ok-memory.ensures.marked in
    let within = within_still c.args.self.now a c.in_ok-memory.ensures.grown x c.requires.within in
    if_both c.stand_by.result _ _ _ c.stand_by.ensures.more c.stand_by.ensures.reaches (λ m o r none phase is.
    leaves_by c.args.image.now b x c.stand_by.new.found.items c.args.t phase c.args.plan c.in-Some.memory
    (unmarked a b m.parts x.memory c.in-Some.memory c.args.plan.marks within.memory marked) is
    (λ woken after wakes. subst (λ z. ReachesAt c.args.image.now b x c.stand_by.new.found.items c.args.t
    (words_in b.memories.items c.in-Some.memory) after z) c.enter_phase.ensures (r none woken after wakes)))
