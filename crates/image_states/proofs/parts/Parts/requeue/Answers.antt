use Rattle.std.proofs.Common.{◌≡◌, ◌<◌, ◌∙◌, length, refl, subst, sym}
use Rattle.std.proofs.lemmas.Option.{same_Some}
use Rattle.locals.specs.declared.request.NextStep.TheVariants as step
use Rattle.locals.specs.Looks.{look}
use Rattle.locals.specs.Requests.{next_step_of}
use Rattle.locals.specs.declared.request.Request.TheVariants as told
use Rattle.image_states.specs.Packed.{unpacked}
use Rattle.image_states.proofs.Growing.{more_none, more_twice, stands_still, within_still, words_still}
use Rattle.image_states.proofs.Listing.{is_none}
use Rattle.image_states.proofs.Requeued.{asks_still, both_lie, requeue_moves, requeue_none, requeues_still}
use Rattle.image_states.proofs.Results.{if_both, on_ok}
use Rattle.image_states.proofs.Within.{address_few}
use Rattle.image_states.proofs.parts.Parts.requeue.Goals as goal

pub returns-then-not-lies-clause-more : goal.returns-then-not-lies-clause-more
returns-then-not-lies-clause-more c = more_none c.args.self.now c.args.found.now.items

pub returns-then-not-lies-clause-moves : goal.returns-then-not-lies-clause-moves
returns-then-not-lies-clause-moves c = λ none.
    requeue_none c.args.image.now c.args.self.now c.args.packed.now c.args.found.now.items c.args.t c.args.scratch.now.here
    c.args.from c.args.to c.args.wake c.args.moves c.args.expected c.requires.asks
    (rw c.if-not-lies.true at (c.lies.ensures (unpacked c.args.image.now c.args.self.now c.args.packed.now) refl))

pub requeue_all-requires-clause-asks : goal.requeue_all-requires-clause-asks
requeue_all-requires-clause-asks c = λ here stands.
    subst (λ z. next_step_of (look c.args.image.now c.args.t z)
    ≡ step.Shared (told.Requeue c.args.from c.args.to c.args.wake c.args.moves c.args.expected))
    (same_Some c.args.scratch.now.here here (sym c.requires.stands ∙ stands)) c.requires.asks

pub requeue_again-requires-clause-within : goal.requeue_again-requires-clause-within
requeue_again-requires-clause-within c =
    within_still c.args.self.now c.requeue_all.new.self (c.in_ok-moved.ensures.more).parts c.args.packed.now
    c.requires.within

pub requeue_again-requires-clause-asks : goal.requeue_again-requires-clause-asks
requeue_again-requires-clause-asks c =
    asks_still c.args.image.now c.args.self.now c.requeue_all.new.self (c.in_ok-moved.ensures.more).parts c.args.packed.now
    c.requires.within c.args.t (told.Requeue c.args.from c.args.to c.args.wake c.args.moves c.args.expected)
    (λ here stands. subst (λ z. next_step_of (look c.args.image.now c.args.t z)
    ≡ step.Shared (told.Requeue c.args.from c.args.to c.args.wake c.args.moves c.args.expected))
    (same_Some c.args.scratch.now.here here (sym c.requires.stands ∙ stands)) c.requires.asks)

pub returns-clause-more : goal.returns-clause-more
returns-clause-more c = on_ok c.requeue_again.result _ _ c.requeue_again.ensures.more (λ m.
    more_twice c.args.self.now c.requeue_all.new.self c.requeue_again.new.self c.args.found.now.items
    c.requeue_all.new.found.items c.requeue_again.new.found.items c.in_ok-moved.ensures.more m)

pub returns-clause-moves : goal.returns-clause-moves
returns-clause-moves c =
    let p = c.args.image.now in
    let x = c.args.packed.now in
    let a = c.args.self.now in
    let b = c.requeue_all.new.self in
    let d = c.requeue_again.new.self in
    let here = c.args.scratch.now.here in
    let within = within_still a b (c.in_ok-moved.ensures.more).parts x c.requires.within in
    let done = c.in_ok-moved.ensures.done (is_none c.in_ok-moved.moved c.is_some.result c.is_some.ensures c.if-is_some.false) in
    if_both c.requeue_again.result _ _ _ c.requeue_again.ensures.more c.requeue_again.ensures.reaches (λ m o r none.
    let stands = stands_still b d m.parts x within c.args.t
    ∙ stands_still a b (c.in_ok-moved.ensures.more).parts x c.requires.within c.args.t ∙ c.requires.stands in
    requeue_moves p d x c.requeue_again.new.found.items c.args.t here c.args.from c.args.to c.args.wake c.args.moves
    c.most_moved-most.result c.args.expected c.requires.asks stands c.most_moved-most.ensures.same
    c.most_moved-most.ensures.other
    (requeues_still p b d c.requeue_all.new.found.items c.requeue_again.new.found.items m x within c.args.t c.args.from.0
    c.args.to.0 c.args.wake c.most_moved-most.result done)
    (λ differs. r none here stands differs))

pub requeue_all-requires-clause-from : goal.requeue_all-requires-clause-from
requeue_all-requires-clause-from c =
    let lie = both_lie c.args.from.0 c.args.to.0 _
    (rw c.if-not-lies.false at (c.lies.ensures (unpacked c.args.image.now c.args.self.now c.args.packed.now) refl)) in
    address_few c.args.self.now c.args.packed.now.memory (c.requires.within).memory c.args.from.0 lie.0

pub requeue_all-requires-clause-to : goal.requeue_all-requires-clause-to
requeue_all-requires-clause-to c =
    let lie = both_lie c.args.from.0 c.args.to.0 _
    (rw c.if-not-lies.false at (c.lies.ensures (unpacked c.args.image.now c.args.self.now c.args.packed.now) refl)) in
    address_few c.args.self.now c.args.packed.now.memory (c.requires.within).memory c.args.to.0 lie.1

pub requeue_again-requires-clause-lies : goal.requeue_again-requires-clause-lies
requeue_again-requires-clause-lies c =
    let lie = both_lie c.args.from.0 c.args.to.0 _
    (rw c.if-not-lies.false at (c.lies.ensures (unpacked c.args.image.now c.args.self.now c.args.packed.now) refl)) in
    subst (λ ws. c.args.from.0 < length ws)
    (sym (words_still c.args.self.now c.requeue_all.new.self (c.in_ok-moved.ensures.more).parts c.args.packed.now.memory
    (c.requires.within).memory)) lie.0
