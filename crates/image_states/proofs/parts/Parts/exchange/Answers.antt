use Rattle.std.proofs.Common.{◌≡◌, Some, slice_get, slice_set, subst}
use Rattle.std.proofs.lemmas.Option.{slice_get_within}
use Rattle.locals.specs.Looks.{look}
use Rattle.locals.specs.Requests.{after_answer}
use Rattle.image_states.specs.Nexts.{ReachesAt}
use Rattle.image_states.specs.Packed.{asleep_at, words_in}
use Rattle.image_states.proofs.Growing.{grown_twice, more_grown, more_parts, within_still}
use Rattle.image_states.proofs.Results.{if_both, on_ok}
use Rattle.image_states.proofs.Stepped.{stored_words}
use Rattle.image_states.proofs.parts.Parts.exchange.Goals as goal

pub returns-in-None-clause-more : goal.returns-in-None-clause-more
returns-in-None-clause-more c =
    more_grown c.args.self.now c.stored.new.self c.args.found.now.items c.in_ok-stored.ensures.grown

pub push_answer-requires-clause-within : goal.push_answer-requires-clause-within
push_answer-requires-clause-within c =
    within_still c.args.self.now c.stored.new.self c.in_ok-stored.ensures.grown c.args.packed.now c.requires.within

pub push_answer-requires-clause-memory : goal.push_answer-requires-clause-memory
push_answer-requires-clause-memory c =
    let there : slice_get c.stored.new.self.memories.items c.in-Some.memory
    ≡ Some (slice_set (words_in c.args.self.now.memories.items c.args.packed.now.memory) c.args.a.0 c.args.v) =
    rw c.in-Some.is at c.in_ok-stored.ensures.there in
    slice_get_within c.stored.new.self.memories.items c.in-Some.memory
    (slice_set (words_in c.args.self.now.memories.items c.args.packed.now.memory) c.args.a.0 c.args.v) there

pub returns-in-Some-clause-more : goal.returns-in-Some-clause-more
returns-in-Some-clause-more c = on_ok c.push_answer.result _ _ c.push_answer.ensures.more
    (λ m. more_parts c.args.self.now c.stored.new.self c.push_answer.new.self c.args.found.now.items
    c.push_answer.new.found.items c.in_ok-stored.ensures.grown m)

pub returns-in-Some-clause-reaches : goal.returns-in-Some-clause-reaches
returns-in-Some-clause-reaches c =
    let there : slice_get c.stored.new.self.memories.items c.in-Some.memory
    ≡ Some (slice_set (words_in c.args.self.now.memories.items c.args.packed.now.memory) c.args.a.0 c.args.v) =
    rw c.in-Some.is at c.in_ok-stored.ensures.there in
    if_both c.push_answer.result _ _ _ c.push_answer.ensures.more c.push_answer.ensures.reaches (λ m o r none.
    subst (λ ws. ReachesAt c.args.image.now c.push_answer.new.self c.args.packed.now c.push_answer.new.found.items c.args.t
    ws (asleep_at c.args.packed.now.places.items)
    (after_answer (look c.args.image.now c.args.t c.args.scratch.now.here) c.args.answer c.args.scratch.now.here))
    (stored_words c.args.self.now c.stored.new.self c.push_answer.new.self c.args.packed.now c.in-Some.memory
    c.args.packed.now.memory c.args.a.0 c.args.v
    (grown_twice c.args.self.now c.stored.new.self c.push_answer.new.self c.in_ok-stored.ensures.grown m.parts) m.parts
    (c.requires.within).memory there) (r none))

pub returns-in-None-clause-why : goal.returns-in-None-clause-why
returns-in-None-clause-why c = rw c.in-None.is at c.in_ok-stored.ensures.full
