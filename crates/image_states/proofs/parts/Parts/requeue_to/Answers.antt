use Rattle.std.proofs.Common.{◌≡◌, ◌<◌, ◌≤◌, ◌+◌, ◌∙◌, Some, ap, arith, length, refl, subst, suc, sym}
use Rattle.std.proofs.lemmas.Option.{IfSome_then, same_Some}
use Rattle.std.proofs.lemmas.Result.{IfOk-weaker}
use Rattle.machine.proofs.Steps.{can_answer}
use Rattle.buckets.specs.Places.{with_place}
use Rattle.locals.specs.declared.request.NextStep.TheVariants as step
use Rattle.locals.specs.Looks.{look}
use Rattle.locals.specs.Requests.{after_answer, next_step_of}
use Rattle.image_states.specs.Choosing.{AreChosen}
use Rattle.image_states.specs.Nexts.{ReachesAt}
use Rattle.image_states.specs.Packed.{asleep_at, place_of, thread_at, words_in}
use Rattle.image_states.proofs.Choosing.{are_chosen}
use Rattle.image_states.proofs.Growing.{stands_still}
use Rattle.image_states.proofs.Crowds.{among_why, mid_why, no_more_sleepers}
use Rattle.image_states.proofs.Requeued.{some_within}
use Rattle.image_states.proofs.Results.{if_both}
use Rattle.image_states.proofs.Within.{places_few, is_there}
use Rattle.image_states.proofs.parts.Parts.requeue_to.Goals as goal

pub go_on-requires : goal.go_on-requires
go_on-requires c =
    let there : thread_at c.args.self.now.locals.items c.args.packed.now.parts.items (suc c.args.k) ≡ Some c.in-Some.local.now =
    rw c.in-Some.is at c.thread.ensures.some in
    let told : next_step_of (look c.args.image.now c.args.t c.look_at.new.self.here) ≡ step.Shared c.args.request =
    ap (λ z. next_step_of (look c.args.image.now c.args.t z)) c.look_at.ensures
    ∙ c.requires.asks c.in-Some.local.now
    (ap (thread_at c.args.self.now.locals.items c.args.packed.now.parts.items) c.requires.number ∙ there) in
    can_answer (look c.args.image.now c.args.t c.look_at.new.self.here) c.number_of-answer.result c.args.request told

pub returns-clause-done : goal.returns-clause-done
returns-clause-done c =
    let p = c.args.image.now in
    let mid = c.args.mid.now in
    let new = c.stand_waking.new.self in
    let found = c.stand_waking.new.found.items in
    let there : thread_at c.args.self.now.locals.items c.args.packed.now.parts.items (suc c.args.k) ≡ Some c.in-Some.local.now =
    rw c.in-Some.is at c.thread.ensures.some in
    let answer : c.number_of-answer.result ≡ c.args.size + c.chosen_of-moved.result = c.number_of-answer.ensures in
    let place : place_of (c.args.to.0 + 1) ≡ Some c.args.to.0 =
    (let e : c.args.to.0 + 1 ≡ suc c.args.to.0 = omega arith in ap place_of e) in
    if_both c.stand_waking.result _ _ _ c.stand_waking.ensures.more c.stand_waking.ensures.reaches
    (λ m o r none here stands moved choice.
    let same : c.look_at.new.self.here ≡ here = c.look_at.ensures ∙ same_Some c.in-Some.local.now here
    (sym (ap (thread_at c.args.self.now.locals.items c.args.packed.now.parts.items) c.requires.number ∙ there)
    ∙ sym (stands_still c.args.self.now new m.parts c.args.packed.now c.requires.within c.args.t) ∙ stands) in
    let chosen : AreChosen mid.places.items (suc c.args.from.0) c.chosen_of-moved.result moved =
    subst (λ n. AreChosen mid.places.items (suc c.args.from.0) n moved) (sym c.chosen_of-moved.ensures.is)
    (are_chosen mid.places.items (suc c.args.from.0) c.args.from.0 c.args.most c.args.sleepers.now moved c.requires.sleepers
    refl choice) in
    let after : c.go_on.new.self ≡ after_answer (look p c.args.t here) (c.args.size + length moved) here =
    c.go_on.ensures ∙ ap (λ z. after_answer (look p c.args.t z) c.number_of-answer.result z) same
    ∙ ap (λ n. after_answer (look p c.args.t here) n here)
    (answer ∙ ap (λ n. c.args.size + n) (sym chosen.size)) in
    subst (λ z. ReachesAt p new mid found c.args.t (words_in new.memories.items mid.memory)
    (with_place (asleep_at mid.places.items) moved (Some c.args.to.0)) z) after
    (subst (λ q. ReachesAt p new mid found c.args.t (words_in new.memories.items mid.memory)
    (with_place (asleep_at mid.places.items) moved q) c.go_on.new.self) place
    (r none (suc c.args.from.0) c.requires.sleepers moved chosen)))

pub number_of-answer-requires : goal.number_of-answer-requires
number_of-answer-requires c =
    let mid = c.args.mid.now in
    let within = some_within c.args.self.now c.args.packed.now mid c.requires.mid c.requires.within in
    let less : length c.args.sleepers.now ≤ length mid.places.items =
    no_more_sleepers mid.places.items c.args.from.0 c.args.sleepers.now c.requires.sleepers in
    let few : length mid.places.items ≤ 1000 = places_few c.args.self.now mid within in
    (c.requires.size, omega (arith, less, few, c.chosen_of-moved.ensures.few))

pub stand_waking-requires-clause-made : goal.stand_waking-requires-clause-made
stand_waking-requires-clause-made c = subst (λ ns. c.args.k < length ns) (sym (c.requires.mid.1).parts) c.requires.made

pub stand_waking-requires-clause-within : goal.stand_waking-requires-clause-within
stand_waking-requires-clause-within c =
    some_within c.args.self.now c.args.packed.now c.args.mid.now c.requires.mid c.requires.within

pub stand_waking-requires-clause-memory : goal.stand_waking-requires-clause-memory
stand_waking-requires-clause-memory c =
    (some_within c.args.self.now c.args.packed.now c.args.mid.now c.requires.mid c.requires.within).memory

pub stand_waking-requires-clause-threads : goal.stand_waking-requires-clause-threads
stand_waking-requires-clause-threads c = (c.requires.sleepers).threads

pub returns-clause-why : goal.returns-clause-why
returns-clause-why c = IfOk-weaker c.stand_waking.result _ _ (λ o h. IfSome_then o h (λ why is.
    mid_why c.stand_waking.new.self c.args.packed.now c.args.mid.now c.requires.mid why
    (among_why c.stand_waking.new.self c.args.mid.now c.args.from.0 c.args.sleepers.now c.requires.sleepers why is)))
    c.stand_waking.ensures.why

pub unreachable-requires : goal.unreachable-requires
unreachable-requires c =
    is_there c.args.self.now c.args.packed.now c.requires.within c.args.k c.requires.made
    (rw c.in-None.is at c.thread.ensures.none)
