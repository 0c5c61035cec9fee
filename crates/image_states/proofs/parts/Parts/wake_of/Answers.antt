use Rattle.image_states.proofs.Crowds.{among_why}
use Rattle.std.proofs.lemmas.Result.{IfOk-weaker}
use Rattle.std.proofs.lemmas.Option.{IfSome_then}
use Rattle.std.proofs.Common.{◌≡◌, None, subst, suc}
use Rattle.machine.proofs.Steps.{can_answer}
use Rattle.buckets.specs.Places.{with_place}
use Rattle.locals.specs.declared.request.Request.TheVariants as told
use Rattle.locals.specs.Looks.{look}
use Rattle.locals.specs.Requests.{after_answer}
use Rattle.image_states.specs.Nexts.{ReachesAt}
use Rattle.image_states.specs.Packed.{asleep_at, words_in}
use Rattle.image_states.proofs.Results.{if_both}
use Rattle.image_states.proofs.Stepped.{wake_moves}
use Rattle.image_states.proofs.parts.Parts.wake_of.Goals as goal

pub go_on-requires : goal.go_on-requires
go_on-requires c = can_answer (look c.args.image.now c.args.t c.args.scratch.now.here) c.chosen_of-size.result
    (told.Wake c.args.address c.args.count) c.requires.asks

pub stand_waking-requires-clause-memory : goal.stand_waking-requires-clause-memory
stand_waking-requires-clause-memory c = (c.requires.within).memory

pub returns-clause-moves : goal.returns-clause-moves
returns-clause-moves c =
    let p = c.args.image.now in
    let here = c.args.scratch.now.here in
    let l = look p c.args.t here in
    let after : c.go_on.new.self ≡ after_answer l c.chosen_of-size.result here = c.go_on.ensures in
    if_both c.stand_waking.result _ _ _ c.stand_waking.ensures.more c.stand_waking.ensures.reaches (λ m o r none.
    wake_moves p c.args.self.now c.stand_waking.new.self c.args.packed.now c.stand_waking.new.found.items
    c.args.t here m.parts c.requires.within c.args.address c.args.count c.chosen_of-size.result c.args.sleepers.now
    c.requires.asks c.requires.sleepers c.chosen_of-size.ensures.is (λ woken chose.
    subst (λ z. ReachesAt p c.stand_waking.new.self c.args.packed.now c.stand_waking.new.found.items c.args.t
    (words_in c.stand_waking.new.self.memories.items c.args.packed.now.memory)
    (with_place (asleep_at c.args.packed.now.places.items) woken None) z) after
    (r none (suc c.args.address.0) c.requires.sleepers woken chose)))

pub stand_waking-requires-clause-threads : goal.stand_waking-requires-clause-threads
stand_waking-requires-clause-threads c = (c.requires.sleepers).threads

pub returns-clause-why : goal.returns-clause-why
returns-clause-why c =
    IfOk-weaker c.stand_waking.result _ _ (λ o h. IfSome_then o h
    (among_why c.stand_waking.new.self c.args.packed.now c.args.address.0 c.args.sleepers.now c.requires.sleepers))
    c.stand_waking.ensures.why
