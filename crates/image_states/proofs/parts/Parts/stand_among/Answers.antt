use Rattle.image_states.proofs.Crowds.{among_why}
use Rattle.std.proofs.lemmas.Option.{IfSome_then}
use Rattle.std.proofs.Common.{refl, subst, suc, sym}
use Rattle.std.proofs.lemmas.Result.{IfOk-weaker}
use Rattle.image_states.specs.Choosing.{AreChosen}
use Rattle.image_states.specs.Nexts.{ReachesAt}
use Rattle.image_states.specs.Packed.{words_in}
use Rattle.image_states.proofs.Choosing.{are_chosen}
use Rattle.image_states.proofs.parts.Parts.stand_among.Goals as goal

pub returns-clause-reaches : goal.returns-clause-reaches
returns-clause-reaches c =
    let places = c.args.packed.now.places.items in
    let sleepers = c.args.sleepers.now in
    IfOk-weaker c.stand_waking.result _ _ (λ o r none woken after wakes.
    let chosen : AreChosen places (suc c.args.a.0) c.chosen_of-size.result woken =
    subst (λ n. AreChosen places (suc c.args.a.0) n woken) (sym c.chosen_of-size.ensures.is)
    (are_chosen places (suc c.args.a.0) c.args.a.0 1 sleepers woken c.requires.sleepers refl wakes.choice) in
    subst (λ f. ReachesAt c.args.image.now c.stand_waking.new.self c.args.packed.now c.stand_waking.new.found.items c.args.t
    (words_in c.stand_waking.new.self.memories.items c.args.memory) f c.args.scratch.now.here) (sym wakes.awake)
    (r none (suc c.args.a.0) c.requires.sleepers woken chosen)) c.stand_waking.ensures.reaches

pub stand_waking-requires-clause-threads : goal.stand_waking-requires-clause-threads
stand_waking-requires-clause-threads c = (c.requires.sleepers).threads

pub returns-clause-why : goal.returns-clause-why
returns-clause-why c =
    IfOk-weaker c.stand_waking.result _ _ (λ o h. IfSome_then o h
    (among_why c.stand_waking.new.self c.args.packed.now c.args.a.0 c.args.sleepers.now c.requires.sleepers))
    c.stand_waking.ensures.why
