use Rattle.std.proofs.Common.{subst, sym}
use Rattle.std.proofs.lemmas.Result.{IfOk-weaker}
use Rattle.image_states.specs.Exits.{WakesAt, IsAddressIn}
use Rattle.image_states.specs.Nexts.{ReachesAt}
use Rattle.image_states.specs.Packed.{asleep_at, words_in}
use Rattle.image_states.proofs.parts.Parts.stand_by.Goals as goal

pub returns-in-None-clause-reaches : goal.returns-in-None-clause-reaches
returns-in-None-clause-reaches c = IfOk-weaker c.push_leaving.result _ _ (λ o r none woken after wakes.
    let nobody = subst (λ w. WakesAt w (asleep_at c.args.packed.now.places.items) woken after) c.in-None.is wakes in
    subst (λ f. ReachesAt c.args.image.now c.push_leaving.new.self c.args.packed.now c.push_leaving.new.found.items c.args.t
    (words_in c.push_leaving.new.self.memories.items c.args.memory) f c.args.scratch.now.here) (sym nobody.1) (r none))
    c.push_leaving.ensures.reaches

pub returns-in-Some-clause-reaches : goal.returns-in-Some-clause-reaches
returns-in-Some-clause-reaches c = IfOk-weaker c.stand_one.result _ _ (λ o r none woken after wakes.
    r none woken after (subst (λ w. WakesAt w (asleep_at c.args.packed.now.places.items) woken after) c.in-Some.is wakes))
    c.stand_one.ensures.reaches

pub stand_one-requires-clause-address : goal.stand_one-requires-clause-address
stand_one-requires-clause-address c = subst (IsAddressIn 4294967295) c.in-Some.is c.requires.address
