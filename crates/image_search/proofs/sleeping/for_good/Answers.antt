use Rattle.image_states.specs.Nexts.{may_of}
use Rattle.image_search.specs.Sleeping.{TellsOfSleepers}
use Rattle.image_search.proofs.sleeping.for_good.Goals as goal

pub loop-place-init : goal.loop-place-init
loop-place-init c = c.requires.sound

pub for_good_at-requires : goal.for_good_at-requires
for_good_at-requires c = record { sound = c.loop-place.invariant }

pub loop-place-preserved : goal.loop-place-preserved
loop-place-preserved c = c.in_ok-told.ensures.sound

pub returns-in-Some : goal.returns-in-Some
returns-in-Some c =
    let told : TellsOfSleepers c.args.image.now (may_of c.args.outside) c.in-Some.told = rw c.in-Some.is at c.in_ok-told.ensures.told in
    record { told = told }
