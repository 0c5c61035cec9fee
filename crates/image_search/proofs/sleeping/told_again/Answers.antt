use Rattle.image_states.specs.Nexts.{may_of}
use Rattle.image_search.proofs.Slept.{complete_still}
use Rattle.image_search.proofs.sleeping.told_again.Goals as goal

pub told_by-requires-clause-complete : goal.told_by-requires-clause-complete
told_by-requires-clause-complete c =
    complete_still c.args.image.now (may_of c.args.outside) c.args.kept.now c.fill.new.kept c.requires.sound
    c.in_ok-why.ensures.still c.requires.complete
