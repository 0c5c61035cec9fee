use Rattle.image_states.specs.Nexts.{may_of}
use Rattle.image_search.specs.Kept.{states_of}
use Rattle.image_search.proofs.Slept.{complete_still, never_so}
use Rattle.image_search.proofs.sleeping.sleeping_of.Goals as goal

pub returns-then-branch : goal.returns-then-branch
returns-then-branch c =
    let p = c.args.image.now in
    let may = may_of c.args.outside in
    let kept = c.wakened_at_once.new.kept in
    record {
      told = never_so p kept.parts.alone may (states_of p kept)
          (complete_still p may c.args.kept.now kept c.requires.sound c.in_ok-wakened_at_once.ensures.still
          c.requires.complete)
          (c.in_ok-wakened_at_once.ensures.wakened c.if-branch.true);
    }

pub told_again-requires-clause-complete : goal.told_again-requires-clause-complete
told_again-requires-clause-complete c =
    complete_still c.args.image.now (may_of c.args.outside) c.args.kept.now c.wakened_at_once.new.kept c.requires.sound
    c.in_ok-wakened_at_once.ensures.still c.requires.complete
