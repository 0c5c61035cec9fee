use Rattle.image_states.specs.Nexts.{may_of}
use Rattle.image_search.specs.Kept.{states_of}
use Rattle.image_search.proofs.Slept.{complete_still, never_so}
use Rattle.image_search.proofs.sleeping.told_by.Goals as goal

pub returns-then-branch : goal.returns-then-branch
returns-then-branch c =
    let p = c.args.image.now in
    let may = may_of c.args.outside in
    let kept = c.all_wakened.new.kept in
    record {
      told = never_so p kept.parts.alone may (states_of p kept)
          (complete_still p may c.args.kept.now kept c.requires.sound c.in_ok-all_wakened.ensures.still c.requires.complete)
          (c.in_ok-all_wakened.ensures.wakened c.if-branch.true);
    }
