use Rattle.std.proofs.lemmas.Result.{IfOk-weaker}
use Rattle.image_states.specs.Nexts.{may_of}
use Rattle.image_search.proofs.Slept.{told_slept}
use Rattle.image_search.proofs.explore.sleeping_behind.Goals as goal

pub returns-then-not-is_complete : goal.returns-then-not-is_complete
returns-then-not-is_complete c = λ e. absurd (rw c.if-not-is_complete.true at c.is_complete.ensures e)

pub sleeping_of-requires-clause-complete : goal.sleeping_of-requires-clause-complete
sleeping_of-requires-clause-complete c = c.requires.complete (rw c.if-not-is_complete.false at c.is_complete.ensures)

pub returns : goal.returns
returns c = IfOk-weaker c.sleeping_of.result _ _
    (λ s is. told_slept c.args.image.now (may_of c.args.outside) c.args.ending.now s
    (rw c.if-not-is_complete.false at c.is_complete.ensures) is) c.sleeping_of.ensures.told
