use Rattle.std.proofs.Common.{All, subst}
use Rattle.std.proofs.lemmas.List.{take_all}
use Rattle.image_states.specs.declared.next.Next.{Next as NextOf}
use Rattle.image_search.specs.Living.{IsFlagged}
use Rattle.image_search.proofs.Flagging.{all_one_more}
use Rattle.image_search.proofs.kept.KeptStates.has_all_flagged.Goals as goal

pub loop-next-preserved : goal.loop-next-preserved
loop-next-preserved c =
    all_one_more (λ (next : NextOf). IsFlagged c.args.self.now c.args.flags.now next.state) c.args.nexts.now
    c.loop-next.next-index c.next-item.result c.loop-next-test.true c.next-item.is c.loop-next.invariant
    (c.has_flagged.ensures c.if-not-has_flagged.false)

pub returns : goal.returns
returns c = λ e. subst (All (λ (next : NextOf). IsFlagged c.args.self.now c.args.flags.now next.state))
    (take_all c.loop-next.next-index c.args.nexts.now c.loop-next-test.false) c.loop-next.invariant
