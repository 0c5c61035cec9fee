use Rattle.image_search.proofs.Flagging.{leads_of}
use Rattle.image_search.proofs.living.leads_on.Goals as goal

pub returns-clause-leads : goal.returns-clause-leads
returns-clause-leads c = λ e.
    leads_of c.args.image.now c.own_flagged.new.kept c.args.flags.now c.args.place _
    c.in_ok-own_flagged.ensures.sound (c.in_ok-own_flagged.ensures.leads c.if-not-branch.false) (c.can_go-can.ensures e)
    (c.is_apart_at.ensures.apart c.if-not-is_apart_at.false)
