use Rattle.image_search.proofs.Closed.{closed_of}
use Rattle.image_search.proofs.closing.is_closed_at.Goals as goal

pub returns-clause-closed : goal.returns-clause-closed
returns-clause-closed c = λ e.
    closed_of c.args.image.now _ c.args.kept.now c.all_flagged.new.kept c.args.flags.now c.args.place
    c.threads_at-count.result c.requires.sound c.in_ok-all_flagged.ensures.still
    (c.threads_at-count.ensures c.args.image.now) (c.in_ok-all_flagged.ensures.leads c.if-not-branch.false)
    (c.is_asleep-is.ensures e c.args.image.now) (c.is_apart_at.ensures.apart c.if-not-is_apart_at.false)
