use Rattle.workers.proofs.Ending.{next_ends}
use Rattle.workers.proofs.shared_run.SharedRun.follow.Goals as goal

pub behind-requires : goal.behind-requires
behind-requires g c = λ ends.
    next_ends g.J.RunName.program g.J.RunName.limit c.args.self.now c.args.worker.now.thread c.next-after.new.piece
    c.next-after.result c.next-after.ensures ends
