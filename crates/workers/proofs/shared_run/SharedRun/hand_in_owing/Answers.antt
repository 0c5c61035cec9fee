-- That nobody is left to be called of those who waited changes nothing of the run.
use Rattle.std.proofs.Common.{subst, sym}
use Rattle.workers.specs.BucketWaiters.{nobody}
use Rattle.workers.specs.Endings.{HasEnded}
use Rattle.workers.specs.Owning.{MayGoAlone}
use Rattle.workers.specs.SharedRuns.{SharedRunView}
use Rattle.workers.proofs.Ending.{handed_ends}
use Rattle.workers.proofs.shared_run.SharedRun.hand_in_owing.Goals as goal

pub returns-clause-ends : goal.returns-clause-ends
returns-clause-ends g c = λ ends.
    let p = g.J.RunName.program in
    let limit = g.J.RunName.limit in
    let t = c.args.worker.now.thread in
    let handed = c.hand_in-after in
    let pieces = c.args.turns.now.pieces.items in
    let told : SharedRunView = record handed.new.self { freed = nobody } in
    subst (λ (d : SharedRunView). HasEnded p limit d t) (sym {b = told} c.take_freed.ensures.1)
    (handed_ends p limit c.args.self.now handed.new.self t c.args.turns.now.taken pieces handed.new.turns.pieces.items
    c.args.share.now handed.new.share handed.result c.requires handed.ensures.goes_on ends)

pub returns-clause-own : goal.returns-clause-own
returns-clause-own g c =
    let p = g.J.RunName.program in
    let limit = g.J.RunName.limit in
    let t = c.args.worker.now.thread in
    let own = c.hand_in-after.ensures.own in
    let told : SharedRunView = record c.hand_in-after.new.self { freed = nobody } in
    record {
      mid = own.mid;
      own = own.own;
      alone = subst (λ (d : SharedRunView). MayGoAlone p limit t own.mid d) (sym {b = told} c.take_freed.ensures.1)
          own.alone;
    }
