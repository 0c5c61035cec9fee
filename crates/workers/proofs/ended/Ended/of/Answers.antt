-- The cause is that of this worker, by the run as it is.
use Rattle.std.proofs.Common.{ℕ, subst, sym}
use Rattle.workers.specs.Endings.{HasEnded}
use Rattle.workers.specs.SharedRuns.{SharedRunView}
use Rattle.workers.proofs.ended.Ended.of.Goals as goal

pub invariant_of-result : goal.invariant_of-result
invariant_of-result g c =
    let p = g.J.RunName.program in
    let limit = g.J.RunName.limit in
    let of_thread = subst (λ (t : ℕ). HasEnded p limit c.args.run.now t) (sym c.thread.ensures.value) c.requires in
    subst (λ (d : SharedRunView). HasEnded p limit d c.thread.result) (sym c.of.ensures) of_thread
