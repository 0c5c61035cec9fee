use Rattle.std.proofs.Common.{◌∙◌, ap, sym}
use Rattle.workers.specs.SharedRuns.{SharedRunView}
use Rattle.workers.specs.WakeReasons.{gives_up, last_event}
use Rattle.workers.proofs.Freeing.{frees_nobody}
use Rattle.workers.proofs.shared_run.SharedRun.free.Goals as goal

pub returns-then-is_empty-clause-frees : goal.returns-then-is_empty-clause-frees
returns-then-is_empty-clause-frees g c =
    frees_nobody (gives_up (last_event c.args.self.now.shared.log)) c.args.self.now
    (ap (λ (d : SharedRunView). d.waiting) (sym c.self.view_is) ∙ c.if-is_empty.ensures)
