-- What keeps accesses away is what the run says.
use Rattle.std.proofs.Common.{Bool, Result, Ok, Err, false, ◌≡◌, inr, subst}
use Rattle.std.specs.Prelude.{IfOk}
use Rattle.runner.specs.Speculations.{IsReady}
use Rattle.workers.specs.SharedRuns.{SharedRunView}
use Rattle.workers.proofs.shared_run.SharedRun.commit.Goals as goal

abbrev Away : {E : Type 0} → Result Bool E → Type 0 → Type 0
Away r P = IfOk r (λ came. came ≡ false → P)

led : {E : Type 0} (r : Result Bool E) (P Q : Type 0) → (P → Q) → Away r P → Away r Q
led (Ok came) P Q f h = λ no. f (h no)
led (Err e) P Q f h = tt

pub returns-clause-away : goal.returns-clause-away
returns-clause-away g c =
    led c.commit.result _ _
    (λ away. inr (subst (λ (x : SharedRunView). IsReady g.J.RunName.limit x.shared c.args.worker.now.thread c.args.speculation.now → ⊥)
    c.self.view_is away)) c.commit.ensures.away
