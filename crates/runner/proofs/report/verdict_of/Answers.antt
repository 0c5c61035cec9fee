use Rattle.std.proofs.Common.{◌≡◌, ◌<◌, ◌≤◌, ℕ, false, length, refl, subst}
use Rattle.machine.specs.Runs.{has_ended}
use Rattle.machine.specs.States.{thread_of}
use Rattle.machine.specs.Views.{View, concrete}
use Rattle.runner.proofs.Resting.{mover_so, quiet_so}
use Rattle.runner.proofs.report.verdict_of.Goals as goal

pub returns-then-not-quiet : goal.returns-then-not-quiet
returns-then-not-quiet c =
    let e = c.if-not-quiet.ensures.value in (
      e.0,
      mover_so c.args.machine.now.view.program c.args.machine.now e.0 e.1,
    )

pub returns-else-all_ended : goal.returns-else-all_ended
returns-else-all_ended c =
    let e = subst (λ (w : View). (t : ℕ) × (0 < t) × (t ≤ length w.threads) × (has_ended (thread_of (concrete w) t) ≡ false))
    c.machine.ensures.shows c.if-all_ended.ensures in (
      quiet_so c.args.machine.now.view.program c.args.machine.now c.if-not-quiet.ensures.value
          (c.if-not-quiet.ensures.free refl),
      e.0,
      e.1,
      e.2,
      e.3,
    )
