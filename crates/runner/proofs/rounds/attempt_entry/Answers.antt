use Rattle.std.proofs.Common.{inr, refl, subst}
use Rattle.std.proofs.lemmas.Result.{IfOk-weaker}
use Rattle.runner.specs.Attempts.{came}
use Rattle.runner.specs.Reports.{IsHeldUp}
use Rattle.runner.specs.Views.{LogState, log_state}
use Rattle.runner.proofs.Passing.{none_yet, on_any}
use Rattle.runner.proofs.rounds.attempt_entry.Goals as goal

pub returns-clause-past : goal.returns-clause-past
returns-clause-past g c =
    on_any (came c.try_on.result c.try_on.new.told)
    (none_yet g.J.RunName.program g.J.RunName.limit (log_state c.args.shared.now) (log_state c.try_on.new.self)
    c.args.refused.now c.requires.past c.if-not-has_room.ensures)

pub returns-clause-made : goal.returns-clause-made
returns-clause-made g c =
    IfOk-weaker (came c.try_on.result c.try_on.new.told) _ _ (λ a h is. (h is, c.try_on.ensures.within)) c.try_on.ensures.made

pub returns-clause-none : goal.returns-clause-none
returns-clause-none g c =
    IfOk-weaker (came c.try_on.result c.try_on.new.told) _ _ (λ a h is. ((h is).0, λ moves. inr (h is).1)) c.try_on.ensures.none

pub returns-clause-same : goal.returns-clause-same
returns-clause-same g c =
    IfOk-weaker (came c.try_on.result c.try_on.new.told) _ _ (λ a h is. refl) c.try_on.ensures.none

pub returns-clause-marks : goal.returns-clause-marks
returns-clause-marks g c =
    IfOk-weaker (came c.try_on.result c.try_on.new.told) _ _ (λ a h is moves free. inr (
      subst (λ (s : LogState). IsHeldUp g.J.RunName.program s.concrete c.args.t) (h is).0 (h is).1,
      refl,
    )) c.try_on.ensures.none
