use Rattle.answers.proofs.Told.{replay_left_as, replayed_as}
use Rattle.answers.proofs.running.replay_by.Goals as goal

pub returns-in-Schedule-clause-report : goal.returns-in-Schedule-clause-report
returns-in-Schedule-clause-report c = replayed_as _ _ _ _ _ _ c.in-Schedule.is c.replay_schedule.ensures.report

pub returns-in-Log-clause-report : goal.returns-in-Log-clause-report
returns-in-Log-clause-report c = replayed_as _ _ _ _ _ _ c.in-Log.is c.replay_log.ensures.report

pub returns-in-Schedule-clause-left : goal.returns-in-Schedule-clause-left
returns-in-Schedule-clause-left c = replay_left_as _ _ _ _ _ _ c.in-Schedule.is c.replay_schedule.ensures.left

pub returns-in-Log-clause-left : goal.returns-in-Log-clause-left
returns-in-Log-clause-left c = replay_left_as _ _ _ _ _ _ c.in-Log.is c.replay_log.ensures.left
