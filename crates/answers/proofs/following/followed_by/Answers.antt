use Rattle.answers.proofs.Told.{follow_left_as, followed_as}
use Rattle.answers.proofs.following.followed_by.Goals as goal

pub returns-in-Schedule-clause-report : goal.returns-in-Schedule-clause-report
returns-in-Schedule-clause-report c = followed_as _ _ _ _ _ c.in-Schedule.is c.followed.ensures.report

pub returns-in-Log-clause-report : goal.returns-in-Log-clause-report
returns-in-Log-clause-report c = followed_as _ _ _ _ _ c.in-Log.is c.followed_by_lines.ensures.report

pub returns-in-Schedule-clause-left : goal.returns-in-Schedule-clause-left
returns-in-Schedule-clause-left c = follow_left_as _ _ _ _ _ c.in-Schedule.is c.followed.ensures.left

pub returns-in-Log-clause-left : goal.returns-in-Log-clause-left
returns-in-Log-clause-left c = follow_left_as _ _ _ _ _ c.in-Log.is c.followed_by_lines.ensures.left
