use Rattle.commandline.specs.CommandLine.{version_by}
use Rattle.runner.specs.LogSchedules.{IsFollowedLog}
use Rattle.answers.specs.LogLimits.{HasFewSteps}
use Rattle.answers.specs.SourceLog.{FollowsNot, IsReplayOfLog, IsUnfollowedLog}
use Rattle.answers.proofs.SourceLogs.{answers_ok, answers_err, followed_log, not_followed}
use Rattle.answers.proofs.source_log.replay_log_text.Goals as goal

pub returns-clause-report : goal.returns-clause-report
returns-clause-report c =
    answers_ok c.follow_entries.result
    (λ report. IsFollowedLog c.in_ok-image.image c.iter.result report)
    (λ report. IsReplayOfLog (version_by c.args.exits) c.args.text.now c.args.lines.now report)
    (λ fault. FollowsNot c.in_ok-image.image c.iter.result fault) c.follow_entries.ensures
    (λ report followed. followed_log (version_by c.args.exits) c.args.text.now c.args.lines.now c.in_ok-image.image
    c.in_ok-entries.entries.items _ report c.in_ok-image.ensures.accepted c.in_ok-entries.ensures.0
    c.iter.ensures followed)

pub returns-clause-short : goal.returns-clause-short
returns-clause-short c =
    answers_ok c.follow_entries.result
    (λ report. IsFollowedLog c.in_ok-image.image c.iter.result report)
    (λ report. HasFewSteps c.args.lines.now c.args.most)
    (λ fault. FollowsNot c.in_ok-image.image c.iter.result fault) c.follow_entries.ensures
    (λ report followed. (c.in_ok-entries.entries.items, c.in_ok-entries.ensures.0, c.in_ok-entries.ensures.1))

pub returns-clause-fault : goal.returns-clause-fault
returns-clause-fault c =
    let compiled = c.in_ok-image.ensures.accepted in
    answers_err c.follow_entries.result
    (λ report. IsFollowedLog c.in_ok-image.image c.iter.result report)
    (λ fault. FollowsNot c.in_ok-image.image c.iter.result fault)
    (λ fault. IsUnfollowedLog (version_by c.args.exits) c.args.text.now c.args.lines.now c.args.most fault)
    c.follow_entries.ensures
    (λ fault not. (not_followed (version_by c.args.exits) c.args.text.now c.args.lines.now c.args.most
    compiled.program c.in_ok-image.image c.in_ok-entries.entries.items _ compiled.accepts compiled.code c.in_ok-entries.ensures.0 c.iter.ensures
    fault not).0)
