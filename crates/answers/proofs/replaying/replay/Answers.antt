use Rattle.commandline.specs.CommandLine.{version_by}
use Rattle.answers.proofs.Replays.{replayed, replay_left, replay_keeps}
use Rattle.answers.proofs.replaying.replay.Goals as goal

pub returns-clause-report : goal.returns-clause-report
returns-clause-report c =
    replayed (version_by c.args.exits) c.args.text.now c.in_ok-image.image c.args.schedule.now c.follow_compiled.result
    c.in_ok-image.ensures.accepted c.follow_compiled.ensures

pub returns-clause-fault : goal.returns-clause-fault
returns-clause-fault c =
    replay_left (version_by c.args.exits) c.args.text.now c.in_ok-image.image c.args.schedule.now c.follow_compiled.result
    c.in_ok-image.ensures.accepted c.follow_compiled.ensures

pub returns-clause-only : goal.returns-clause-only
returns-clause-only c = λ p accepts fits.
    replay_keeps c.in_ok-image.image c.args.schedule.now c.follow_compiled.result c.follow_compiled.ensures
