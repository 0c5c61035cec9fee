use Rattle.commandline.specs.CommandLine.{version_by}
use Rattle.answers.specs.Causes.{FailsExplanation}
use Rattle.answers.proofs.Refusing.{explain_left, left_by}
use Rattle.answers.proofs.Told.{explain_left_as, explained_as}
use Rattle.answers.proofs.explaining.explain_by.Goals as goal

pub returns-in_err-explain_source-in-Order-clause-left : goal.returns-in_err-explain_source-in-Order-clause-left
returns-in_err-explain_source-in-Order-clause-left c =
    left_by _ _ _ c.from_residual.ensures
    (λ n gives. explain_left (version_by c.args.text.now.exits) c.args.text.now.bytes.now
    (FailsExplanation (version_by c.args.text.now.exits) c.args.by c.args.text.now.bytes.now c.args.second.now)
    c.in_err-explain_source-in-Order.field-0.0 n c.in_err-explain_source-in-Order.ensures.fault gives)

pub returns-in_err-explain_by_seed-in-Seed-clause-left : goal.returns-in_err-explain_by_seed-in-Seed-clause-left
returns-in_err-explain_by_seed-in-Seed-clause-left c =
    left_by _ _ _ c.from_residual-in_err-explain_by_seed-in-Seed.ensures
    (λ n gives. explain_left (version_by c.args.text.now.exits) c.args.text.now.bytes.now
    (FailsExplanation (version_by c.args.text.now.exits) c.args.by c.args.text.now.bytes.now c.args.second.now)
    c.in_err-explain_by_seed-in-Seed.field-0.0 n c.in_err-explain_by_seed-in-Seed.ensures.fault gives)

pub returns-in-Schedule-clause-run : goal.returns-in-Schedule-clause-run
returns-in-Schedule-clause-run c = explained_as _ _ _ _ _ _ c.in-Schedule.is c.explain_turns.ensures.run

pub returns-in-Log-clause-run : goal.returns-in-Log-clause-run
returns-in-Log-clause-run c = explained_as _ _ _ _ _ _ c.in-Log.is c.explain_log.ensures.run

pub returns-in-Schedule-clause-left : goal.returns-in-Schedule-clause-left
returns-in-Schedule-clause-left c = explain_left_as _ _ _ _ _ _ c.in-Schedule.is c.explain_turns.ensures.left

pub returns-in-Log-clause-left : goal.returns-in-Log-clause-left
returns-in-Log-clause-left c = explain_left_as _ _ _ _ _ _ c.in-Log.is c.explain_log.ensures.left
