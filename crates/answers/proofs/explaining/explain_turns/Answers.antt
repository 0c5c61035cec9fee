use Rattle.std.proofs.Common.{◌∙◌, List, subst}
use Rattle.runner.specs.declared.schedule.Turn.{Turn}
use Rattle.commandline.specs.CommandLine.{version_by}
use Rattle.compiler.specs.Accepts.{RefusesTextAs}
use Rattle.answers.specs.Causes.{FailsTextTurns}
use Rattle.answers.specs.Explaining.{IsExplanation}
use Rattle.answers.specs.Replaying.{IsReplayOfText}
use Rattle.answers.proofs.Refusing.{failure_left, left_by, replay_left_by, text_turns_unread}
use Rattle.answers.proofs.explaining.explain_turns.Goals as goal

pub returns-in_err-turns-clause-left : goal.returns-in_err-turns-clause-left
returns-in_err-turns-clause-left c =
    let v = version_by c.args.text.now.exits in
    let text = c.args.text.now.bytes.now in
    let schedule = c.args.schedule.now in
    left_by _ _ _ c.from_residual.ensures
    (λ n gives. failure_left (RefusesTextAs v text) (λ e. ⊥) (FailsTextTurns v text schedule) n c.in_err-turns.field-0.0 gives
    (text_turns_unread v text schedule c.in_err-turns.field-0.0 c.in_err-turns.ensures.failed))

pub returns-in-Ok-clause-run : goal.returns-in-Ok-clause-run
returns-in-Ok-clause-run c =
    let text = c.args.text.now.bytes.now in
    let v = version_by c.args.text.now.exits in
    subst (λ (turns : List Turn). IsExplanation v text (IsReplayOfText v text turns) c.in-Ok.run')
    (c.as_slice.ensures.value ∙ c.in_ok-turns.ensures.turns) c.in-Ok.ensures.explained

pub returns-clause-left : goal.returns-clause-left
returns-clause-left c =
    replay_left_by (version_by c.args.text.now.exits) c.args.text.now.bytes.now c.args.schedule.now c.as_slice.result.now
    c.in-Err.fault c.told_turn.result (c.as_slice.ensures.value ∙ c.in_ok-turns.ensures.turns) c.in-Err.ensures.fault
    c.told_turn.ensures
