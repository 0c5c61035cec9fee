use Rattle.std.proofs.Common.{◌∙◌, List, Some, subst}
use Rattle.runner.specs.declared.schedule.Turn.{Turn}
use Rattle.schedules.specs.Shrinking.{IsShrunk}
use Rattle.commandline.specs.CommandLine.{version_by}
use Rattle.compiler.specs.Accepts.{RefusesTextAs}
use Rattle.answers.specs.Answers.{TellsAlone}
use Rattle.answers.specs.Causes.{FailsShrinking}
use Rattle.answers.specs.ScheduleText.{schedule_text}
use Rattle.answers.specs.Shrinking.{shrunk_lines}
use Rattle.answers.proofs.Refusing.{failure_left, left_by, refused_by, shrink_left, shrink_unread}
use Rattle.answers.proofs.Told.{no_memory, ok_so}
use Rattle.answers.proofs.shrinking.answer_shrink.Goals as goal

pub returns-in_err-turns-clause-left : goal.returns-in_err-turns-clause-left
returns-in_err-turns-clause-left c =
    let v = version_by c.args.text.now.exits in
    let text = c.args.text.now.bytes.now in
    let second = c.args.second.now in
    left_by _ _ _ c.from_residual.ensures
    (λ n gives. failure_left (RefusesTextAs v text) (λ e. ⊥) (FailsShrinking v text second) n c.in_err-turns.field-0.0 gives
    (shrink_unread v text second c.in_err-turns.field-0.0 c.in_err-turns.ensures.failed))

pub returns-in_err-image-clause-left : goal.returns-in_err-image-clause-left
returns-in_err-image-clause-left c =
    let v = version_by c.args.text.now.exits in
    let text = c.args.text.now.bytes.now in
    left_by _ _ _ c.from_residual-in_err-image.ensures
    (λ n gives. refused_by (RefusesTextAs v text) (λ e. ⊥) (FailsShrinking v text c.args.second.now)
    c.in_err-image.field-0.0 n c.in_err-image.ensures.refusal gives)

pub returns-in-Ok-clause-done : goal.returns-in-Ok-clause-done
returns-in-Ok-clause-done c =
    let same = c.as_slice-given.ensures.value ∙ c.in_ok-turns.ensures.turns in
    let shrunk = c.in-Ok.shrunk in
    ok_so c.shrunk_answer.result _ _
    (λ a tells. record {
      image = c.in_ok-image.image;
      compiled = c.in_ok-image.ensures.accepted;
      schedule = shrunk;
      shrunk = subst (λ (ts : List Turn). IsShrunk c.in_ok-image.image ts shrunk) same c.in-Ok.ensures;
      tells = subst
          (λ (ts : List Turn). TellsAlone (shrunk_lines ts shrunk) (Some (c.args.out, schedule_text shrunk.turns.items)) a)
          same tells;
    }) c.shrunk_answer.ensures.told

pub returns-in-Ok-clause-left : goal.returns-in-Ok-clause-left
returns-in-Ok-clause-left c = no_memory c.shrunk_answer.result _ _ _ c.shrunk_answer.ensures.failed

pub returns-clause-left : goal.returns-clause-left
returns-clause-left c =
    shrink_left (version_by c.args.text.now.exits) c.args.text.now.bytes.now c.in_ok-image.image
    c.in_ok-image.ensures.accepted c.args.second.now c.as_slice-given.result.now c.in-Err.fault c.told_fault.result
    (c.as_slice-given.ensures.value ∙ c.in_ok-turns.ensures.turns) c.in-Err.ensures c.told_fault.ensures
