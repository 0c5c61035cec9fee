use Rattle.std.proofs.Common.{◌⊎◌, inl, inr}
use Rattle.std.proofs.KnownBytes.{Appends-nil}
use Rattle.devices.specs.Writing.{HasAll}
use Rattle.answers.specs.Answers.{HasMetFailure}
use Rattle.mesamon.proofs.Ended.{told_failed_by}
use Rattle.mesamon.proofs.commands.finish.Goals as goal

pub returns-in-Ok : goal.returns-in-Ok
returns-in-Ok g c =
    inl (c.in-Ok.ensures.put, c.asked_hints.result.now, c.asked_hints.ensures, c.tell_answer.ensures)

pub returns-in-Err : goal.returns-in-Err
returns-in-Err g c =
    let errors = c.tell_unput.new.errors in
    let (hints, unasked, told) = c.tell_unput.ensures in (
    inr (
      Appends-nil _,
      c.in-Err.ensures.failed,
      c.in-Err.failure,
      hints,
      unasked,
      told_failed_by (HasAll g.E.Write.contents c.args.errors.now errors) (HasMetFailure errors)
          (HasMetFailure c.args.output.now ⊎ HasMetFailure errors) hints c.in-Err.failure c.tell_unput.result (λ f. inr f)
          told,
    )
    )
