use Rattle.std.proofs.Common.{◌∙◌, inl, inr, sym}
use Rattle.std.proofs.KnownBytes.{Appends-nil}
use Rattle.mesamon.proofs.Answered.{has_workers, told_answer, told_left, told_usage}
use Rattle.mesamon.proofs.commands.perform_job.Goals as goal

pub do_job-done-requires-after_bounds : goal.do_job-done-requires-after_bounds
do_job-done-requires-after_bounds g c κs within = has_workers c.requires.0 c.args.job c.requires.1

pub returns-then-overwrites : goal.returns-then-overwrites
returns-then-overwrites g c ws asks =
    told_usage ws _ _ _ c.tell.result (λ f. inr f) (Appends-nil _)
    (inr (c.args.job, asks, sym c.overwrites.ensures ∙ c.if-overwrites.true)) c.tell.ensures

pub returns-in-Ok : goal.returns-in-Ok
returns-in-Ok g c ws asks =
    let done = rw c.in-Ok.is at c.do_job-done.ensures.done in
    told_answer ws _ c.args.job _ _ c.finish.result asks (sym c.overwrites.ensures ∙ c.if-overwrites.false) done
    c.asks_for_hints-asked.ensures c.finish.ensures

pub returns : goal.returns
returns g c ws asks =
    let left = rw c.in-Err.is at c.do_job-done.ensures.left in
    told_left ws _ _ c.args.job _ c.asked_hints.result.now c.tell_left.result (λ f. inr f) (Appends-nil _) asks
    (sym c.overwrites.ensures ∙ c.if-overwrites.false) left
    (λ e. c.asked_hints.ensures (c.asks_for_hints-asked.ensures ∙ e)) c.tell_left.ensures
