use Rattle.std.proofs.Common.{inl, inr, map}
use Rattle.std.proofs.KnownBytes.{Appends-nil}
use Rattle.mesamon.proofs.Answered.{told_memory, told_usage}
use Rattle.mesamon.proofs.commands.perform.Goals as goal

pub perform_job-requires-after_bounds : goal.perform_job-requires-after_bounds
perform_job-requires-after_bounds g c κs within = (map (λ w. w.now) c.args.words.now, c.in-Ok.ensures.job)

pub returns-in-Ok : goal.returns-in-Ok
returns-in-Ok g c = c.perform_job.ensures (map (λ w. w.now) c.args.words.now) c.in-Ok.ensures.job

pub returns-in-Err-Usage : goal.returns-in-Err-Usage
returns-in-Err-Usage g c =
    told_usage _ _ _ _ c.tell.result (λ f. inr f) (Appends-nil _)
    (inl (λ job taken asks. let memory = c.in-Err-Usage.ensures.only job taken asks in absurd cc)) c.tell.ensures

pub returns-in-Err-Memory : goal.returns-in-Err-Memory
returns-in-Err-Memory g c =
    told_memory _ _ _ c.tell-in-Err-Memory.result (λ f. inr f) (Appends-nil _) c.tell-in-Err-Memory.ensures
