use Rattle.std.proofs.Common.{◌≡◌, Some, drop}
use Rattle.answers.specs.Turns.{number_from}
use Rattle.answers.proofs.schedule.thread_of.Given as goal

abbrev pub invariant-loop-digit : goal.invariant-loop-digit
invariant-loop-digit l =
    number_from (Some l.number) (drop l.digit-index l.digits) ≡ number_from (Some 0) l.initial.digits
