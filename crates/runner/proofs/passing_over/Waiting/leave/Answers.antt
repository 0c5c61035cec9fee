use Rattle.std.proofs.Common.{◌∙◌, None, Some, ap, arith}
use Rattle.std.proofs.lemmas.Option.{slice_get-get_or}
use Rattle.runner.proofs.passing_over.Waiting.leave.Goals as goal

pub leave_set-requires-clause-noted : goal.leave_set-requires-clause-noted
leave_set-requires-clause-noted c =
    slice_get-get_or c.args.self.now.wants c.args.t None (omega arith) ∙ ap Some c.in-Some.is
