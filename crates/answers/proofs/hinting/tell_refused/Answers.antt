use Rattle.std.proofs.Common.{string_bytes}
use Rattle.answers.proofs.Hinted.{hinted}
use Rattle.answers.proofs.hinting.tell_refused.Goals as goal

pub returns : goal.returns
returns c =
    hinted (λ s. string_bytes s) c.hints_of.result _ _ _ c.if-not-text.false c.hints_of.ensures c.append_told.ensures
