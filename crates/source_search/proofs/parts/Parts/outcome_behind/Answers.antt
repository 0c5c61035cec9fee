use Rattle.std.proofs.lemmas.Option.{IfSome_then}
use Rattle.std.proofs.lemmas.Result.{IfOk-weaker}
use Rattle.source_search.proofs.parts.Parts.outcome_behind.Goals as goal

pub returns-clause-numbered : goal.returns-clause-numbered
returns-clause-numbered c =
    IfOk-weaker c.number.result _ _ (λ o h. IfSome_then o h (λ x is.
    (c.in_ok-follow_made.ensures c.if-not-branch.false, is))) c.number.ensures.numbered
