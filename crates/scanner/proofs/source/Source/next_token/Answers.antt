use Rattle.std.proofs.lemmas.Result.{err_from_is_err_and}
use Rattle.scanner.proofs.Passing.{wrong_after}
use Rattle.scanner.proofs.source.Source.next_token.Goals as goal

pub returns-in_err-token-clause-wrong : goal.returns-in_err-token-clause-wrong
returns-in_err-token-clause-wrong c =
    let p = err_from_is_err_and c.from_residual-in_err-token.result c.from_residual-in_err-token.ensures.1 in
    rw (p.1, p.2) (wrong_after _ _ _ _ _ c.in_ok-front.ensures.gap c.in_err-token.ensures.wrong)
