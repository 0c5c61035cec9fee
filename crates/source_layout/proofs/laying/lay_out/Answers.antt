use Rattle.std.proofs.lemmas.Result.{err_from_is_err_and}
use Rattle.source_layout.proofs.laying.lay_out.Goals as goal

pub returns-in_err-tokens-clause-only : goal.returns-in_err-tokens-clause-only
returns-in_err-tokens-clause-only c = λ ts is.
    let p = err_from_is_err_and c.from_residual.result c.from_residual.ensures.1 in
    rw (p.1, p.2) (c.in_err-tokens.ensures.only ts is)
