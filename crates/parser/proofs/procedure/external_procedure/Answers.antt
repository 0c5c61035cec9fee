use Rattle.std.proofs.Common.{ap, sym, ◌∙◌}
use Rattle.std.proofs.lemmas.Result.{err_from_is_err_and}
use Rattle.scanner.specs.declared.token.Keyword.TheVariants as K
use Rattle.syntax.specs.Lexeme.{WordAt}
use Rattle.syntax.specs.View.{procedure_of}
use Rattle.parser.proofs.Skips.{over, procedures_over}
use Rattle.parser.proofs.Units.{procedure_reads, procedure_fails}
use Rattle.parser.proofs.procedure.external_procedure.Goals as goal

pub returns-in_default-clause-ok : goal.returns-in_default-clause-ok
returns-in_default-clause-ok c =
    over (procedures_over _ c.in_default.ensures.0) c.in_default.ensures.1

pub returns-in_err-procedure-clause-err : goal.returns-in_err-procedure-clause-err
returns-in_err-procedure-clause-err c =
    let p = err_from_is_err_and c.from_residual.result c.from_residual.ensures.1 in
    rw (p.1, p.2) (procedure_fails c.in-Some.ensures.first c.in-Some.ensures.rest c.in_err-procedure.ensures.err)

pub returns-clause-ok : goal.returns-clause-ok
returns-clause-ok c =
    procedure_reads (procedure_of c.in_ok-procedure.procedure)
    (c.in-Some.ensures.first ∙ ap (WordAt K.Procedure) (sym c.in_ok-procedure.ensures.place))
    c.in-Some.ensures.rest c.in_ok-procedure.ensures.ok
