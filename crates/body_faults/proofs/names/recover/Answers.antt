use Rattle.std.proofs.Common.{sym, subst, ap, ◌∙◌}
use Rattle.scanner.specs.declared.refusal.RefusalKind.TheVariants.{WrongPlace}
use Rattle.types.specs.Faults.{Gathers, where_true}
use Rattle.types.specs.StatementFaults.{is_recover}
use Rattle.body_faults.proofs.names.recover.Goals as goal

pub returns : goal.returns
returns c = λ s e. subst (λ b. Gathers (where_true b WrongPlace c.args.place) c.args.least c.note_where.result)
    (c.is_recover.ensures ∙ ap is_recover (sym e)) c.note_where.ensures
