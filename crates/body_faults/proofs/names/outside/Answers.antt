use Rattle.std.proofs.Common.{sym, subst, ap, ◌∙◌, not}
use Rattle.scanner.specs.declared.refusal.RefusalKind.TheVariants.{WrongPlace}
use Rattle.types.specs.Faults.{Gathers, where_true}
use Rattle.types.specs.StatementFaults.{has_monitor}
use Rattle.body_faults.proofs.names.outside.Goals as goal

pub returns : goal.returns
returns c = λ s e. subst (λ b. Gathers (where_true (not b) WrongPlace c.args.place) c.args.least c.note_where.result)
    (c.has_monitor.ensures ∙ ap has_monitor (sym e)) c.note_where.ensures
