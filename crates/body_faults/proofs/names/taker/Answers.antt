use Rattle.std.proofs.Common.{sym, subst, ap, ◌∙◌, slice_get}
use Rattle.scanner.specs.declared.refusal.RefusalKind.TheVariants.{TypeMismatch}
use Rattle.syntax.specs.View.{name_of}
use Rattle.types.specs.Faults.{Gathers, where_true}
use Rattle.types.specs.StatementFaults.{slot_faults}
use Rattle.types.specs.Typing.{differ}
use Rattle.body_faults.proofs.names.taker.Goals as goal

pub returns-in-Some : goal.returns-in-Some
returns-in-Some c = λ s h.
    subst (λ o. Gathers (slot_faults s c.args.kind (name_of c.args.name) o) c.args.least c.note_where.result)
    (sym c.in-Some.is ∙ c.find.ensures _ h.0.0)
    (subst (λ k. Gathers (where_true (differ c.args.kind k) TypeMismatch c.args.name.place) c.args.least
    c.note_where.result) (c.slot_kind.ensures ∙ ap (λ ks. slice_get ks c.in-Some.slot) h.0.1)
    (subst (λ b. Gathers (where_true b TypeMismatch c.args.name.place) c.args.least c.note_where.result)
    c.differ-test.ensures c.note_where.ensures))

pub returns-in-None : goal.returns-in-None
returns-in-None c = λ s h.
    subst (λ o. Gathers (slot_faults s c.args.kind (name_of c.args.name) o) c.args.least c.note.result)
    (sym c.in-None.is ∙ c.find.ensures _ h.0.0) c.note.ensures
