use Rattle.std.proofs.Common.{sym, subst}
use Rattle.scanner.specs.declared.refusal.RefusalKind.TheVariants.{Limit}
use Rattle.unit_faults.specs.Collected.{Collects, OfKind}
use Rattle.unit_faults.specs.Members.{IsNoSizeIn}
use Rattle.unit_faults.proofs.Relations.{size_of_array}
use Rattle.unit_faults.proofs.limits.size.Goals as goal

pub returns-in-Array : goal.returns-in-Array
returns-in-Array c =
    subst (λ k. Collects (OfKind Limit (IsNoSizeIn k)) c.args.least c.note_where.result) (sym c.in-Array.is)
    (size_of_array c.in-Array.number c.is_size.result c.args.least c.note_where.result c.is_size.ensures
    c.note_where.ensures)
