-- A procedure has no more instructions than all of them.
use Rattle.std.proofs.Common.{◌≡◌, ◌<◌, ◌≤◌, ◌+◌, ℕ, zero, suc, List, [], ◌∷◌, length, map, get_or, ap, arith}
use Rattle.std.proofs.Common.{drop, drop-cons, sym, ◌∙◌}
use Rattle.program.specs.declared.unit.Procedure.{Procedure as ProcedureOf}
use Rattle.program.specs.Trees.{Program}
use Rattle.program.specs.Views.{procedure_of}
use Rattle.lowering.specs.Pieces.{unlinked_code}
use Rattle.codegen.specs.Generated.{length_of}

pub one_fits : (p : Program) (qs : List ProcedureOf) (i : ℕ) (q : ProcedureOf) → i < length qs → q ≡ get_or qs i q
    → length (unlinked_code p (procedure_of q)) ≤ length_of p (map procedure_of qs)
one_fits p [] i q lt is = absurd (omega arith)
one_fits p (x ∷ qs) zero q lt is =
    let same = ap (λ y. length (unlinked_code p (procedure_of y))) is in omega (arith, same)
one_fits p (x ∷ qs) (suc i) q lt is = let h = one_fits p qs i q (omega arith) is in omega (arith, h)

-- what is left has the instructions of the next one, and those of what is left then
pub next_counts : (p : Program) (qs : List ProcedureOf) (i : ℕ) (q : ProcedureOf) → i < length qs → q ≡ get_or qs i q
    → length_of p (map procedure_of (drop i qs))
    ≡ length (unlinked_code p (procedure_of q)) + length_of p (map procedure_of (drop (suc i) qs))
next_counts p qs i q lt is =
    ap (λ l. length_of p (map procedure_of l)) (drop-cons qs i q lt ∙ ap (λ x. x ∷ drop (suc i) qs) (sym is))
