-- A fault that is passed on.
use Rattle.std.proofs.Common.{◌≡◌, Result, Ok, Err, IfErr, sym, subst}
use Rattle.std.specs.Prelude.{IsErr, IsErrAnd}
use Rattle.answers.specs.declared.explained_run.ExplainSourceFault.{ExplainSourceFault}

-- it is the same fault
pub passed : {T : Type 0} (r : Result T ExplainSourceFault) (e : ExplainSourceFault) (P : ExplainSourceFault → Type 0)
    → IsErr r × IsErrAnd r (λ x. x ≡ e) → P e → IfErr r P
passed (Ok t) e P h q = absurd h.1
passed (Err x) e P h q = subst P (sym h.1) q
