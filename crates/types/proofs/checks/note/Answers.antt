use Rattle.std.proofs.Common.{◌++◌, Some, sym, subst}
use Rattle.types.specs.Faults.{faults_of, IsLeastOf}
use Rattle.types.proofs.Gathered.{gathers_none}
use Rattle.types.proofs.checks.note.Goals as goal

pub returns-in-Some : goal.returns-in-Some
returns-in-Some c es h = subst (λ k. IsLeastOf (es ++ faults_of k c.args.place) (Some c.lesser.result))
    (sym c.in-Some.is) (c.lesser.ensures es h)

pub returns-in-None : goal.returns-in-None
returns-in-None c es h = subst (λ k. IsLeastOf (es ++ faults_of k c.args.place) c.args.least)
    (sym c.in-None.is) (gathers_none c.args.least es h)
