use Rattle.std.proofs.Common.{sym, subst, ◌∙◌}
use Rattle.syntax.specs.Whole.{unit_of}
use Rattle.program.specs.WellFormed.{WellFormed}
use Rattle.types.specs.Verdicts.{IsVerdict}
use Rattle.resolver.proofs.CleanBodies.{clean_bodies}
use Rattle.checker.proofs.checking.check.Goals as goal

pub first_fault-requires-clause-clean : goal.first_fault-requires-clause-clean
first_fault-requires-clause-clean c = λ clean.
    clean_bodies (unit_of c.args.unit.now) (sym c.in_ok-program.ensures.clean ∙ clean)

pub new-requires-2 : goal.new-requires-2
new-requires-2 c =
    subst WellFormed (sym c.in_ok-program.ensures.program)
    (c.faultless_units_are_well_formed.ensures (unit_of c.args.unit.now) c.requires.numbers c.args.unit.now.within
    (subst (IsVerdict (unit_of c.args.unit.now)) c.in_default.is c.in_ok-fault.ensures))
