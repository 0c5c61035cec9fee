use Rattle.std.proofs.Common.{None, sym, subst}
use Rattle.types.specs.CallFaults.{return_faults}
use Rattle.types.specs.Faults.{Gathers}
use Rattle.types.proofs.Gathered.{gathers_none}
use Rattle.body_faults.proofs.simple.no_value.Goals as goal

pub returns-in-Some : goal.returns-in-Some
returns-in-Some c = λ s.
    subst (λ r. Gathers (return_faults s c.args.place r None) c.args.least c.note.result) (sym c.in-Some.is)
    c.note.ensures

pub returns-in-None : goal.returns-in-None
returns-in-None c = λ s.
    subst (λ r. Gathers (return_faults s c.args.place r None) c.args.least c.args.least) (sym c.in-None.is)
    (gathers_none c.args.least)
