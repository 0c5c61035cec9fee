use Rattle.std.proofs.Common.{sym, subst}
use Rattle.syntax.specs.View.{option_name}
use Rattle.types.specs.Faults.{Gathers}
use Rattle.types.specs.StatementFaults.{into_faults}
use Rattle.types.proofs.Gathered.{gathers_none}
use Rattle.body_faults.proofs.names.into.Goals as goal

pub returns-in-Some : goal.returns-in-Some
returns-in-Some c = λ s h.
    subst (λ n. Gathers (into_faults s c.args.kind (option_name n)) c.args.least c.taker.result)
    (sym c.in-Some.is) (c.taker.ensures s h)

pub returns-in-None : goal.returns-in-None
returns-in-None c = λ s h.
    subst (λ n. Gathers (into_faults s c.args.kind (option_name n)) c.args.least c.args.least)
    (sym c.in-None.is) (gathers_none c.args.least)
