use Rattle.simulation.specs.ExplainedLog.{RefusesLogEntry}
use Rattle.simulation.specs.declared.fault.LogFault.{LogFault}
use Rattle.std.proofs.Common.{subst}
use Rattle.log_simulation.proofs.NoLog.{stops_none}
use Rattle.simulation.proofs.explaining.explain_lowered.Goals as goal

pub returns-in-Err-Entry : goal.returns-in-Err-Entry
returns-in-Err-Entry c = (
  c.requires.image,
  stops_none c.args.lowered.image c.args.log c.in-Err-Entry.field-0-0
      (subst (λ (f : LogFault). RefusesLogEntry c.args.lowered.image c.args.log f) c.in-Err-Entry.field-0-is
      c.in-Err-Entry.ensures),
)
