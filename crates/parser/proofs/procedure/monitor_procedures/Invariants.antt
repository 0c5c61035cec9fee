use Rattle.std.proofs.Common.{◌≤◌, [], ◌∷◌, length}
use Rattle.grammar.specs.Machine.{MonitorProcedures}
use Rattle.grammar.specs.Reading.{Leads}
use Rattle.token_cursor.specs.Ahead.{ahead}
use Rattle.parser.specs.Chains.{chain}
use Rattle.parser.specs.Steps.{add_monitor_procedure}
use Rattle.parser.proofs.procedure.monitor_procedures.Given as goal

abbrev pub invariant-procedures : goal.invariant-procedures
invariant-procedures l = record {
  read : Leads 0 (MonitorProcedures ∷ []) (MonitorProcedures ∷ [])
      (λ y. (chain add_monitor_procedure l.procedures.items y.0, tt)) (ahead l.fn.parser) (ahead l.parser);
  within : length (ahead l.parser) ≤ length (ahead l.fn.parser);
}

abbrev pub decreases-procedures : goal.decreases-procedures
decreases-procedures l = length (ahead l.parser)
