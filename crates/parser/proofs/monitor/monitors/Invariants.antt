use Rattle.std.proofs.Common.{◌≤◌, [], ◌∷◌, length}
use Rattle.grammar.specs.Machine.{Monitors}
use Rattle.grammar.specs.Reading.{Leads}
use Rattle.token_cursor.specs.Ahead.{ahead}
use Rattle.parser.specs.Chains.{chain}
use Rattle.parser.specs.Steps.{add_monitor}
use Rattle.parser.proofs.monitor.monitors.Given as goal

abbrev pub invariant-monitors : goal.invariant-monitors
invariant-monitors l = record {
  read : Leads 0 (Monitors ∷ []) (Monitors ∷ []) (λ y. (chain add_monitor l.monitors.items y.0, tt))
      (ahead l.fn.parser) (ahead l.parser);
  within : length (ahead l.parser) ≤ length (ahead l.fn.parser);
}

abbrev pub decreases-monitors : goal.decreases-monitors
decreases-monitors l = length (ahead l.parser)
