use Rattle.std.proofs.Common.{◌≤◌, [], ◌∷◌, length}
use Rattle.grammar.specs.Machine.{Parameters, MoreParameters}
use Rattle.grammar.specs.Reading.{Leads}
use Rattle.token_cursor.specs.Ahead.{ahead}
use Rattle.parser.specs.Chains.{chain}
use Rattle.parser.specs.Steps.{add_parameter}
use Rattle.parser.proofs.declaration.parameters.Given as goal

abbrev pub invariant-parameters : goal.invariant-parameters
invariant-parameters l = record {
  read : Leads 0 (Parameters ∷ []) (MoreParameters ∷ []) (λ y. (chain add_parameter l.parameters.items y.0, tt))
      (ahead l.fn.parser) (ahead l.parser);
  within : length (ahead l.parser) ≤ length (ahead l.fn.parser);
}

abbrev pub decreases-parameters : goal.decreases-parameters
decreases-parameters l = length (ahead l.parser)
