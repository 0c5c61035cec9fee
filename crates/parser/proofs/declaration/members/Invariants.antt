use Rattle.std.proofs.Common.{◌≤◌, [], ◌∷◌, length}
use Rattle.grammar.specs.Machine.{Members}
use Rattle.grammar.specs.Reading.{Leads}
use Rattle.token_cursor.specs.Ahead.{ahead}
use Rattle.parser.specs.Chains.{chain}
use Rattle.parser.specs.Steps.{add_member}
use Rattle.parser.proofs.declaration.members.Given as goal

abbrev pub invariant-members : goal.invariant-members
invariant-members l = record {
  read : Leads 0 (Members ∷ []) (Members ∷ []) (λ y. (chain add_member l.members.items y.0, tt)) (ahead l.fn.parser)
      (ahead l.parser);
  within : length (ahead l.parser) ≤ length (ahead l.fn.parser);
}

abbrev pub decreases-members : goal.decreases-members
decreases-members l = length (ahead l.parser)
