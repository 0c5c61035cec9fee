use Rattle.std.proofs.Common.{◌≤◌, [], ◌∷◌, length}
use Rattle.grammar.specs.Machine.{Locals}
use Rattle.grammar.specs.Reading.{Leads}
use Rattle.token_cursor.specs.Ahead.{ahead}
use Rattle.parser.specs.Chains.{chain}
use Rattle.parser.specs.Steps.{add_local}
use Rattle.parser.proofs.declaration.locals.Given as goal

abbrev pub invariant-locals : goal.invariant-locals
invariant-locals l = record {
  read : Leads 0 (Locals ∷ []) (Locals ∷ []) (λ y. (chain add_local l.locals.items y.0, tt)) (ahead l.fn.parser)
      (ahead l.parser);
  within : length (ahead l.parser) ≤ length (ahead l.fn.parser);
}

abbrev pub decreases-locals : goal.decreases-locals
decreases-locals l = length (ahead l.parser)
