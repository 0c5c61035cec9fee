use Rattle.std.proofs.Common.{◌≤◌, [], ◌∷◌, ◌++◌, length, map}
use Rattle.syntax.specs.View.{expression_of}
use Rattle.grammar.specs.Machine.{Arguments, MoreArguments}
use Rattle.grammar.specs.Reading.{Leads}
use Rattle.token_cursor.specs.Ahead.{ahead}
use Rattle.expression_parser.proofs.calls.arguments.Given as goal

abbrev pub invariant-more : goal.invariant-more
invariant-more l = record {
  read : Leads l.depth (Arguments ∷ []) (MoreArguments ∷ []) (λ y. (map expression_of l.arguments.items ++ y.0, tt))
      (ahead l.fn.parser) (ahead l.parser);
  within : length (ahead l.parser) ≤ length (ahead l.fn.parser);
}

abbrev pub decreases-more : goal.decreases-more
decreases-more l = length (ahead l.parser)
