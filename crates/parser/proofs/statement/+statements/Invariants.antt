use Rattle.std.proofs.Common.{◌≤◌, ◌+◌, ◌*◌, [], ◌∷◌, length}
use Rattle.grammar.specs.Machine.{Statements}
use Rattle.grammar.specs.Reading.{Leads}
use Rattle.token_cursor.specs.Ahead.{ahead}
use Rattle.parser.specs.Chains.{chain}
use Rattle.parser.specs.Steps.{add_statement}
use Rattle.parser.proofs.statement.+statements.Given as goal

abbrev pub decreases-statements : goal.decreases-statements
decreases-statements l = 4 * length (ahead l.parser.now) + 3

abbrev pub decreases-statement : goal.decreases-statement
decreases-statement l = 4 * length (ahead l.parser.now) + 2

abbrev pub decreases-statement_from : goal.decreases-statement_from
decreases-statement_from l = 4 * length (ahead l.parser.now) + 1

abbrev pub decreases-if_statement : goal.decreases-if_statement
decreases-if_statement l = 4 * length (ahead l.parser.now)

abbrev pub decreases-branches : goal.decreases-branches
decreases-branches l = 4 * length (ahead l.parser.now) + 4

abbrev pub decreases-else_statements : goal.decreases-else_statements
decreases-else_statements l = 4 * length (ahead l.parser.now)

abbrev pub decreases-while_statement : goal.decreases-while_statement
decreases-while_statement l = 4 * length (ahead l.parser.now)

abbrev pub decreases-join : goal.decreases-join
decreases-join l = 4 * length (ahead l.parser.now)

abbrev pub decreases-join_parts : goal.decreases-join_parts
decreases-join_parts l = 4 * length (ahead l.parser.now) + 1

abbrev pub decreases-aborted_statements : goal.decreases-aborted_statements
decreases-aborted_statements l = 4 * length (ahead l.parser.now)

abbrev pub invariant-statements-statements : goal.invariant-statements-statements
invariant-statements-statements l = record {
  read : Leads l.depth (Statements ∷ []) (Statements ∷ []) (λ y. (chain add_statement l.statements.items y.0, tt))
      (ahead l.fn.parser) (ahead l.parser);
  within : length (ahead l.parser) ≤ length (ahead l.fn.parser);
}

abbrev pub decreases-statements-statements : goal.decreases-statements-statements
decreases-statements-statements l = length (ahead l.parser)
