-- What a statement that holds lists of statements says.
use Rattle.std.proofs.Common.{◌≡◌, Option, Some, None, refl, ap, Vec, Global}
use Rattle.program.specs.declared.expression.Expression.{Expression as ExpressionOf}
use Rattle.program.specs.declared.statement.Statement.{Statement as StatementOf}
use Rattle.program.specs.declared.statement.Statement as Code
use Rattle.program.specs.Trees.{If, While, Join, NoPart, SomePart}
use Rattle.program.specs.Views.{block_in, expression_of, part_in, statement_of}
use Rattle.program.proofs.Blocks.{inner_block}
use Rattle.std.proofs.Common.{ℕ}

pub if_said : (e : ExpressionOf) (v : Vec StatementOf Global) (o : Option (Vec StatementOf Global))
    → statement_of (Code.If e v o) ≡ If (expression_of e) (block_in v.items) (part_in o)
if_said e v None = ap (λ b. If (expression_of e) b NoPart) (inner_block v)
if_said e v (Some w) = λ i. If (expression_of e) (inner_block v i) (SomePart (inner_block w i))

pub while_said : (e : ExpressionOf) (v : Vec StatementOf Global)
    → statement_of (Code.While e v) ≡ While (expression_of e) (block_in v.items)
while_said e v = ap (While (expression_of e)) (inner_block v)

pub join_said : (e : ExpressionOf) (into : Option ℕ) (o : Option (Vec StatementOf Global))
    → statement_of (Code.Join e into o) ≡ Join (expression_of e) into (part_in o)
join_said e into None = refl
join_said e into (Some w) = ap (λ b. Join (expression_of e) into (SomePart b)) (inner_block w)
