use Rattle.std.proofs.Common.{◌≡◌, ◌++◌, drop, map}
use Rattle.program.specs.Views.{expression_of}
use Rattle.lowering.specs.Expressions.{arguments_code}
use Rattle.codegen.specs.Sites.{said_at}
use Rattle.codegen.proofs.expression.arguments.Given as goal

abbrev pub invariant-loop-e : goal.invariant-loop-e
invariant-loop-e l = let p = said_at l.site in
    l.code.items ++ arguments_code p (map expression_of (drop l.e-index l.es))
    ≡ l.fn.code.items ++ arguments_code p (map expression_of l.es)
