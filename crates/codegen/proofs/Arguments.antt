-- Code has at least one instruction for each argument.
use Rattle.std.proofs.Common.{◌≤◌, ◌<◌, List, [], ◌∷◌, length, map, arith, length-append, ℕ, zero, suc, ◌≡◌}
use Rattle.lowering.specs.Pieces.{parameters_code}
use Rattle.program.specs.declared.expression.Expression.{Expression as ExpressionOf}
use Rattle.program.specs.Trees.{Program, Expression, Constant, Truth, Local, Member, Element, Unary, Both}
use Rattle.program.specs.Views.{expression_of}
use Rattle.lowering.specs.Expressions.{expression_code, arguments_code}

some_code : (p : Program) (e : Expression) → 0 < length (expression_code p e)
some_code p (Constant n) = omega arith
some_code p (Truth b) = omega arith
some_code p (Local slot) = omega arith
some_code p (Member m) = omega arith
some_code p (Element a e) = grind (arith, length-append)
some_code p (Unary op e) = grind (arith, length-append)
some_code p (Both op l r) = grind (arith, length-append)

pub arguments_length : (p : Program) (es : List ExpressionOf)
    → length es ≤ length (arguments_code p (map expression_of es))
arguments_length p [] = omega arith
arguments_length p (e ∷ es) =
    let h = arguments_length p es in
    let k = some_code p (expression_of e) in
    let l = length-append (expression_code p (expression_of e)) (arguments_code p (map expression_of es)) in
    omega arith

pub parameters_length : (n : ℕ) → length (parameters_code n) ≡ n
parameters_length zero = omega arith
parameters_length (suc n) = let h = parameters_length n in omega arith
