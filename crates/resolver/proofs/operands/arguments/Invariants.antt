use Rattle.std.proofs.Common.{◌≡◌, ◌&&◌, map, take, drop}
use Rattle.program.specs.Views.{expression_of}
use Rattle.syntax.specs.View as v
use Rattle.types.specs.Scope.{Scope}
use Rattle.types.specs.Standings.{IsNameScope}
use Rattle.types.specs.Statements as st
use Rattle.resolver.specs.Clean.{is_clean}
use Rattle.resolver.proofs.Passing.{passed}
use Rattle.resolver.proofs.operands.arguments.Given as goal

-- those before are resolved, and with those that are left they are as clean as all
abbrev pub invariant-loop-number : goal.invariant-loop-number
invariant-loop-number l = (s : Scope) → IsNameScope s l.standing
    → (map expression_of l.arguments.items ≡ st.arguments s (map v.expression_of (take l.number l.trees)))
    × ((l.all_clean && is_clean (passed s (map v.expression_of (drop l.number l.trees))
    (map v.parameter_of (drop l.number l.parameters))))
    ≡ is_clean (passed s (map v.expression_of l.trees) (map v.parameter_of l.parameters)))
