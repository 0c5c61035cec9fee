use Rattle.std.proofs.Common.{◌≡◌, drop, map}
use Rattle.program.specs.Views.{expression_of}
use Rattle.source_sameness.proofs.expressions.same_arguments.Given as goal

abbrev pub invariant-loop-i : goal.invariant-loop-i
invariant-loop-i l =
    map expression_of (drop l.i l.a) ≡ map expression_of (drop l.i l.b)
    → map expression_of l.a ≡ map expression_of l.b
