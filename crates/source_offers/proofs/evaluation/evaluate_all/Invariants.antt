use Rattle.std.proofs.Common.{◌≡◌, map, drop}
use Rattle.program.specs.Views.{expression_of, program_of}
use Rattle.meaning.specs.Values.{evaluate_all as evaluate_all_of}
use Rattle.source_offers.specs.Stores.{variables_of}
use Rattle.source_offers.proofs.Arguments.{append_values}
use Rattle.source_offers.proofs.evaluation.evaluate_all.Given as goal

abbrev pub invariant-loop-argument : goal.invariant-loop-argument
invariant-loop-argument l =
    evaluate_all_of (program_of l.program) (variables_of l.variables) l.locals (map expression_of l.arguments)
    ≡ append_values l.values.items (evaluate_all_of (program_of l.program) (variables_of l.variables) l.locals
    (map expression_of (drop l.argument-index l.arguments)))
