use Rattle.std.proofs.Common.{◌+◌, ◌++◌, ◌∷◌, [], map, drop, ap, sym, ◌∙◌, rules, w64}
use Rattle.std.proofs.lemmas.Int.{to_z-of_z}
use Rattle.program.specs.Views.{expression_of, program_of}
use Rattle.meaning.specs.Values.{Value, Fails, evaluate_all as evaluate_all_of}
use Rattle.source_offers.specs.Stores.{variables_of}
use Rattle.source_offers.proofs.Arguments.{append_values, append_values-more, next_argument}
use Rattle.source_offers.proofs.evaluation.evaluate_all.Goals as goal

pub loop-argument-preserved : goal.loop-argument-preserved
loop-argument-preserved c =
    let p = program_of c.args.program.now in
    let v = variables_of c.args.variables.now in
    let left = evaluate_all_of p v c.args.locals.now
    (map expression_of (drop (c.loop-argument.argument-index + 1) c.args.arguments.now)) in
    c.loop-argument.invariant
    ∙ ap (append_values c.loop-argument.values.items)
    (next_argument p v c.args.locals.now c.args.arguments.now c.loop-argument.argument-index c.argument-item.result
    (Value c.in-Ok.value) c.loop-argument-test.true c.argument-item.is c.in-Ok.ensures)
    ∙ append_values-more c.loop-argument.values.items c.in-Ok.value left
    ∙ ap (λ zs. append_values zs left)
    (sym (c.in_ok-push-in-Ok.ensures.items
    ∙ ap (λ z. c.loop-argument.values.items ++ z ∷ []) (to_z-of_z w64 c.in-Ok.value (search rules))))

pub returns-in-Err : goal.returns-in-Err
returns-in-Err c =
    sym (c.loop-argument.invariant
    ∙ ap (append_values c.loop-argument.values.items)
    (next_argument (program_of c.args.program.now) (variables_of c.args.variables.now) c.args.locals.now
    c.args.arguments.now c.loop-argument.argument-index c.argument-item.result (Fails c.in-Err.fault)
    c.loop-argument-test.true c.argument-item.is c.in-Err.ensures))
