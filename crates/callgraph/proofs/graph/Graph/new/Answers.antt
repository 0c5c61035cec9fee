use Rattle.std.proofs.Common.{◌≡◌, arith, ap, slice_index_or, slice_set, [], ◌∷◌, ◌++◌, ◌∙◌, length, ◌<◌}
use Rattle.std.proofs.lemmas.List.{map-set, length-map}
use Rattle.std.proofs.lemmas.Grind.{common_steps}
use Rattle.callgraph.specs.declared.graph.Row.{Row}
use Rattle.callgraph.specs.declared.Call.{Call}
use Rattle.callgraph.specs.Graphs.{rows_of}
use Rattle.callgraph.proofs.Rows.{row_more, row_at}
use Rattle.callgraph.proofs.graph.Graph.new.Goals as goal

pub loop-call-preserved : goal.loop-call-preserved
loop-call-preserved c =
    let d : Call = record { caller = 0; callee = 0 } in
    let i = c.loop-call.call-index in
    let call : Call = slice_index_or c.args.calls.now i d in
    let rows = c.loop-call.rows.items in
    let row : Row = record { callees = c.push.new.self } in
    let within = c.requires i d c.loop-call-test.true in
    let far : call.caller < length rows = omega (arith, within.0, c.loop-call.invariant.len, c.loop-call.rows.ok.0) in
    record {
      len = grind (arith, common_steps);
      rows = λ a. ap (λ xs. slice_index_or xs a []) (map-set (λ (r : Row). r.callees.items) rows call.caller row)
          ∙ ap (λ y. slice_index_or (slice_set (rows_of rows) call.caller y) a []) (c.in_ok-push.ensures.items
          ∙ ap (λ xs. xs ++ call.callee ∷ []) (row_at rows call.caller c.index_mut.result.now far
          c.index_mut.ensures.value))
          ∙ row_more c.args.calls.now (rows_of rows) i d c.loop-call-test.true
          (let e : length (rows_of rows) ≡ length rows = length-map rows _ in omega (arith, e, far))
          c.loop-call.invariant.rows a;
    }
