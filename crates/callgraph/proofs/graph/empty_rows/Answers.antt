use Rattle.std.proofs.Common.{arith, ap, slice_index_or, [], ◌∷◌, ◌++◌, ◌∙◌}
use Rattle.std.proofs.lemmas.List.{map-append}
use Rattle.std.proofs.lemmas.Grind.{common_steps}
use Rattle.callgraph.specs.declared.graph.Row.{Row}
use Rattle.callgraph.specs.Graphs.{rows_of}
use Rattle.callgraph.proofs.Rows.{empty_more}
use Rattle.callgraph.proofs.graph.empty_rows.Goals as goal

pub loop-row-preserved : goal.loop-row-preserved
loop-row-preserved c =
    let row : Row = record { callees = c.new.result } in
    record {
      len = grind (arith, common_steps);
      empty = λ a. ap (λ rs. slice_index_or (rows_of rs) a []) c.in_ok-push.ensures.items
          ∙ ap (λ xs. slice_index_or xs a []) (map-append (λ (r : Row). r.callees.items) c.loop-row.rows.items
          (row ∷ []))
          ∙ ap (λ ys. slice_index_or (rows_of c.loop-row.rows.items ++ ys ∷ []) a []) c.new.ensures.items
          ∙ empty_more _ c.loop-row.invariant.empty a;
    }
