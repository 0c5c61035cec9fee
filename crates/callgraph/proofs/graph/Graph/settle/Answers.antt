use Rattle.std.proofs.Common.{◌∙◌, subst, sym}
use Rattle.std.specs.Prelude.{Contains}
use Rattle.std.proofs.lemmas.List.{length-set}
use Rattle.callgraph.specs.Calls.{Within}
use Rattle.callgraph.proofs.Rows.{is_called}
use Rattle.callgraph.proofs.Settling.{settled_more}
use Rattle.callgraph.proofs.graph.Graph.settle.Goals as goal

pub returns-then-any_marked-clause-calls_marked : goal.returns-then-any_marked-clause-calls_marked
returns-then-any_marked-clause-calls_marked c h calls g t =
    let r = c.any_marked.ensures.some c.if-any_marked.true in (
      r.0,
      is_called calls c.args.procedure r.0 (subst (λ xs. Contains xs r.0) (c.callees.ensures
          ∙ g.rows c.args.procedure) r.1),
      r.2,
    )

pub returns-clause-settled : goal.returns-clause-settled
returns-clause-settled c calls g len settled =
    settled_more calls c.args.marks.now c.args.procedure (subst (λ n. Within calls n) (sym len) g.within)
    (λ b k. c.any_marked.ensures.none c.if-any_marked.false b (subst (λ xs. Contains xs b) (sym (c.callees.ensures
    ∙ g.rows c.args.procedure)) k)) settled (length-set _ _ _)
