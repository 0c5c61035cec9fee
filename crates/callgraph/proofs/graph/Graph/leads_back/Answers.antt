use Rattle.std.proofs.Common.{◌∙◌, sym, subst, arith}
use Rattle.std.specs.Prelude.{Contains}
use Rattle.callgraph.proofs.Falling.{never_back}
use Rattle.callgraph.proofs.Rows.{is_listed}
use Rattle.callgraph.proofs.graph.Graph.leads_back.Goals as goal

pub returns-then-are_at_most-clause-complete : goal.returns-then-are_at_most-clause-complete
returns-then-are_at_most-clause-complete c calls g leads = absurd (never_back calls c.args.levels.now c.args.start
    (c.requires calls g) (λ b call.
    let listed : Contains c.callees-callees.result.now b = subst (λ xs. Contains xs b)
    (sym (c.callees-callees.ensures ∙ g.rows c.args.start)) (is_listed calls c.args.start b call) in
    let most = c.are_at_most.ensures c.if-are_at_most.true b listed in
    omega (arith, most, c.if-level-gt0.true, c.level_of-level.ensures.level)) leads)
