use Rattle.std.proofs.Common.{◌∙◌, List, ap, subst, sym}
use Rattle.std.proofs.lemmas.Result.{IfOk-weaker}
use Rattle.machine.specs.declared.event.Entry.{Entry}
use Rattle.piece_machine.specs.PieceViews.{parts}
use Rattle.runner.specs.Seeds.{EndsBehind, begun_at, numbers_from}
use Rattle.runner.specs.Views.{SharedView, log_state}
use Rattle.runner.proofs.Seeding.{seeded_so}
use Rattle.runner.proofs.Turning.{on_ok}
use Rattle.runner.proofs.seeded.run_as.Goals as goal

-- a run begins with no entry, at the seed's first number
pub returns-clause-seeded : goal.returns-clause-seeded
returns-clause-seeded g c =
    let p = g.J.RunName.program in
    let limit = g.J.RunName.limit in
    let h = log_state c.share.new.self in
    let numbers = numbers_from c.new-outside.new.generator in
    IfOk-weaker c.report_run.result _ _ (λ r e.
    seeded_so p c.args.strays c.args.kills limit c.args.seed r.log.items c.new-outside.result
    (numbers_from c.seed_from_u64-generator.result) numbers h (ap numbers_from c.seed_from_u64-generator.ensures.same)
    c.new-outside.ensures.begun
    (ap (λ (v : SharedView). v.log) c.in-Some.ensures.some.1 ∙ c.in-Ok.ensures.0)
    (ap (λ (v : SharedView). parts v.machine) c.in-Some.ensures.some.1 ∙ c.in-Ok.ensures.1)
    (subst (λ (l : List Entry). EndsBehind p c.new-outside.result limit (begun_at h numbers) l) (sym e.1)
    (on_ok c.run_drawn-done.result _ e.0 c.run_drawn-done.ensures.ends))) c.report_run.ensures.log
