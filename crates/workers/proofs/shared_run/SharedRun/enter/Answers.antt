use Rattle.std.proofs.Common.{subst, inl, inr, refl, Some}
use Rattle.runner.specs.declared.fault.RunFault.{RunFault}
use Rattle.runner.specs.declared.fault.RunFault.TheVariants.{Broken}
use Rattle.runner.specs.declared.next.After.TheVariants.{Ends}
use Rattle.runner.specs.Entries.{RefusesEntry}
use Rattle.runner.specs.Views.{log_state}
use Rattle.workers.specs.SharedRuns.{SharedRunView}
use Rattle.workers.specs.Handed.{StaysAway}
use Rattle.workers.proofs.Coming.{no_fault}
use Rattle.workers.proofs.shared_run.SharedRun.enter.Goals as goal

pub returns-in-Err-Broken-clause-away : goal.returns-in-Err-Broken-clause-away
returns-in-Err-Broken-clause-away g c =
    let p = g.J.RunName.program in
    let limit = g.J.RunName.limit in
    let before = c.self.inside in
    let e = c.in-Err-Broken.ensures.err in
    let after : SharedRunView = record {
      shared = c.enter.new.self;
      fault = Some Broken;
      started = before.started;
      kept = before.kept;
      waiting = before.waiting;
      freed = before.freed;
      refused = before.refused;
    } in
    let refused = subst (λ (f : RunFault). RefusesEntry p limit (log_state before.shared) c.args.t c.args.piece.now f)
    c.in-Err-Broken.field-0-is e.2 in (
      subst
          (λ (d : SharedRunView). StaysAway p limit d c.args.t c.args.piece.now after Ends) c.self.view_is
          (record {
            run = e.0;
            fault = inr (no_fault before.fault c.is_some.ensures c.if-is_some.false, Broken, refl, refused);
            away = inl refl;
            waits = refl;
            freed = refl;
            refused = inl (refl, refl);
          }),
      e.1,
    )

pub returns-in-Err-Limit-clause-away : goal.returns-in-Err-Limit-clause-away
returns-in-Err-Limit-clause-away g c =
    let p = g.J.RunName.program in
    let limit = g.J.RunName.limit in
    let before = c.self.inside in
    let e = c.in-Err-Limit.ensures.err in
    let after : SharedRunView = record {
      shared = c.enter.new.self;
      fault = before.fault;
      started = before.started;
      kept = before.kept;
      waiting = before.waiting;
      freed = before.freed;
      refused = c.add.new.self;
    } in
    let refused = subst (λ (f : RunFault). RefusesEntry p limit (log_state before.shared) c.args.t c.args.piece.now f)
    c.in-Err-Limit.field-0-is e.2 in (
      subst
          (λ (d : SharedRunView). StaysAway p limit d c.args.t c.args.piece.now after Ends) c.self.view_is
          (record {
            run = e.0;
            fault = inl refl;
            away = inr refused;
            waits = refl;
            freed = refl;
            refused = inr (refused, c.add.ensures);
          }),
      e.1,
    )
