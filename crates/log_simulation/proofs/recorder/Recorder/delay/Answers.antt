-- The place of the process says one more, if there is one.
use Rattle.std.proofs.Common.{◌∙◌, ap, sym, Some}
use Rattle.proof_simulation.specs.Deferred.{deferred_then}
use Rattle.log_simulation.proofs.Records.{past_none, there_so, deferred_past, put_deferred}
use Rattle.log_simulation.proofs.recorder.Recorder.delay.Goals as goal

pub returns-in-Some-clause-defers : goal.returns-in-Some-clause-defers
returns-in-Some-clause-defers c = λ f o waits is few.
    let items = c.args.self.now.deferred.items in
    let was = c.in-Some.deferred.now in
    let there = there_so items c.args.t was c.in-Some.ensures.item.3.0 ∙ ap Some (sym c.in-Some.ensures.item.1) in
    put_deferred items f c.args.t c.behind.result (deferred_then o (f c.args.t)) waits
    (c.behind.ensures (f c.args.t) o (waits c.args.t was there) is few)

pub returns-in_default-clause-defers : goal.returns-in_default-clause-defers
returns-in_default-clause-defers c = λ f o waits is few.
    deferred_past c.args.self.now.deferred.items f c.args.t (deferred_then o (f c.args.t)) waits
    (past_none c.args.self.now.deferred.items c.args.t c.in_default.ensures.item.3)
