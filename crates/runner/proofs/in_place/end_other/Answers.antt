-- The entry has the local steps, and what came behind them.
use Rattle.std.proofs.Common.{◌≡◌, ◌≢◌, ◌+◌, ◌∙◌, true, ap, refl, sym, arith}
use mir.Val.{bool_byte}
use Rattle.piece_machine.specs.PieceViews.{parts}
use Rattle.runner.specs.Attempts.{is_made}
use Rattle.runner.specs.Entries.{taken_entry, taken_event}
use Rattle.runner.specs.Logs.{event_cost}
use Rattle.runner.specs.Reports.{IsHeldUp, IsNextEntry}
use Rattle.runner.specs.Walks.{FailsAfter}
use Rattle.runner.specs.declared.attempt.Attempt.{Attempt}
use Rattle.runner.specs.declared.attempt.Attempt.TheVariants.{Accessed}
use Rattle.runner.specs.declared.fault.RunFault.{RunFault}
use Rattle.runner.proofs.Growing.{event_byte}
use Rattle.runner.proofs.Walking.{and_err, and_on, if_err, walk_waits}
use Rattle.runner.proofs.Wanting.{and_ok}
use Rattle.runner.proofs.in_place.end_other.Goals as goal

pub returns-clause-ends : goal.returns-clause-ends
returns-clause-ends c = λ k w.
    let m = c.args.machine.now in
    let p = m.view.program in
    let t = c.args.t in
    let n = c.args.local in
    let e = c.take_end-outcome in
    let out = c.and in
    let a = c.attempt_of-attempt in
    let event = taken_event e.result.0.behind e.new.event in
    let last : c.from.result ≡ event_cost event =
    c.from.ensures ∙ ap bool_byte (c.is_shared.ensures e.new.event) ∙ sym (event_byte event) in
    let costs : e.result.0.local + c.from.result ≡ e.result.0.local + event_cost event = omega (arith, last) in
    record {
      entry = taken_entry t e.result.0 e.new.event;
      own = refl;
      local = e.ensures.count;
      enters = e.ensures.enters k w;
      grows = c.push_taken.ensures;
      costs = costs;
      next = and_on (IsNextEntry p k t e.result.0.local event) (IsNextEntry p k t e.result.0.local event) e.result.1 a.result
          out.result out.ensures (e.ensures.next k w) (λ next. next);
      made = and_ok (λ (b : Attempt). (is_made b ≡ true) × (b ≢ Accessed)) e.result.1 a.result out.result out.ensures
          (a.ensures.made, a.ensures.other);
      fails = and_err (λ (f : RunFault). (IsHeldUp p k t → ⊥) → FailsAfter p k t n f) e.result.1 a.result out.result
          out.ensures
          (if_err _ (λ (f : RunFault). (IsHeldUp p k t → ⊥) → FailsAfter p k t n f) e.result.1
          (λ f h free. h k w (λ waits. free (walk_waits p k (parts m) t n w waits))) e.ensures.fails);
    }
