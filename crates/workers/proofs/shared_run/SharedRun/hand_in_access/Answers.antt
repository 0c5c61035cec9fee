-- The run has no fault, and the thread goes on from its first piece, which came in as an access.
use Rattle.std.proofs.Common.{◌≡◌, Bool, Option, arith, refl, subst, sym}
use Rattle.std.specs.Prelude.{MatchOption}
use Rattle.std.proofs.lemmas.Option.{slice_get_read}
use Rattle.runner.specs.Afters.{IsAfter}
use Rattle.runner.specs.Views.{log_state}
use Rattle.runner.specs.declared.fault.RunFault.{RunFault}
use Rattle.runner.specs.declared.next.After.TheVariants.{Ends, Goes}
use Rattle.workers.specs.Handed.{ComesIn, Frees}
use Rattle.workers.specs.SharedRuns.{SharedRunView}
use Rattle.workers.proofs.Coming.{no_fault, set_first}
use Rattle.workers.proofs.Waking.{concerns_nobody, gives_none_up}
use Rattle.workers.proofs.shared_run.SharedRun.hand_in_access.Goals as goal

pub returns-clause-made : goal.returns-clause-made
returns-clause-made g c = λ came.
    let s = c.self.inside in
    let before = c.index_mut-piece.result.now in
    let made = c.hand_in_access.ensures.made came in
    let log = c.hand_in_access.new.self.log in
    let old : SharedRunView = record {
      shared = s.shared;
      fault = s.fault;
      started = s.started;
      kept = s.kept;
      waiting = s.waiting;
      freed = s.freed;
      refused = s.refused;
    } in
    let after : SharedRunView = record {
      shared = c.hand_in_access.new.self;
      fault = s.fault;
      started = s.started;
      kept = s.kept;
      waiting = s.waiting;
      freed = s.freed;
      refused = s.refused;
    } in
    let unfaulted = no_fault s.fault c.is_some.ensures c.if-is_some.false in
    let none_up = gives_none_up s.shared.log c.args.worker.now.thread before.count log (c.hand_in_access.ensures.told came) in (
      before,
      slice_get_read c.args.turns.now.pieces.items _ 0 before refl
          (omega (arith, c.args.turns.now.some, c.args.turns.now.pieces.ok.0)) c.index_mut-piece.ensures.value,
      subst
          (λ (d : SharedRunView). ComesIn g.J.RunName.program g.J.RunName.limit d c.args.worker.now.thread before after c.args.share.now
          c.hand_in_access.new.share) c.self.view_is
          (record {
            goes_on = unfaulted;
            takes = made.0;
            fault = unfaulted;
            counted = made.1;
            frees = subst (λ (b : Bool). Frees b old after) (sym none_up) (refl, refl);
            refused = refl;
          }),
    )

pub returns-clause-goes_on : goal.returns-clause-goes_on
returns-clause-goes_on g c = λ came.
    let s = c.self.inside in
    let piece = c.hand_in_access.new.piece in
    let after = (c.hand_in_access.ensures.made came).2 in (
      piece,
      set_first c.args.turns.now.pieces.items piece
          (omega (arith, c.args.turns.now.some, c.args.turns.now.pieces.ok.0)),
      subst (λ (f : Option RunFault). MatchOption f (IsAfter (log_state c.hand_in_access.new.self).concrete c.args.worker.now.thread piece Goes)
          (λ _. Goes ≡ Ends)) (sym (no_fault s.fault c.is_some.ensures c.if-is_some.false)) after,
    )

pub returns-clause-told : goal.returns-clause-told
returns-clause-told g c = λ came.
    concerns_nobody c.self.inside.shared.log c.args.worker.now.thread c.index_mut-piece.result.now.count c.hand_in_access.new.self.log
    (c.hand_in_access.ensures.told came)
