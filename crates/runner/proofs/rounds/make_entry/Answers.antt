use Rattle.std.proofs.Common.{◌≡◌, ◌∙◌, IfOk, true, false, ap, refl, sym, subst}
use Rattle.std.proofs.lemmas.Bool.{both_ways}
use Rattle.machine.specs.ConcreteSteps.{can_move}
use Rattle.machine.specs.States.{ConcreteState}
use Rattle.runner.specs.Attempts.{is_made}
use Rattle.runner.specs.Seeds.{MarksIf}
use Rattle.runner.specs.Views.{log_state}
use Rattle.runner.specs.declared.attempt.Attempt.{Attempt}
use Rattle.runner.proofs.rounds.make_entry.Goals as goal

pub returns-then-not-can_move-clause-marks : goal.returns-then-not-can_move-clause-marks
returns-then-not-can_move-clause-marks g c = λ still moves free.
    let rests : can_move (log_state c.args.shared.now).concrete.concrete c.args.t ≡ false =
    ap (λ (k : ConcreteState). can_move k c.args.t) (sym c.machine.ensures.concrete) ∙ sym c.can_move.ensures
    ∙ c.if-not-can_move.true in
    absurd (both_ways (can_move (log_state c.args.shared.now).concrete.concrete c.args.t) rests moves)

pub returns-then-attempt_entry-clause-same : goal.returns-then-attempt_entry-clause-same
returns-then-attempt_entry-clause-same g c = λ is. c.if-attempt_entry.ensures.same refl

pub returns-clause-same : goal.returns-clause-same
returns-clause-same g c = λ is.
    let same = subst (λ o. IfOk o (λ (a : Attempt). is_made a ≡ true
    → c.attempt_entry.new.refused ≡ c.args.refused.now)) c.in_ok-told.was c.if-attempt_entry.ensures.same in
    same (sym c.is_made.ensures ∙ is)

pub returns-clause-marks : goal.returns-clause-marks
returns-clause-marks g c = λ is.
    let marks = subst (λ o. IfOk o (λ (a : Attempt). is_made a ≡ false → MarksIf g.J.RunName.program g.J.RunName.limit
    (log_state c.args.shared.now) c.args.t c.args.refused.now c.attempt_entry.new.refused)) c.in_ok-told.was
    c.if-attempt_entry.ensures.marks in
    marks (sym c.is_made.ensures ∙ is)
