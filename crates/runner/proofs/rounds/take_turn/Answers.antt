use Rattle.std.proofs.Common.{◌≡◌, ◌∙◌, Bool, IfOk, true, false, ap, refl, sym, subst}
use Rattle.machine.specs.ConcreteSteps.{can_move}
use Rattle.piece_machine.specs.PieceConcrete.{PieceConcrete}
use Rattle.runner.specs.Attempts.{TriedSo, is_made}
use Rattle.runner.specs.Orders.{HasMade}
use Rattle.runner.specs.Reports.{IsStopped}
use Rattle.runner.specs.Rounds.{HasGrown, HasTurned}
use Rattle.runner.specs.Views.{log_state}
use Rattle.runner.specs.Waits.{AllWait}
use Rattle.runner.specs.declared.attempt.Attempt.{Attempt}
use Rattle.runner.specs.declared.attempt.Attempt.TheVariants.{Accessed}
use Rattle.runner.proofs.Noting.{legal_buckets}
use Rattle.runner.proofs.RoundSteps.{turned_so}
use Rattle.runner.proofs.rounds.take_turn.Goals as goal

pub follow_access-requires-clause-buckets : goal.follow_access-requires-clause-buckets
follow_access-requires-clause-buckets g c =
    ap (λ (k : PieceConcrete). k.buckets) c.piece_machine.ensures.parts
    ∙ legal_buckets g.J.RunName.program c.attempt_entry.new.shared.log (log_state c.attempt_entry.new.shared).concrete
    c.piece_machine.ensures.legal

pub follow-requires-clause-buckets : goal.follow-requires-clause-buckets
follow-requires-clause-buckets g c =
    ap (λ (k : PieceConcrete). k.buckets) c.piece_machine-2.ensures.parts
    ∙ legal_buckets g.J.RunName.program c.attempt_entry.new.shared.log (log_state c.attempt_entry.new.shared).concrete
    c.piece_machine-2.ensures.legal

-- an entry that ended with an access
pub returns-then-attempt_entry-clause-waits : goal.returns-then-attempt_entry-clause-waits
returns-then-attempt_entry-clause-waits g c =
    let p = g.J.RunName.program in
    let old = (log_state c.args.shared.now).concrete in
    let here = c.piece_machine.ensures.parts in
    subst (λ (k : PieceConcrete). AllWait p k c.follow_access.new.self) here
    (c.follow_access.ensures p old c.requires.kept c.requires.waits.want
    (subst (λ (k : PieceConcrete). TriedSo p old c.args.t Accessed k) (sym here) c.if-attempt_entry.ensures.tried))

pub returns-then-attempt_entry-clause-turned : goal.returns-then-attempt_entry-clause-turned
returns-then-attempt_entry-clause-turned g c = c.if-attempt_entry.ensures.made refl

pub returns-then-attempt_entry-clause-entry : goal.returns-then-attempt_entry-clause-entry
returns-then-attempt_entry-clause-entry g c = λ is. c.if-attempt_entry.ensures.entry refl

pub returns-clause-entry : goal.returns-clause-entry
returns-clause-entry g c = λ is.
    let made = subst (λ o. IfOk o (λ (a : Attempt). is_made a ≡ true
    → HasMade g.J.RunName.program c.args.t (log_state c.args.shared.now)
    (log_state c.attempt_entry.new.shared))) c.in_ok-attempt.was
    c.if-attempt_entry.ensures.entry in
    made (sym c.is_made.ensures ∙ is)

pub returns-clause-turned : goal.returns-clause-turned
returns-clause-turned g c =
    let e = c.if-attempt_entry.ensures in
    let is = c.in_ok-attempt.was in
    let made = subst (λ o. IfOk o (λ (a : Attempt). is_made a ≡ true
    → HasGrown g.J.RunName.limit (log_state c.args.shared.now) (log_state c.attempt_entry.new.shared))) is e.made in
    let none = subst (λ o. IfOk o (λ (a : Attempt). is_made a ≡ false
    → (log_state c.attempt_entry.new.shared ≡ log_state c.args.shared.now)
    × (can_move (log_state c.attempt_entry.new.shared).concrete.concrete c.args.t ≡ true
    → IsStopped g.J.RunName.program g.J.RunName.limit (log_state c.attempt_entry.new.shared).log
    (log_state c.attempt_entry.new.shared).concrete c.args.t))) is e.none in
    subst (λ (b : Bool). HasTurned b g.J.RunName.program g.J.RunName.limit (log_state c.args.shared.now)
    (log_state c.attempt_entry.new.shared) c.args.t) (sym c.is_made.ensures)
    (turned_so (is_made c.in_ok-attempt.attempt) g.J.RunName.program g.J.RunName.limit (log_state c.args.shared.now)
    (log_state c.attempt_entry.new.shared) c.args.t made none)
