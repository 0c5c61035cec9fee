use Rattle.std.proofs.Common.{◌∙◌, ap, inl, inr, subst}
use Rattle.std.specs.Prelude.{List, Option, ℕ, None, slice_set}
use Rattle.piece_machine.specs.PieceViews.{parts}
use Rattle.runner.specs.declared.attempt.Attempt.{Attempt}
use Rattle.runner.specs.Attempts.{TriedSo, is_made}
use Rattle.runner.proofs.Noting.{made_entered, made_want, still_want, want_as}
use Rattle.runner.proofs.Shutting.{same_held}
use Rattle.runner.proofs.passing_over.Waiting.follow.Goals as goal

pub shut_taken-requires-clause-held : goal.shut_taken-requires-clause-held
shut_taken-requires-clause-held c =
    same_held (parts c.args.machine.now) c.check.new.self c.leave-in-Took.new.self c.leave-in-Took.ensures.shut c.check.ensures.held

pub returns-then-takes_none : goal.returns-then-takes_none
returns-then-takes_none c = λ p k fit want same tried.
    let new = parts c.args.machine.now in
    let xs = c.args.self.now.wants in
    let e = c.leave.ensures in
    record {
      want = want_as p new (slice_set xs c.args.t None) c.leave.new.self.wants
          (e.wants
          ∙ ap (λ (ys : List (Option ℕ)). slice_set ys c.args.t None) c.check.ensures.wants)
          (made_want p k new c.args.t xs fit want
          (made_entered p k new c.args.t c.args.attempt (c.takes_none.ensures c.if-takes_none.true) tried));
      sound = e.sound;
      held = same_held (parts c.args.machine.now) c.check.new.self c.leave.new.self e.shut c.check.ensures.held;
    }

pub returns-in-Accessed : goal.returns-in-Accessed
returns-in-Accessed c = λ p k fit want same tried.
    let new = parts c.args.machine.now in
    let xs = c.args.self.now.wants in
    let e = c.leave-in-Accessed.ensures in
    record {
      want = want_as p new (slice_set xs c.args.t None) c.leave-in-Accessed.new.self.wants
          (e.wants
          ∙ ap (λ (ys : List (Option ℕ)). slice_set ys c.args.t None) c.check.ensures.wants)
          (made_want p k new c.args.t xs fit want
          (made_entered p k new c.args.t c.args.attempt c.in-Accessed.is tried));
      sound = e.sound;
      held = same_held (parts c.args.machine.now) c.check.new.self c.leave-in-Accessed.new.self e.shut c.check.ensures.held;
    }

pub returns-in-Took : goal.returns-in-Took
returns-in-Took c = λ p k fit want same tried.
    let new = parts c.args.machine.now in
    let xs = c.args.self.now.wants in
    let e = c.shut_taken.ensures in
    record {
      want = want_as p new (slice_set xs c.args.t None) c.shut_taken.new.self.wants
          (e.wants ∙ c.leave-in-Took.ensures.wants
          ∙ ap (λ (ys : List (Option ℕ)). slice_set ys c.args.t None) c.check.ensures.wants)
          (made_want p k new c.args.t xs fit want
          (subst (λ (a : Attempt). TriedSo p k c.args.t a new) c.in-Took.is tried));
      sound = e.sound;
      held = e.held;
    }

pub returns-in-Wants : goal.returns-in-Wants
returns-in-Wants c = λ p k fit want same tried.
    let new = parts c.args.machine.now in
    let e = c.note.ensures in
    record {
      want = e.wants p
          (want_as p new c.args.self.now.wants c.check.new.self.wants c.check.ensures.wants
          (still_want p k new c.args.self.now.wants (same (ap is_made c.in-Wants.is)) want))
          (subst (λ (a : Attempt). TriedSo p k c.args.t a new) c.in-Wants.is tried);
      sound = e.sound;
      held = e.held;
    }

pub returns-in-HeldUp : goal.returns-in-HeldUp
returns-in-HeldUp c = λ p k fit want same tried.
    let new = parts c.args.machine.now in
    record {
      want = want_as p new c.args.self.now.wants c.check.new.self.wants c.check.ensures.wants
          (still_want p k new c.args.self.now.wants (same (elim c.in-HeldUp.is [ inl e ↦ ap is_made e | inr e ↦ ap is_made e ])) want);
      sound = c.check.ensures.sound;
      held = c.check.ensures.held;
    }
