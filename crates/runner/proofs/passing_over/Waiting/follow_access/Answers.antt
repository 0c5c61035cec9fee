use Rattle.std.proofs.Common.{◌∙◌, ap, inl, refl}
use Rattle.std.specs.Prelude.{List, Option, ℕ, None, slice_set}
use Rattle.piece_machine.specs.PieceViews.{parts}
use Rattle.runner.specs.declared.attempt.Attempt.TheVariants.{Accessed}
use Rattle.runner.proofs.Noting.{made_entered, made_want, want_as}
use Rattle.runner.proofs.Shutting.{same_held}
use Rattle.runner.proofs.passing_over.Waiting.follow_access.Goals as goal

pub returns : goal.returns
returns c = λ p k fit want tried.
    let new = parts c.args.machine.now in
    let xs = c.args.self.now.wants in
    let e = c.leave.ensures in
    record {
      want = want_as p new (slice_set xs c.args.t None) c.leave.new.self.wants
          (e.wants
          ∙ ap (λ (ys : List (Option ℕ)). slice_set ys c.args.t None) c.check.ensures.wants)
          (made_want p k new c.args.t xs fit want (made_entered p k new c.args.t Accessed (inl refl) tried));
      sound = e.sound;
      held = same_held (parts c.args.machine.now) c.check.new.self c.leave.new.self e.shut c.check.ensures.held;
    }
