use Rattle.std.proofs.Common.{◌∙◌, ap, refl}
use Rattle.std.specs.Prelude.{List, Option, ℕ, Some, None, slice_set}
use Rattle.piece_machine.specs.PieceViews.{parts}
use Rattle.runner.proofs.Noting.{held_want, want_as, written_twice}
use Rattle.runner.proofs.passing_over.Waiting.note.Goals as goal

pub returns-then-bucket-lt-BUCKETS-clause-wants : goal.returns-then-bucket-lt-BUCKETS-clause-wants
returns-then-bucket-lt-BUCKETS-clause-wants c = λ p want wants.
    let k = parts c.args.machine.now in
    let xs = c.args.self.now.wants in
    let t = c.args.t in
    want_as p k (slice_set xs t (Some c.args.bucket)) c.shut_bucket.new.self.wants
    (c.shut_bucket.ensures.wants ∙ c.enter.ensures.wants
    ∙ ap (λ (ys : List (Option ℕ)). slice_set ys t (Some c.args.bucket)) c.leave.ensures.wants
    ∙ written_twice xs t None (Some c.args.bucket))
    (held_want p k k t c.args.bucket xs refl want wants)
