use Rattle.std.proofs.Common.{sym}
use Rattle.runner.proofs.in_place.waits_for_bucket.Goals as goal

pub returns-in-Some-CannotMove : goal.returns-in-Some-CannotMove
returns-in-Some-CannotMove c =
    λ here goes is. sym (rw c.in-Some-CannotMove.field-0-is at (c.in-Some-CannotMove.ensures here goes is))
