-- A bucket that the call waits for is in its way.
use Rattle.piece_machine.proofs.piece_machine.PieceMachine.call_refusal.Goals as goal

pub returns-then-waits_for_bucket : goal.returns-then-waits_for_bucket
returns-then-waits_for_bucket c = c.if-waits_for_bucket.ensures
