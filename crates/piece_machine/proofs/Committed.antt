-- Where a thread has committed to sleep, by its phase and its call.
use Rattle.std.proofs.Common.{◌≡◌, ◌≢◌, Option, None, refl}
use Rattle.futexcalls.specs.declared.pieces.FutexCall.{FutexCall}
use Rattle.futexcalls.specs.declared.pieces.FutexPhase.{FutexPhase}
use Rattle.futexcalls.specs.declared.pieces.FutexPhase.TheVariants.{First, Second, Compare, Act}
use Rattle.machine.specs.PieceStates.{committed_at}

pub none_committed : (phase : FutexPhase) → committed_at phase None ≡ None
none_committed First = refl
none_committed Second = refl
none_committed Compare = refl
none_committed Act = refl

pub before_act : (phase : FutexPhase) (call : Option FutexCall) → phase ≢ Act → committed_at phase call ≡ None
before_act First call isnt = refl
before_act Second call isnt = refl
before_act Compare call isnt = refl
before_act Act call isnt = absurd (isnt refl)
