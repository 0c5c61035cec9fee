-- A schedule that is answered as it was given.
use Rattle.std.proofs.Common.{◌≡◌, List, arith, subst, sym}
use Rattle.isa.specs.Programs.{Program}
use Rattle.runner.specs.declared.schedule.Turn.{Turn}
use Rattle.schedules.specs.Failing.{FailsOn}
use Rattle.schedules.specs.Shrinking.{IsNoLonger}
use Rattle.schedules.specs.declared.failing.RunFailure.{RunFailure}

-- it is no longer than itself
same_length : (given : List Turn) → IsNoLonger given given
same_length given = record { entries = omega arith; few = omega arith }

pub not_longer : (given turns : List Turn) → turns ≡ given → IsNoLonger given turns
not_longer given turns is = subst (IsNoLonger given) (sym is) (same_length given)

pub fails_too : (p : Program) (given turns : List Turn) (failure : RunFailure) → turns ≡ given → FailsOn p given failure
    → FailsOn p turns failure
fails_too p given turns failure is fails = subst (λ (ts : List Turn). FailsOn p ts failure) (sym is) fails
