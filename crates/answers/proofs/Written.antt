-- What a device has of what was told, and that a device which failed has met a failure.
use Rattle.std.proofs.Common.{◌++◌, ℕ, List, Option, Result, Ok, Err, OnOk, OnErr, arith}
use Rattle.std.specs.Io.KnownBytes.{Appends}
use Rattle.std.proofs.KnownBytes.{Appends-trans}
use Rattle.devices.specs.Counting.{HasFailed}
use Rattle.devices.specs.Writing.{HasFront}
use Rattle.devices.specs.declared.counted.Counted.{Counted}
use Rattle.answers.specs.Answers.{HasMetFailure}

-- two writes, one after the other
pub both_written : {T E : Type 0} (r : Result T E) (a b c : Option (List ℕ)) (xs ys : List ℕ) → Appends a b xs
    → OnOk r (Appends b c ys) → OnOk r (Appends a c (xs ++ ys))
both_written (Ok t) a b c xs ys first second = Appends-trans a b c xs ys first second
both_written (Err e) a b c xs ys first second = tt

pub has_met : {X : Type 0} (old new : Counted X) → HasFailed old new → HasMetFailure new
has_met old new failed =
    let one = failed.one in
    omega (arith, one)

pub met_by : {T E W : Type 0} (r : Result T E) (contents : W → Option (List ℕ)) (old new : Counted W) (bytes : List ℕ)
    → OnErr r (HasFront contents old new bytes) → OnErr r (HasMetFailure new)
met_by (Ok t) contents old new bytes front = tt
met_by (Err e) contents old new bytes front = has_met old new front.failed
