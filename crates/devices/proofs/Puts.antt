-- A file that has got all bytes that were written to it.
use Rattle.std.proofs.Common.{ℕ, List, Option, Result, Ok, Err, OnOk}
use Rattle.devices.specs.Counting.{inner_of}
use Rattle.devices.specs.Files.{IsPut}
use Rattle.devices.specs.Writing.{HasAll}
use Rattle.devices.specs.declared.counted.Counted.{Counted}

pub put_by : {T E F : Type 0} (contents : F → Option (List ℕ)) (r : Result T E) (old new : Counted F) (bytes : List ℕ)
    → OnOk r (HasAll contents old new bytes) → OnOk r (IsPut contents bytes)
put_by contents (Ok x) old new bytes h = (inner_of old, inner_of new, h)
put_by contents (Err e) old new bytes h = tt

pub put_on : {T E F : Type 0} (r : Result T E) (contents : F → Option (List ℕ)) (old new : Counted F) (bytes : List ℕ)
    → HasAll contents old new bytes → OnOk r (IsPut contents bytes)
put_on (Ok x) contents old new bytes h = (inner_of old, inner_of new, h)
put_on (Err e) contents old new bytes h = tt
