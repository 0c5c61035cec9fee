-- What a writer has of bytes that were to be written to it.
use Rattle.std.specs.Prelude.{ℕ, List, take, Option}
use Rattle.std.specs.Io.KnownBytes.{Appends}
use Rattle.devices.specs.Counting.{HasFailed, inner_of}
use Rattle.devices.specs.declared.counted.Counted.{Counted}

-- all of them, behind what it had
abbrev pub HasAll : {W : Type 0} → (W → Option (List ℕ)) → Counted W → Counted W → List ℕ → Type 0
HasAll contents old new bytes = Appends (contents (inner_of old)) (contents (inner_of new)) bytes

-- it has failed, and has a front of them, behind what it had
pub record HasFront {W : Type 0} (contents : W → Option (List ℕ)) (old new : Counted W) (bytes : List ℕ) : Type 0 where
  pub failed : HasFailed old new
  pub count : ℕ
  pub front : HasAll contents old new (take count bytes)
