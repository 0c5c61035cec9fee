-- What a search says of threads that sleep for good, of all runs in pieces.
use Rattle.std.specs.Prelude.{ℕ, ◌≡◌, ◌<◌, Bool, List, Contains, Some}
use Rattle.isa.specs.Programs.{Program}
use Rattle.machine.specs.Runs.{Step}
use Rattle.machine.specs.PieceStates.{PieceState, IsHeldRight}
use Rattle.machine.specs.PieceSteps.{PieceRun}
use Rattle.proof_pieces.specs.Whole.{whole}
use Rattle.proof_image_search.specs.Searching.{May, AreFrom, Kept, IsCompleteBy, IsCovered}
use Rattle.proof_image_liveness.specs.Sleeping.{AreAsleep, AreWakened, IsWoken, SleepsForGood}

-- where whoever sleeps in a kept state is wakened, some run wakes whoever sleeps in a state that a run comes to
abbrev pub NeverSleepsSo : Type 0
NeverSleepsSo = (p : Program) (alone : Bool) (may : May) (kept : List Kept) → IsCompleteBy p alone may kept
    → ((r : Kept) → Contains kept r → AreWakened p alone r)
    → (buckets : ℕ) (steps : List Step) (s : PieceState) → 0 < buckets → PieceRun p buckets steps s
    → AreFrom may steps → (t a : ℕ) → s.base.asleep t ≡ Some a → IsWoken p s t

-- who sleeps in each of a closed set of states sleeps for good in what they cover
abbrev pub SleepsForGoodSo : Type 0
SleepsForGoodSo = (p : Program) (alone : Bool) (t : ℕ) (dead : List Kept) → AreAsleep p alone t dead → (s : PieceState)
    → IsHeldRight p s → (m n : ℕ) → IsCovered p alone dead m (whole p s) n → (a : ℕ) → s.base.asleep t ≡ Some a
    → SleepsForGood p s t
