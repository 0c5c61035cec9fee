-- What a search finds of threads that sleep for good.
use Rattle.std.specs.Prelude.{ℕ, ◌≡◌, ◌<◌, Contains, List, Some, length, true, false}
use Rattle.isa.specs.Programs.{Program}
use Rattle.machine.specs.PieceStates.{PieceState}
use Rattle.machine.specs.PieceSteps.{PieceRun}
use Rattle.machine.specs.Runs.{Step}
use Rattle.piece_machine.specs.PieceViews.{pieces}
use Rattle.proof_image_search.specs.Searching.{AreFrom, May}
use Rattle.proof_image_liveness.specs.Sleeping.{IsWoken, SleepsForGood}
use Rattle.runner.specs.declared.report.Report.{Report}
use Rattle.image_search.specs.declared.ending.Ending.{Ending}
use Rattle.image_search.specs.declared.ending.Ending.TheVariants.{Complete}
use Rattle.image_search.specs.declared.ending.Sleeping.{Sleeping}
use Rattle.image_search.specs.declared.ending.Sleeping.TheVariants.{ForGood, Never, Unknown, Unsought}
use Rattle.image_search.specs.Found.{LeadsTo}

-- from each state that a run comes to with no more from outside than may be, over any number of buckets, a run of the
-- threads' own steps wakes each thread that sleeps there
abbrev pub NeverSleeps : Program → May → Type 0
NeverSleeps p may = (buckets : ℕ) (steps : List Step) (s : PieceState) → 0 < buckets → PieceRun p buckets steps s
    → AreFrom may steps → (t a : ℕ) → s.base.asleep t ≡ Some a → IsWoken p s t

-- each of these threads sleeps for good
abbrev pub AllSleepForGood : Program → List ℕ → Report → Type 0
AllSleepForGood p threads report = (t : ℕ) → Contains threads t → SleepsForGood p (pieces report.last) t

-- what is told of threads that sleep for good, where all states are kept and none is an end
abbrev pub TellsOfSleepers : Program → May → Sleeping → Type 0
TellsOfSleepers p may Unsought = may.strays ≡ true
TellsOfSleepers p may Never = NeverSleeps p may
TellsOfSleepers p may (ForGood turns threads) =
    (0 < length threads.items) × LeadsTo p may (AllSleepForGood p threads.items) turns.items
TellsOfSleepers p may (Unknown why) = may.strays ≡ false

-- what is told of them behind a search that ended so
abbrev pub HasSlept : Program → May → Ending → Sleeping → Type 0
HasSlept p may ending Unsought = ending ≡ Complete → may.strays ≡ true
HasSlept p may ending Never = NeverSleeps p may
HasSlept p may ending (ForGood turns threads) =
    (0 < length threads.items) × LeadsTo p may (AllSleepForGood p threads.items) turns.items
HasSlept p may ending (Unknown why) = (ending ≡ Complete) × (may.strays ≡ false)
