-- What a refusal or a failure adds to the hints that stand behind what is told.
use Rattle.std.specs.Prelude.{ℕ, ◌≡◌, ◌⊎◌, ◌++◌, Bool, true, List, [], codes}
use Rattle.answers.specs.declared.failure.Failure.{Failure}
use Rattle.answers.specs.declared.failure.Failure.TheVariants.{Read, Write, FirstVersion, LogLine, LogSteps, LogBytes, Memory}
use Rattle.answers.specs.declared.failure.Failure.TheVariants.{ActionLine}
use Rattle.answers.specs.declared.failure.NoAnswer.{NoAnswer}
use Rattle.answers.specs.declared.failure.NoAnswer.TheVariants.{Refused, Unassembled, Failed}
use Rattle.hint_lines.specs.HintLines.{AreHintLines}

-- nothing; or lines of hints, where those are wanted
abbrev pub HasHinted : (wanted : Bool) → (old new : List ℕ) → Type 0
HasHinted wanted old new =
    (new ≡ old) ⊎ ((wanted ≡ true) × (lines : List ℕ) × AreHintLines lines × (new ≡ old ++ lines))

-- what helps with a failure, where more is known than its line tells
abbrev pub help_to : Failure → List ℕ
help_to (LogLine n) = codes "  a line has a thread, its local steps, and TURN 0 or a step's name and value\n"
help_to (ActionLine n) = codes "  a line has a process and its action, as explain shows it\n"
help_to (LogSteps n) = codes "  --steps N takes a log of at most N steps\n"
help_to (LogBytes n) = codes "  --steps N takes a log of at most N steps\n"
help_to FirstVersion = codes "  --exits linux takes an image of version 2\n"
help_to f = []

-- of a file's failure the system's reason is told; want of memory leaves nothing
abbrev pub TellsMoreOf : Failure → (old new : List ℕ) → Type 0
TellsMoreOf (Read name reason) old new = (more : List ℕ) × (new ≡ old ++ more)
TellsMoreOf (Write name reason) old new = (more : List ℕ) × (new ≡ old ++ more)
TellsMoreOf Memory old new = new ≡ []
TellsMoreOf f old new = (new ≡ old ++ help_to f) ⊎ (new ≡ old)

-- that is appended where a job has no answer, or nothing where there is no memory for it
abbrev pub TellsMore : NoAnswer → (old new : List ℕ) → Type 0
TellsMore (Refused e) old new = new ≡ old
TellsMore (Unassembled e) old new = new ≡ old
TellsMore (Failed f) old new = TellsMoreOf f old new
