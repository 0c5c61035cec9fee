-- What the code owes to the program on a machine whose futex calls are taken in pieces: a call takes the buckets of its
-- words, compares and acts in steps of its own, and steps of other threads come between.
use Rattle.std.specs.Prelude.{ℕ, ◌≡◌, ◌<◌, ◌^◌, ◌⊎◌, List, length, Some, None, is_some}
use Rattle.words.specs.Signed.{word_of}
use Rattle.isa.specs.Programs.{Program as Image}
use Rattle.locals.specs.Threads.{Thread}
use Rattle.locals.specs.Steps.{local_after}
use Rattle.machine.specs.States.{with_thread}
use Rattle.machine.specs.Runs.{Step}
use Rattle.machine.specs.PieceStates.{PieceState, IsWithin}
use Rattle.machine.specs.PieceSteps.{PieceRun, CanTakePiece, NextPieceIsBroken}
use Rattle.program.specs.declared.kinds.Member.{Member}
use Rattle.program.specs.Trees.{Program}
use Rattle.meaning.specs.Labels.{Action}
use Rattle.meaning.specs.States.{SourceState}
use Rattle.meaning.specs.Runs.{IsRun, CanMove}
use Rattle.proof_thread.specs.Variables.{variable_address, IsVariable}
use Rattle.refinement.specs.Seen.{machine_end, source_end}
use Rattle.refinement.specs.Monitors.{machine_hold, StandsAsleep}
use Rattle.refinement.specs.Outside.{stray_threads, killed_threads}
use Rattle.refinement.specs.Pace.{KeepsPace, stretch_length}
use Rattle.refinement.specs.Refines.{Sleeps, HasEnded, RunsFreely, is_stray_kind, is_kill_kind, processes_of}

-- no thread can take a piece: each sleeps, has ended, or waits for a bucket that is held
abbrev pub RestsInPieces : Image → PieceState → Type 0
RestsInPieces image s = (t : ℕ) → CanTakePiece image s t → ⊥

-- one run of the source explains a run in pieces
pub record ExplainedInPieces (p : Program) (image : Image) (steps : List Step) (s : PieceState) : Type 0 where
  -- no thread's next step is broken
  pub sound : (t : ℕ) → NextPieceIsBroken image s t → ⊥
  pub actions : List Action
  pub source : SourceState
  pub run : IsRun p actions source
  -- the same is seen at both ends
  pub output : s.base.output ≡ source.printed
  pub variables : (m : Member) (i : ℕ) → IsVariable p m i → s.base.word (variable_address p m i) ≡ word_of
      (source.variable m.monitor m.number i)
  pub ends : (q : ℕ) → machine_end s.base q ≡ source_end source q
  -- thread q was made just where process q was
  pub made : (q : ℕ) → is_some (s.base.thread q) ≡ is_some (source.process q)
  -- lock words tell which monitors are free, which abandoned, and who holds the others
  pub locks : (m : ℕ) → m < length p.monitors → machine_hold p s.base m ≡ source.table.hold m
  -- who sleeps does so on the word of what its process waits for
  pub asleep : (q a : ℕ) → s.base.asleep q ≡ Some a → StandsAsleep p source q a
  -- buckets lock nobody up: where one is held, some thread within a call can take its next piece
  pub goes_on : (b u : ℕ) → s.holder b ≡ Some u → (t : ℕ) × IsWithin image s t × CanTakePiece image s t
  -- so none is held where no thread can take one: there each thread sleeps or has ended. No wake was lost: there no
  -- process can move
  pub free : RestsInPieces image s → (b : ℕ) → s.holder b ≡ None
  pub still : RestsInPieces image s → (t : ℕ) (x : Thread) → s.base.thread t ≡ Some x
      → Sleeps s.base t ⊎ HasEnded s.base t
  pub at_rest : RestsInPieces image s → (q : ℕ) → CanMove p source q → ⊥
  -- nor can one whose thread sleeps, where all others are outside the taking and giving up of locks: a thread within a
  -- call too, if its pending word is 0
  pub sleepers : ((t : ℕ) (x : Thread) → s.base.thread t ≡ Some x
      → Sleeps s.base t ⊎ (HasEnded s.base t ⊎ RunsFreely s.base t))
      → (t : ℕ) → Sleeps s.base t → CanMove p source t → ⊥
  -- the source goes on with the machine, whose pieces are steps that count
  pub pace : KeepsPace (stretch_length p) steps actions
  -- what came from outside is the same, in order
  pub strays : processes_of is_stray_kind actions ≡ stray_threads p steps
  pub kills : processes_of is_kill_kind actions ≡ killed_threads steps

-- each run in pieces on the image, over any number of buckets, of fewer than 2^32 steps, is explained by a run of the
-- program; and a thread that goes on behind it by local steps alone, however many they are, comes to no step that may
-- not be
pub record RefinesInPieces (p : Program) (image : Image) : Type 0 where
  pub follows : (buckets : ℕ) (steps : List Step) (s : PieceState) → 0 < buckets → PieceRun image buckets steps s
      → length steps < 2 ^ 32 → ExplainedInPieces p image steps s
  pub locally : (buckets : ℕ) (steps : List Step) (s : PieceState) → 0 < buckets → PieceRun image buckets steps s
      → length steps < 2 ^ 32
      → (t n : ℕ) (x y : Thread) → s.base.thread t ≡ Some x → s.base.asleep t ≡ None → local_after image t n x ≡ Some y
      → NextPieceIsBroken image (record s { base = with_thread s.base t y }) t → ⊥
