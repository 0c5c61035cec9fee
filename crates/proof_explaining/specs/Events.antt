-- How far the source has come behind the events of a machine whose futex calls are taken in pieces: what an event shows is
-- enough.
use Rattle.std.specs.Prelude.{ℕ, ◌≡◌, ◌<◌, Bool, true, false, if◌then◌else◌, List, map}
use Rattle.locals.specs.Threads.{Thread}
use Rattle.machine.specs.ConcretePieces.{is_piece}
use Rattle.machine.specs.FrontRuns.{EventStep, label_of, event_label}
use Rattle.machine.specs.PieceSteps.{PieceRun}
use Rattle.machine.specs.Runs.{Step}
use Rattle.machine.specs.States.{State}
use Rattle.machine.specs.declared.event.Event.{Event}
use Rattle.piece_machine.specs.PieceConcrete.{PieceConcrete, pieces_at}
use Rattle.piece_machine.specs.PieceDetermined.{IsFit}
use Rattle.program.specs.Trees.{Program}
use Rattle.lowering.specs.Pieces.{code_of}
use Rattle.proof_explaining.specs.PieceProgress.{progress_answered, progress_of_pieces}
use Rattle.proof_pieces.specs.Whole.{whole}
use Rattle.proof_simulation.specs.Progress.{Progress, progress_stray, progress_kill}
use Rattle.proof_simulation.specs.Strays.{stray_condition}

-- the state of whole calls that it stands for, where a program's code runs
abbrev pub whole_of : Program → PieceConcrete → State
whole_of p k = whole (code_of p) (pieces_at k)

-- behind a step of thread t, which stood here, with these words before it and this event, to this state of whole calls: a
-- piece behind which its call goes on is nothing
abbrev pub progress_told : Program → (t : ℕ) → Thread → (word : ℕ → ℕ) → Event → State → Progress → Progress
progress_told p t here word event s g =
    if is_piece event.name then g else progress_answered p word t here event.value s g

-- behind a wake of thread t from outside, which slept at this address
abbrev pub progress_strayed : Program → (t address : ℕ) → Progress → Progress
progress_strayed p t a g = progress_stray p (stray_condition p a (g.source.table.waits t)) t g

-- behind a kill of thread t, with these words before it, to this state of whole calls, by whether it begins to die
abbrev pub progress_killed : Program → (begins : Bool) → (word : ℕ → ℕ) → State → (t : ℕ) → Progress → Progress
progress_killed p true word s t g = progress_kill p word s t g
progress_killed p false word s t g = g

-- a run in pieces over so many buckets, which has these steps, leads to what this stands for, and the source has come to
-- this behind it
pub record ComesTo (p : Program) (buckets : ℕ) (events : List EventStep) (k : PieceConcrete) (g : Progress) : Type 0
  where
    pub some : 0 < buckets
    pub fit : IsFit (code_of p) k
    pub steps : List Step
    pub run : PieceRun (code_of p) buckets steps (pieces_at k)
    pub labels : map label_of steps ≡ map event_label events
    pub comes : progress_of_pieces p buckets steps (pieces_at k) run ≡ g
