-- A legal log is a run of the machine with calls in pieces, step by step, and each run of the machine itself is a log's.
use Rattle.std.specs.Prelude.{◌≡◌, ◌+◌, ◌++◌, ℕ, List, [], ◌∷◌, length, map, replicate, Option, Some, None}
use Rattle.words.specs.Limits.{run_buckets}
use Rattle.isa.specs.Programs.{Program}
use Rattle.machine.specs.declared.event.Entry.{Entry}
use Rattle.machine.specs.declared.event.Event.{Event}
use Rattle.machine.specs.declared.event.EventName.TheVariants as name
use Rattle.machine.specs.States.{state_of, with_thread}
use Rattle.machine.specs.ConcreteServing.{plain}
use Rattle.machine.specs.Runs.{Step}
use Rattle.machine.specs.FrontRuns.{EventStep, label_of, event_label}
use Rattle.machine.specs.PieceStates.{PieceState}
use Rattle.machine.specs.PieceSteps.{PieceRun, NextPieceIsBroken}
use Rattle.piece_machine.specs.PieceConcrete.{PieceConcrete, pieces_at}
use Rattle.piece_machine.specs.PieceDetermined.{IsFit}
use Rattle.piece_machine.specs.PieceFronts.{FrontPieces}
use Rattle.runner.specs.Logs.{Outside, Runs, cost, opening}
use Rattle.runner.specs.Reports.{MeetsBroken}

-- a local step of a thread, and the shared step of an entry, if any
abbrev pub local_step_of : ℕ → EventStep
local_step_of t = record { thread = t; event = plain name.Local 0 }

-- the shared step of an entry, if it has one
abbrev pub shared_step_of : ℕ → Option Event → List EventStep
shared_step_of t None = []
shared_step_of t (Some event) = record { thread = t; event = event } ∷ []

-- the steps of a log, one by one: of each entry its local steps, and then its shared step, if any
abbrev pub steps_of : List Entry → List EventStep
steps_of [] = []
steps_of (e ∷ es) = (replicate e.local (local_step_of e.thread) ++ shared_step_of e.thread e.event) ++ steps_of es

-- where a log leads, its steps lead
abbrev pub StepsSo : Type 0
StepsSo = (p : Program) (k k' : PieceConcrete) (log : List Entry) → Runs p k log k' → FrontPieces p k (steps_of log) k'

-- and a run of the machine itself is that of a log, which has its steps
abbrev pub LogsSo : Type 0
LogsSo =
    (p : Program) (k k' : PieceConcrete) (steps : List EventStep) → FrontPieces p k steps k'
    → (log : List Entry) × Runs p k log k' × (steps_of log ≡ steps)

-- a run of the relation, of as many steps as the log costs, which are the log's own, leads to where the log leads, and what
-- always holds holds there
abbrev pub RunsSo : Type 0
RunsSo =
    (p : Program) (log : List Entry) (k : PieceConcrete) → Runs p (opening p) log k
    → (steps : List Step) × PieceRun p run_buckets steps (pieces_at k) × (length steps ≡ cost log)
    × (map label_of steps ≡ map event_label (steps_of log)) × IsFit p k

-- there a run of the log's steps and of the local steps of the thread behind it leads to where the thread's next step
-- may not be
abbrev pub MeetsSo : Type 0
MeetsSo =
    (p : Program) (may : Outside) (limit : ℕ) (m : MeetsBroken p may limit)
    → (steps : List Step) × (s : PieceState)
    × PieceRun p run_buckets steps s × (length steps ≡ cost m.log + m.count) × NextPieceIsBroken p s m.thread
    × (map label_of steps ≡ map event_label (steps_of m.log ++ replicate m.count (local_step_of m.thread)))

-- there the thread is awake and within no call, and by the local steps of its piece it comes, from where the log leads, to
-- where its next step may not be
abbrev pub LocallySo : Type 0
LocallySo =
    (p : Program) (may : Outside) (limit : ℕ) (m : MeetsBroken p may limit)
    → (m.concrete.concrete.common.asleep m.thread ≡ None)
    × NextPieceIsBroken p (record (pieces_at m.concrete) {
      base = with_thread (state_of m.concrete.concrete) m.thread m.here;
    }) m.thread
