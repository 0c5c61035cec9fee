-- The source behind a log of the machine, entry by entry.
use Rattle.std.specs.Prelude.{ℕ, zero, suc, ◌++◌, Bool, List, replicate, Option, Some, None}
use Rattle.words.specs.Limits.{run_buckets}
use Rattle.words.specs.Updates.{put}
use Rattle.locals.specs.Threads.{Thread}
use Rattle.locals.specs.Steps.{local_after}
use Rattle.locals.specs.Looks.{Look}
use Rattle.machine.specs.declared.event.Entry.{Entry}
use Rattle.machine.specs.declared.event.Event.{Event}
use Rattle.machine.specs.FrontRuns.{EventStep}
use Rattle.machine.specs.Runs.{Doing, Own, Strayed, Killed}
use Rattle.machine.specs.States.{State}
use Rattle.piece_machine.specs.PieceConcrete.{PieceConcrete}
use Rattle.runner.specs.LogRuns.{local_step_of, shared_step_of}
use Rattle.program.specs.Trees.{Program}
use Rattle.lowering.specs.declared.mark.Mark.{Mark}
use Rattle.lowering.specs.Pieces.{code_of, marks_of}
use Rattle.proof_thread.specs.Deferrals.{mark_of, deferred_by_mark}
use Rattle.meaning.specs.Labels.{Kind}
use Rattle.proof_explaining.specs.Events.{ComesTo as CameTo, progress_told, whole_of}
pub use Rattle.proof_explaining.specs.Events.{progress_strayed, progress_killed}
use Rattle.proof_explaining.specs.PieceProgress.{progress_answered}
use Rattle.proof_simulation.specs.Progress.{Progress, visible_step}
use Rattle.proof_simulation.specs.Deferred.{deferred_then}

-- whether the shared step of thread t that looks so, with these words before it and this value in its event, is a
-- visible action, if it isn't a piece behind which a call goes on
abbrev pub is_visible : Program → (word : ℕ → ℕ) → (t : ℕ) → Look → (value : ℕ) → Bool
is_visible p word t l v = visible_step p word t l v

-- what is deferred behind so many local steps of thread t, by the marks at which it stands
abbrev pub deferred_at : List Mark → Option Thread → List Kind → List Kind
deferred_at marks None ks = ks
deferred_at marks (Some x) ks = deferred_then (deferred_by_mark (mark_of marks x)) ks

-- what is deferred of process t behind so many local steps of its thread
abbrev pub deferred_locally : Program → (t steps : ℕ) → Thread → List Kind → List Kind
deferred_locally p t zero x ks = ks
deferred_locally p t (suc n) x ks = deferred_at (marks_of p) (local_after (code_of p) t n x)
    (deferred_locally p t n x ks)

-- what the source has come to behind them
abbrev pub progress_locally : Program → (t steps : ℕ) → Thread → Progress → Progress
progress_locally p t n x g = record g { deferred = put g.deferred t (deferred_locally p t n x (g.deferred t)) }

-- and behind the shared step of a thread that stands here, with these words before it and this value in its event, to
-- this state of the machine, if it isn't a piece behind which a call goes on
abbrev pub progress_shared : Program → (t : ℕ) → Thread → (word : ℕ → ℕ) → (value : ℕ) → State → Progress → Progress
progress_shared p t here word v s g = progress_answered p word t here v s g

-- behind the shared step of an entry, if it has one: such a piece is nothing
abbrev pub progress_end : Program → (t : ℕ) → Thread → (word : ℕ → ℕ) → Option Event → PieceConcrete → Progress
    → Progress
progress_end p t here word None k g = g
progress_end p t here word (Some event) k g = progress_told p t here word event (whole_of p k) g

-- behind an entry whose thread stood there first, and then here, with these words before it
abbrev pub progress_entry : Program → Entry → (there here : Thread) → (word : ℕ → ℕ) → PieceConcrete → Progress
    → Progress
progress_entry p e there here word k g =
    progress_end p e.thread here word e.event k (progress_locally p e.thread e.local there g)

-- behind what came from outside to thread t, by what it is, with these words before it, to this state of the machine
abbrev pub progress_outside : Program → (t : ℕ) → Doing → (word : ℕ → ℕ) → State → Progress → Progress
progress_outside p t Own word s g = g
progress_outside p t (Strayed a) word s g = progress_strayed p t a g
progress_outside p t (Killed begins) word s g = progress_killed p begins word s t g

-- the steps of an entry
abbrev pub entry_steps : Entry → List EventStep
entry_steps e = replicate e.local (local_step_of e.thread) ++ shared_step_of e.thread e.event

-- a run of the machine, which has these steps, leads to what this concrete state stands for, and the source has come to
-- this behind it
abbrev pub ComesTo : Program → List EventStep → PieceConcrete → Progress → Type 0
ComesTo p events k g = CameTo p run_buckets events k g
