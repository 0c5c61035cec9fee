-- How far the source has come behind some steps of the machine with futex calls in pieces, as a function of the steps;
-- and the run of the source that explains them.
use Rattle.std.specs.Prelude.{ℕ, Bool, true, false, if◌then◌else◌, List, [], ◌∷◌, ◌++◌}
use Rattle.locals.specs.Threads.{Thread}
use Rattle.locals.specs.Looks.{look}
use Rattle.machine.specs.States.{State}
use Rattle.machine.specs.Runs.{Doing, Own, Strayed, Killed, Step}
use Rattle.machine.specs.PieceStates.{PieceState, opening_pieces}
use Rattle.machine.specs.PieceSteps.{Piece, IsPieceDone, IsPieceStep, GoesByPieces, PieceRun}
use Rattle.program.specs.Trees.{Program}
use Rattle.lowering.specs.Pieces.{code_of, marks_of}
use Rattle.meaning.specs.Labels.{Action}
use Rattle.proof_commutation.specs.Placed.{actions_up_to}
use Rattle.proof_thread.specs.Deferrals.{mark_of, deferred_by_step}
use Rattle.proof_pieces.specs.Silence.{is_silent, piece_answer}
use Rattle.proof_pieces.specs.Whole.{whole}
use Rattle.proof_simulation.specs.Ordering.{raises_number}
use Rattle.proof_simulation.specs.Progress.{Progress, visible_step, progress_step, progress_stray, progress_kill}
use Rattle.proof_simulation.specs.Progress.{opening_progress}
use Rattle.proof_simulation.specs.Strays.{stray_condition}

-- behind a step of thread t, which stood here, with these words before it and this answer, to this state of whole calls
abbrev pub progress_answered : Program → (word : ℕ → ℕ) → (t : ℕ) → Thread → (answer : ℕ) → State → Progress → Progress
progress_answered p word t x answer s g =
    let looks = look (code_of p) t x in
    progress_step p (visible_step p word t looks answer) (deferred_by_step (mark_of (marks_of p) x) looks answer)
    (raises_number looks) s t g

-- whether a piece of thread t, which stood here, is a visible action, if it isn't silent
abbrev pub piece_is_visible : (p : Program) → (s : PieceState) → (t : ℕ) → (x : Thread) → (woken : List ℕ)
    → (s' : PieceState) → Piece (code_of p) s t x woken s' → Bool
piece_is_visible p s t x woken s' piece =
    visible_step p s.base.word t (look (code_of p) t x) (piece_answer (code_of p) s t x woken s' piece)

-- behind a piece of thread t, which stood here: a silent one leads nowhere
abbrev pub progress_piece : (p : Program) → (s s' : PieceState) → (t : ℕ) → (x : Thread) → (woken : List ℕ)
    → Piece (code_of p) s t x woken s' → Progress → Progress
progress_piece p s s' t x woken piece g =
    if is_silent (code_of p) s t x woken s' piece then g
    else progress_answered p s.base.word t x (piece_answer (code_of p) s t x woken s' piece) (whole (code_of p) s') g

-- behind a step in pieces, by what it is
abbrev pub progress_pieces_done : (p : Program) → (s s' : PieceState) → (l : Step) → (d : Doing)
    → IsPieceDone (code_of p) s l s' d → Progress → Progress
progress_pieces_done p s s' l Own st g = progress_piece p s s' l.thread st.thread l.woken st.piece g
progress_pieces_done p s s' l (Strayed a) st g =
    progress_stray p (stray_condition p a (g.source.table.waits l.thread)) l.thread g
progress_pieces_done p s s' l (Killed true) st g = progress_kill p s.base.word (whole (code_of p) s') l.thread g
progress_pieces_done p s s' l (Killed false) st g = g

-- behind a step in pieces
abbrev pub progress_in_pieces : (p : Program) → (s s' : PieceState) → (l : Step) → IsPieceStep (code_of p) s l s'
    → Progress → Progress
progress_in_pieces p s s' l st g = progress_pieces_done p s s' l l.doing st g

-- behind several
abbrev pub progress_by_pieces : (p : Program) → Progress → (steps : List Step) → (s s' : PieceState)
    → GoesByPieces (code_of p) s steps s' → Progress
progress_by_pieces p g [] s s' run = g
progress_by_pieces p g (l ∷ ls) s s' run =
    progress_by_pieces p (progress_in_pieces p s run.0 l run.1 g) ls run.0 s' run.2

-- of a run from the opening state, over so many buckets
abbrev pub progress_of_pieces : (p : Program) (n : ℕ) (steps : List Step) (s : PieceState)
    → PieceRun (code_of p) n steps s → Progress
progress_of_pieces p n steps s run =
    progress_by_pieces p (opening_progress p) steps (opening_pieces (code_of p) n) s run

-- all actions that the source has come to, and then what is deferred
abbrev pub explanation_of_pieces : (p : Program) (n : ℕ) (steps : List Step) (s : PieceState)
    → PieceRun (code_of p) n steps s → List Action
explanation_of_pieces p n steps s run =
    let g = progress_of_pieces p n steps s run in g.actions ++ actions_up_to s.base.made g.deferred
