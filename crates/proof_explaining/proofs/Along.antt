-- Along a run in pieces the source comes to what it comes to along the trace with whole calls that the run is.
use Rattle.std.proofs.Common.{◌≡◌, ℕ, ◌+◌, ◌<◌, inl, inr, Bool, true, false, List, [], ◌∷◌, ◌++◌, length, refl, ap}
use Rattle.std.proofs.Common.{◌∙◌, subst}
use Rattle.std.specs.Prelude.{◌^◌, MatchBool, if◌then◌else◌}
use Rattle.std.proofs.lemmas.Bool.{false≢true}
use Rattle.robustexit.specs.ExitRules.{exit_of}
use Rattle.locals.specs.Threads.{Thread}
use Rattle.locals.specs.Looks.{Look, Goes, Asks, Leaves, Breaks, Rests, look}
use Rattle.machine.specs.States.{State, opening_state}
use Rattle.machine.specs.Runs.{Doing, Own, Strayed, Killed, Step}
use Rattle.machine.specs.PieceStates.{PieceState, IsHeldRight, opening_pieces}
use Rattle.machine.specs.PieceSteps.{IsOwnPiece, IsPieceDone, IsPieceStep, GoesByPieces, PieceRun}
use Rattle.program.specs.Trees.{Program}
use Rattle.program.specs.WellFormed.{WellFormed}
use Rattle.lowering.specs.Pieces.{code_of, marks_of}
use Rattle.lowering.specs.declared.mark.Mark.{Mark}
use Rattle.std.specs.Prelude.{Option}
use Rattle.proof_commutation.specs.Placed.{actions_up_to}
use Rattle.proof_thread.specs.Deferrals.{mark_of, deferred_by_step}
use Rattle.proof_pieces.specs.Silence.{IsAnswered, IsHushed, IsHeard, MovesAnswered, moves_whole, whole_step, is_silent}
use Rattle.proof_pieces.specs.Silence.{piece_answer}
use Rattle.proof_pieces.specs.Traces.{TraceStep, Loud, Silent, Trace, none_taken, taken}
use Rattle.proof_pieces.specs.Whole.{whole}
use Rattle.proof_pieces.proofs.Runs.{held_kept, opening_held, opening_whole, reduces, which}
use Rattle.proof_simulation.specs.Explaining.{IsDue, IsReached}
use Rattle.proof_simulation.specs.Ordering.{raises_number}
use Rattle.proof_explaining.specs.PieceProgress.{progress_answered, progress_piece, progress_pieces_done}
use Rattle.proof_explaining.specs.PieceProgress.{progress_in_pieces, progress_by_pieces, progress_of_pieces}
use Rattle.proof_explaining.specs.PieceProgress.{explanation_of_pieces}
use Rattle.proof_simulation.specs.Progress.{Progress, answer_whole, visible_step, progress_step, progress_whole_own}
use Rattle.proof_simulation.specs.Progress.{progress_traced, progress_by_trace, progress_of_trace, opening_progress}
use Rattle.proof_simulation.proofs.Explaining.{reached_along, whole_due}
use Rattle.proof_simulation.proofs.Refining.{traced_in_pieces}
use Rattle.refinement.specs.Pieces.{ExplainedInPieces}

-- a step with whole calls and this answer leads there
look_same : (p : Program) (mark : Option Mark) (word : ℕ → ℕ) (s s' : State) (t : ℕ) (woken : List ℕ) (answer : ℕ)
    (g : Progress) (l : Look) (m : MovesAnswered (exit_of p.version) s t woken answer l s')
    → progress_step p (visible_step p word t l (answer_whole (exit_of p.version) s s' t woken l (moves_whole (exit_of
    p.version) s t woken answer l s' m)))
    (deferred_by_step mark l (answer_whole (exit_of p.version) s s' t woken l (moves_whole (exit_of p.version) s t
    woken answer l s' m))) (raises_number l) s' t g
    ≡ progress_step p (visible_step p word t l answer) (deferred_by_step mark l answer) (raises_number l) s' t g
look_same p mark word s s' t woken answer g (Goes x) m = refl
look_same p mark word s s' t woken answer g (Asks request go) m = refl
look_same p mark word s s' t woken answer g (Leaves phase) m = refl
look_same p mark word s s' t woken answer g Breaks m = absurd m
look_same p mark word s s' t woken answer g Rests m = absurd m

visible_same : (p : Program) (word : ℕ → ℕ) (s s' : State) (t : ℕ) (woken : List ℕ) (answer : ℕ) (l : Look)
    (m : MovesAnswered (exit_of p.version) s t woken answer l s')
    → visible_step p word t l (answer_whole (exit_of p.version) s s' t woken l (moves_whole (exit_of p.version) s t
    woken answer l s' m))
    ≡ visible_step p word t l answer
visible_same p word s s' t woken answer (Goes x) m = refl
visible_same p word s s' t woken answer (Asks request go) m = refl
visible_same p word s s' t woken answer (Leaves phase) m = refl
visible_same p word s s' t woken answer Breaks m = absurd m
visible_same p word s s' t woken answer Rests m = absurd m

module _ (p : Program) where
  answered_same : (s s' : State) (t : ℕ) (x : Thread) (woken : List ℕ) (answer : ℕ) (g : Progress)
      (h : IsAnswered (code_of p) s t x woken answer s')
      → progress_whole_own p s s' t woken (whole_step (code_of p) s t x woken answer s' h) g
      ≡ progress_answered p s.word t x answer s' g
  answered_same s s' t x woken answer g h =
      look_same p (mark_of (marks_of p) x) s.word s s' t woken answer g (look (code_of p) t x) h.moves

  -- one step of a trace, along which the source comes to this
  abbrev Along : (s s' : PieceState) → Step → Progress → Progress → Type 0
  Along s s' l g g' =
      (step : TraceStep (code_of p) (whole (code_of p) s) (taken (code_of p) s) l (whole (code_of p) s')
      (taken (code_of p) s'))
      × (progress_traced p (whole (code_of p) s) (whole (code_of p) s') l (taken (code_of p) s)
      (taken (code_of p) s') step g ≡ g')

  own_along : (s s' : PieceState) (t : ℕ) (woken : List ℕ) (pauses : Bool) → IsHeldRight (code_of p) s → (g : Progress)
      → (own : IsOwnPiece (code_of p) s (record { thread = t; woken = woken; pauses = pauses; doing = Own }) s')
      → Along s s' (record { thread = t; woken = woken; pauses = pauses; doing = Own }) g
      (progress_piece p s s' t own.thread woken own.piece g)
  own_along s s' t woken pauses right g own =
      by_silence (is_silent (code_of p) s t own.thread woken s' own.piece)
      (which (code_of p) s s' (record { thread = t; woken = woken; pauses = pauses; doing = Own }) right own)
    where
      l : Step
      l = record { thread = t; woken = woken; pauses = pauses; doing = Own }

      answer : ℕ
      answer = piece_answer (code_of p) s t own.thread woken s' own.piece

      by_silence : (b : Bool)
          → MatchBool b (IsHushed (code_of p) s l s') (IsHeard (code_of p) s l own.thread answer s')
          → Along s s' l g
          (if b then g else progress_answered p s.base.word t own.thread answer (whole (code_of p) s') g)
      by_silence true q = (Silent refl q.1 q.2, refl)
      by_silence false q = (
        Loud
            (whole_step (code_of p) (whole (code_of p) s) t own.thread woken answer (whole (code_of p) s') q.0)
            (λ mine. q.1),
        answered_same (whole (code_of p) s) (whole (code_of p) s') t own.thread woken answer g q.0,
      )

  done_along : (s s' : PieceState) (t : ℕ) (woken : List ℕ) (pauses : Bool) (d : Doing) → IsHeldRight (code_of p) s
      → (g : Progress)
      → (h : IsPieceDone (code_of p) s (record { thread = t; woken = woken; pauses = pauses; doing = d }) s' d)
      → Along s s' (record { thread = t; woken = woken; pauses = pauses; doing = d }) g
      (progress_pieces_done p s s' (record { thread = t; woken = woken; pauses = pauses; doing = d }) d h g)
  done_along s s' t woken pauses Own right g h = own_along s s' t woken pauses right g h
  done_along s s' t woken pauses (Strayed a) right g h =
      elim (reduces (code_of p) s s' (record { thread = t; woken = woken; pauses = pauses; doing = Strayed a }) right h) [
        | inl q ↦ absurd (let isnt : Strayed a ≡ Own = q.0 in cc)
        | inr w ↦ (Loud w (λ mine. absurd (false≢true mine)), refl)
      ]
  done_along s s' t woken pauses (Killed true) right g h =
      elim (reduces (code_of p) s s' (record { thread = t; woken = woken; pauses = pauses; doing = Killed true }) right
      h) [
        | inl q ↦ absurd (let isnt : Killed true ≡ Own = q.0 in cc)
        | inr w ↦ (Loud w (λ mine. absurd (false≢true mine)), refl)
      ]
  done_along s s' t woken pauses (Killed false) right g h =
      elim (reduces (code_of p) s s' (record { thread = t; woken = woken; pauses = pauses; doing = Killed false }) right
      h) [
        | inl q ↦ absurd (let isnt : Killed false ≡ Own = q.0 in cc)
        | inr w ↦ (Loud w (λ mine. absurd (false≢true mine)), refl)
      ]

  goes_along : (steps : List Step) (s s' : PieceState) (g : Progress) → IsHeldRight (code_of p) s
      → (run : GoesByPieces (code_of p) s steps s')
      → (trace : Trace (code_of p) (whole (code_of p) s) (taken (code_of p) s) steps (whole (code_of p) s'))
      × (progress_by_trace p g steps (whole (code_of p) s) (taken (code_of p) s) (whole (code_of p) s') trace
      ≡ progress_by_pieces p g steps s s' run)
  goes_along [] s s' g right run = (ap (whole (code_of p)) run, refl)
  goes_along (l ∷ ls) s s' g right run =
      let first = done_along s run.0 l.thread l.woken l.pauses l.doing right g run.1 in
      let there = progress_traced p (whole (code_of p) s) (whole (code_of p) run.0) l (taken (code_of p) s)
      (taken (code_of p) run.0) first.0 g in
      let rest = goes_along ls run.0 s' there (held_kept (code_of p) s run.0 l right run.1) run.2 in (
        (whole (code_of p) run.0, taken (code_of p) run.0, first.0, rest.0),
        rest.1 ∙ ap (λ (h : Progress). progress_by_pieces p h ls run.0 s' run.2) first.1,
      )

  module _ (n : ℕ) (steps : List Step) (s : PieceState) (some : 0 < n) (run : PieceRun (code_of p) n steps s) where
    -- the trace that a run is
    pub trace_of_pieces :
        (trace : Trace (code_of p) (opening_state (code_of p)) none_taken steps (whole (code_of p) s))
        × (progress_of_trace p steps (whole (code_of p) s) trace ≡ progress_of_pieces p n steps s run)
    trace_of_pieces = subst (λ (z : State). (trace : Trace (code_of p) z none_taken steps (whole (code_of p) s))
        × (progress_by_trace p (opening_progress p) steps z none_taken (whole (code_of p) s) trace
        ≡ progress_of_pieces p n steps s run)) (opening_whole (code_of p) n)
        (goes_along steps (opening_pieces (code_of p) n) s (opening_progress p) (opening_held (code_of p) n some) run)

    pub pieces_reach : (w : WellFormed p) → length steps < 2 ^ 32
        → IsReached p w (length steps) (whole (code_of p) s) (progress_of_pieces p n steps s run)
    pieces_reach w few = subst (λ (g : Progress). IsReached p w (length steps) (whole (code_of p) s) g)
        trace_of_pieces.1 (reached_along p w steps (whole (code_of p) s) trace_of_pieces.0 few)

    pieces_right : IsHeldRight (code_of p) s
    pieces_right = goes_right steps (opening_pieces (code_of p) n) (opening_held (code_of p) n some) run
      where
        goes_right : (ls : List Step) (z : PieceState) → IsHeldRight (code_of p) z → GoesByPieces (code_of p) z ls s
            → IsHeldRight (code_of p) s
        goes_right [] z right go = subst (IsHeldRight (code_of p)) go right
        goes_right (l ∷ ls) z right go = goes_right ls go.0 (held_kept (code_of p) z go.0 l right go.1) go.2

    pub pieces_explained : WellFormed p → length steps < 2 ^ 32
        → (e : ExplainedInPieces p (code_of p) steps s) × (e.actions ≡ explanation_of_pieces p n steps s run)
    pieces_explained w few =
        let e = traced_in_pieces p w steps s pieces_right trace_of_pieces.0 few in (
          e.0,
          e.1 ∙ ap (λ (g : Progress). g.actions ++ actions_up_to s.base.made g.deferred) trace_of_pieces.1,
        )

  -- what is due of a process whose thread takes a visible step
  pub piece_due : (w : WellFormed p) (many : ℕ) (s : PieceState) (g : Progress)
      → IsReached p w many (whole (code_of p) s) g → IsHeldRight (code_of p) s → (l : Step) (s' : PieceState)
      → (own : IsOwnPiece (code_of p) s l s') → many + 1 < 2 ^ 32
      → is_silent (code_of p) s l.thread own.thread l.woken s' own.piece ≡ false
      → visible_step p s.base.word l.thread (look (code_of p) l.thread own.thread)
      (piece_answer (code_of p) s l.thread own.thread l.woken s' own.piece) ≡ true
      → IsDue p (whole (code_of p) s') l.thread g
  piece_due w many s g r right l s' own short heard visible =
      let answer = piece_answer (code_of p) s l.thread own.thread l.woken s' own.piece in
      let q = subst
      (λ b. MatchBool b (IsHushed (code_of p) s l s') (IsHeard (code_of p) s l own.thread answer s')) heard
      (which (code_of p) s s' l right own) in
      whole_due p w many (whole (code_of p) s) g r l.thread l.woken (whole (code_of p) s')
      (whole_step (code_of p) (whole (code_of p) s) l.thread own.thread l.woken answer (whole (code_of p) s') q.0) short
      (visible_same p s.base.word (whole (code_of p) s) (whole (code_of p) s') l.thread l.woken answer
      (look (code_of p) l.thread own.thread) (q.0).moves ∙ visible)

-- a run in pieces goes on by a step
pub pieces_go_on : (p : Program) (g : Progress) (ls : List Step) (s mid : PieceState)
    (run : GoesByPieces (code_of p) s ls mid) (l : Step) (s' : PieceState) (st : IsPieceStep (code_of p) mid l s')
    → (r : GoesByPieces (code_of p) s (ls ++ l ∷ []) s')
    × (progress_by_pieces p g (ls ++ l ∷ []) s s' r
    ≡ progress_in_pieces p mid s' l st (progress_by_pieces p g ls s mid run))
pieces_go_on p g [] s mid run l s' st = subst
    (λ (x : PieceState). (i : IsPieceStep (code_of p) x l s') → (r : GoesByPieces (code_of p) s (l ∷ []) s')
    × (progress_by_pieces p g (l ∷ []) s s' r ≡ progress_in_pieces p x s' l i g)) run (λ i. ((s', i, refl), refl)) st
pieces_go_on p g (x ∷ ls) s mid run l s' st =
    let more = pieces_go_on p (progress_in_pieces p s run.0 x run.1 g) ls run.0 mid run.2 l s' st in
    ((run.0, run.1, more.0), more.1)
