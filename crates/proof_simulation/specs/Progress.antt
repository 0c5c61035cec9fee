-- How far the source has come behind some steps of the machine, as a function of the steps.
use Rattle.std.specs.Prelude.{ℕ, Bool, true, false, List, [], ◌∷◌, ◌++◌, Option, Some, None}
use Rattle.program.specs.declared.kinds.Member.{Member}
use Rattle.proof_simulation.specs.Strays.{stray_condition, stray_kinds, after_stray}
use Rattle.words.specs.Updates.{put}
use Rattle.robustexit.specs.declared.rule.ExitRule.{ExitRule}
use Rattle.robustexit.specs.ExitRules.{exit_of}
use Rattle.locals.specs.Looks.{Look, Goes, Asks, Leaves, Breaks, Rests, look}
use Rattle.machine.specs.States.{State, opening_state}
use Rattle.machine.specs.Runs.{Doing, Own, Strayed, Killed, Step, Moves, IsOwnStep, IsDone, IsStep, GoesBy, MachineRun}
use Rattle.program.specs.Trees.{Program}
use Rattle.lowering.specs.Pieces.{code_of, marks_of}
use Rattle.meaning.specs.Labels.{Kind, Kill, Action}
use Rattle.meaning.specs.States.{SourceState, opening}
use Rattle.proof_commutation.specs.Placed.{actions_of}
use Rattle.proof_thread.specs.Deferrals.{mark_of, deferred_by_step}
use Rattle.proof_simulation.specs.Kills.{killed_last, killed_resumed, after_kill}
use Rattle.proof_simulation.specs.Next.{after_next, next_kinds, next_visible, offer_of_process, take_deferred}
use Rattle.proof_simulation.specs.Ordering.{act, completes, completes_exit, raises_number}
use Rattle.proof_simulation.specs.Deferred.{deferred_then, raised_then}
use Rattle.proof_pieces.specs.WholeCalls.{MovesWhole, IsWholeStep, IsWholeDone}
use Rattle.proof_pieces.specs.Traces.{TraceStep, Loud, Silent, Trace, none_taken}

-- the answer to what a step asks, by any rule of exits
abbrev pub answer_in : (rule : ExitRule) (s s' : State) (t : ℕ) (woken : List ℕ) (l : Look)
    → Moves rule s t woken l s' → ℕ
answer_in rule s s' t woken (Goes x) g = 0
answer_in rule s s' t woken (Asks request go) g = g.0
answer_in rule s s' t woken (Leaves phase) g = 0
answer_in rule s s' t woken Breaks g = 0
answer_in rule s s' t woken Rests g = 0

-- the same with whole calls
abbrev pub answer_whole : (rule : ExitRule) (s s' : State) (t : ℕ) (woken : List ℕ) (l : Look)
    → MovesWhole rule s t woken l s' → ℕ
answer_whole rule s s' t woken (Goes x) g = 0
answer_whole rule s s' t woken (Asks request go) g = g.0
answer_whole rule s s' t woken (Leaves phase) g = 0
answer_whole rule s s' t woken Breaks g = 0
answer_whole rule s s' t woken Rests g = 0

-- whether a step of thread t that looks so is visible, by the words before it
abbrev pub visible_step : Program → (word : ℕ → ℕ) → ℕ → Look → (answer : ℕ) → Bool
visible_step p word t (Goes x) r = false
visible_step p word t (Asks request go) r = completes p request r
visible_step p word t (Leaves phase) r = completes_exit word t phase
visible_step p word t Breaks r = false
visible_step p word t Rests r = false

-- a run of the source behind some steps of the machine: its actions, where they lead, and what is still deferred of
-- each process; and which threads have raised the number of a condition's word, and not yet woken who slept on it
pub record Progress : Type 0 where
  pub actions : List Action
  pub source : SourceState
  pub deferred : ℕ → List Kind
  pub raised : ℕ → Bool

-- what is deferred of process t is taken
abbrev pub progress_caught_up : Program → (t : ℕ) → Progress → Progress
progress_caught_up p t g = record g {
  actions = g.actions ++ actions_of t (g.deferred t);
  source = take_deferred p t (g.deferred t) g.source;
  deferred = put g.deferred t [];
}

-- and the next visible action of it, by a step to this state of the machine
abbrev pub progress_next : Program → State → (t : ℕ) → Progress → Progress
progress_next p s t g =
    let next = next_visible p s t g.source in
    record g {
      actions = g.actions ++ actions_of t (next_kinds next);
      source = after_next t next g.source;
    }

-- behind a visible step of process t; behind another, one more may be deferred, or its thread has raised a number
abbrev pub progress_step : Program → (visible : Bool) → (deferral : Option Kind) → (raises : Bool) → State → (t : ℕ)
    → Progress → Progress
progress_step p true deferral raises s t g =
    let next = progress_next p s t (progress_caught_up p t g) in
    record next { raised = put g.raised t (raised_then true raises (g.raised t)) }
progress_step p false deferral raises s t g = record g {
  deferred = put g.deferred t (deferred_then deferral (g.deferred t));
  raised = put g.raised t (raised_then false raises (g.raised t));
}

-- behind a wake from outside, by the condition that process t waited on, if its thread slept on that one's word: what
-- is deferred of the process is taken, and then it waits on the condition no longer
abbrev pub progress_stray : Program → Option Member → (t : ℕ) → Progress → Progress
progress_stray p None t g = g
progress_stray p (Some c) t g =
    let caught_up = progress_caught_up p t g in
    record caught_up {
      actions = caught_up.actions ++ actions_of t (stray_kinds (Some c));
      source = after_stray t (Some c) caught_up.source;
    }

-- behind a kill of thread t, with these words before it, which led to this state of the machine: what is deferred of
-- the process is taken, and then it is killed
abbrev pub progress_kill : Program → (word : ℕ → ℕ) → State → (t : ℕ) → Progress → Progress
progress_kill p word s t g =
    let caught_up = progress_caught_up p t g in
    let a = caught_up.source in
    let resumed = killed_resumed p s a.table (g.raised t) (offer_of_process p a.variable (a.process t)) in
    let last = killed_last p word t in
    record caught_up {
      actions = caught_up.actions ++ act t (Kill resumed last) ∷ [];
      source = after_kill t resumed last a;
      raised = put g.raised t false;
    }

-- behind a step of thread t
abbrev pub progress_own : (p : Program) → (s s' : State) → (l : Step) → IsOwnStep (code_of p) s l s'
    → Progress → Progress
progress_own p s s' l st g =
    let looks = look (code_of p) l.thread st.thread in
    let answer = answer_in (exit_of p.version) s s' l.thread l.woken looks st.moves in
    let deferral = deferred_by_step (mark_of (marks_of p) st.thread) looks answer in
    progress_step p (visible_step p s.word l.thread looks answer) deferral (raises_number looks) s' l.thread g

-- behind a step of the machine, by what it is
abbrev pub progress_done : (p : Program) → (s s' : State) → (l : Step) → (d : Doing)
    → IsDone (code_of p) s l s' d → Progress → Progress
progress_done p s s' l Own st g = progress_own p s s' l st g
progress_done p s s' l (Strayed a) st g =
    progress_stray p (stray_condition p a (g.source.table.waits l.thread)) l.thread g
progress_done p s s' l (Killed true) st g = progress_kill p s.word s' l.thread g
progress_done p s s' l (Killed false) st g = g

-- behind a step of the machine
abbrev pub progress_taken : (p : Program) → (s s' : State) → (l : Step) → IsStep (code_of p) s l s'
    → Progress → Progress
progress_taken p s s' l st g = progress_done p s s' l l.doing st g

-- behind several steps of the machine
abbrev pub progress_by : (p : Program) → Progress → (steps : List Step) → (s s' : State)
    → GoesBy (code_of p) s steps s' → Progress
progress_by p g [] s s' run = g
progress_by p g (l ∷ ls) s s' run = progress_by p (progress_taken p s run.0 l run.1 g) ls run.0 s' run.2

-- before the first step
abbrev pub opening_progress : Program → Progress
opening_progress p = record { actions = []; source = opening p; deferred = λ t. []; raised = λ t. false }

-- of a run from the opening state
abbrev pub progress : (p : Program) (steps : List Step) (s : State) → MachineRun (code_of p) steps s → Progress
progress p steps s run = progress_by p (opening_progress p) steps (opening_state (code_of p)) s run

-- behind a step of thread t with whole calls
abbrev pub progress_whole_own : (p : Program) → (s s' : State) → (t : ℕ) → (woken : List ℕ)
    → IsWholeStep (code_of p) s t woken s' → Progress → Progress
progress_whole_own p s s' t woken st g =
    let looks = look (code_of p) t st.thread in
    let answer = answer_whole (exit_of p.version) s s' t woken looks st.moves in
    let deferral = deferred_by_step (mark_of (marks_of p) st.thread) looks answer in
    progress_step p (visible_step p s.word t looks answer) deferral (raises_number looks) s' t g

-- behind a step with whole calls, by what it is
abbrev pub progress_whole : (p : Program) → (s s' : State) → (l : Step) → (d : Doing)
    → IsWholeDone (code_of p) s l s' d → Progress → Progress
progress_whole p s s' l Own st g = progress_whole_own p s s' l.thread l.woken st g
progress_whole p s s' l (Strayed a) st g = progress_done p s s' l (Strayed a) st g
progress_whole p s s' l (Killed begins) st g = progress_done p s s' l (Killed begins) st g

-- behind a step of a trace: a silent one leads nowhere
abbrev pub progress_traced : (p : Program) → (s s' : State) → (l : Step) → (taken next : ℕ → ℕ)
    → TraceStep (code_of p) s taken l s' next → Progress → Progress
progress_traced p s s' l taken next (Loud st time) g = progress_whole p s s' l l.doing st g
progress_traced p s s' l taken next (Silent own same piece) g = g

-- behind several steps of one
abbrev pub progress_by_trace : (p : Program) → Progress → (steps : List Step) → (s : State) → (taken : ℕ → ℕ)
    → (s' : State) → Trace (code_of p) s taken steps s' → Progress
progress_by_trace p g [] s taken s' run = g
progress_by_trace p g (l ∷ ls) s taken s' run =
    progress_by_trace p (progress_traced p s run.0 l taken run.1 run.2 g) ls run.0 run.1 s' run.3

-- of a trace from the opening state
abbrev pub progress_of_trace : (p : Program) (steps : List Step) (s : State)
    → Trace (code_of p) (opening_state (code_of p)) none_taken steps s → Progress
progress_of_trace p steps s run =
    progress_by_trace p (opening_progress p) steps (opening_state (code_of p)) none_taken s run
