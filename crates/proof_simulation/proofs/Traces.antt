-- A run of the machine is a trace without silent steps, along which the source comes to the same.
use Rattle.std.proofs.Common.{◌≡◌, ℕ, true, List, [], ◌∷◌, inl, refl, ap, sym, ◌∙◌, arith}
use Rattle.std.proofs.lemmas.Bool.{false≢true}
use Rattle.robustexit.specs.ExitRules.{exit_of}
use Rattle.locals.specs.Looks.{look}
use Rattle.machine.specs.States.{State}
use Rattle.machine.specs.Runs.{Doing, Own, Strayed, Killed, is_own, Step, IsOwnStep, IsDone, GoesBy}
use Rattle.program.specs.Trees.{Program}
use Rattle.lowering.specs.Pieces.{code_of, marks_of}
use Rattle.proof_thread.specs.Deferrals.{mark_of, deferred_by_step}
use Rattle.proof_simulation.specs.Ordering.{raises_number}
use Rattle.proof_pieces.specs.Traces.{KeepsTime, Loud, Trace, none_taken}
use Rattle.proof_simulation.specs.Progress.{Progress, visible_step, progress_step, progress_own, progress_done}
use Rattle.proof_simulation.specs.Progress.{progress_by, progress_whole_own, progress_whole, progress_by_trace}
use Rattle.proof_simulation.proofs.WholeCalls.{whole_own, whole_done, answer_same}

pub keeps_time : (p : Program) (s : State) (l : Step) (s' : State) (d : Doing) → IsDone (code_of p) s l s' d
    → is_own d ≡ true → KeepsTime (code_of p) s none_taken l s'
keeps_time p s l s' Own st own = record { few = omega arith; goes_on = λ on. inl (sym st.pauses ∙ on) }
keeps_time p s l s' (Strayed a) st own = absurd (false≢true own)
keeps_time p s l s' (Killed begins) st own = absurd (false≢true own)

abbrev pub trace_of : (p : Program) → (steps : List Step) → (s s' : State) → GoesBy (code_of p) s steps s'
    → Trace (code_of p) s none_taken steps s'
trace_of p [] s s' run = run
trace_of p (l ∷ ls) s s' run = (
  run.0,
  none_taken,
  Loud (whole_done p s l run.0 l.doing run.1) (keeps_time p s l run.0 l.doing run.1),
  trace_of p ls run.0 s' run.2,
)

own_same : (p : Program) (s s' : State) (l : Step) (st : IsOwnStep (code_of p) s l s') (g : Progress)
    → progress_whole_own p s s' l.thread l.woken (whole_own p s l s' st) g ≡ progress_own p s s' l st g
own_same p s s' l st g =
    let looks = look (code_of p) l.thread st.thread in
    ap (λ (a : ℕ). progress_step p (visible_step p s.word l.thread looks a)
    (deferred_by_step (mark_of (marks_of p) st.thread) looks a) (raises_number looks) s' l.thread g)
    (answer_same (exit_of p.version) s s' l.thread l.woken looks st.moves)

done_same : (p : Program) (s s' : State) (l : Step) (d : Doing) (st : IsDone (code_of p) s l s' d) (g : Progress)
    → progress_whole p s s' l d (whole_done p s l s' d st) g ≡ progress_done p s s' l d st g
done_same p s s' l Own st g = own_same p s s' l st g
done_same p s s' l (Strayed a) st g = refl
done_same p s s' l (Killed begins) st g = refl

pub progress_same : (p : Program) (g : Progress) (steps : List Step) (s s' : State)
    (run : GoesBy (code_of p) s steps s')
    → progress_by_trace p g steps s none_taken s' (trace_of p steps s s' run) ≡ progress_by p g steps s s' run
progress_same p g [] s s' run = refl
progress_same p g (l ∷ ls) s s' run =
    progress_same p (progress_whole p s run.0 l l.doing (whole_done p s l run.0 l.doing run.1) g) ls run.0 s' run.2
    ∙ ap (λ (h : Progress). progress_by p h ls run.0 s' run.2) (done_same p s run.0 l l.doing run.1 g)
