-- How many actions of each process a run of the machine completes, by its steps and the code's marks.
use Rattle.std.proofs.Common.{◌≡◌, ◌≢◌, ℕ, suc, ◌+◌, ◌==◌, ◌&&◌, Bool, true, false, List, [], ◌∷◌, ◌++◌}
use Rattle.std.proofs.Common.{Option, Some, None, length, length-append, refl, ap, sym, ◌∙◌, subst, arith, cond, inl}
use Rattle.std.proofs.Common.{inr}
use Rattle.std.specs.Prelude.{if◌then◌else◌, count_by, map}
use Rattle.std.proofs.lemmas.Bool.{cases_eq, eq-eqb, ne_eqb}
use Rattle.robustexit.specs.ExitRules.{exit_of}
use Rattle.words.specs.Updates.{put}
use Rattle.locals.specs.Looks.{look}
use Rattle.machine.specs.States.{State}
use Rattle.machine.specs.Runs.{Doing, Own, Strayed, Killed, Step}
use Rattle.program.specs.declared.kinds.Member.{Member}
use Rattle.proof_thread.specs.Completing.{IsOwn}
use Rattle.refinement.specs.Outside.{is_condition_word}
use Rattle.proof_simulation.specs.Strays.{stray_kinds}
use Rattle.program.specs.Trees.{Program}
use Rattle.lowering.specs.Pieces.{code_of, marks_of}
use Rattle.meaning.specs.Labels.{Kind, Stray, Kill, Action, kind_of}
use Rattle.meaning.specs.States.{SourceState}
use Rattle.proof_thread.specs.Deferrals.{mark_of, deferred_by_step}
use Rattle.words.proofs.Updates.{put_same, put_other}
use Rattle.refinement.specs.Pace.{is_action_of}
use Rattle.proof_simulation.specs.Progress.{answer_whole, visible_step}
use Rattle.proof_pieces.specs.Traces.{TraceStep, Loud, Silent, Trace}
use Rattle.proof_pieces.specs.WholeCalls.{IsWholeDone}
use Rattle.proof_simulation.specs.Ordering.{Places, act}
use Rattle.proof_simulation.specs.Ordering as P
use Rattle.proof_simulation.specs.Deferred.{AreOwn, Stage, Agrees, is_failing, has_failed, deferred_then}
use Rattle.proof_simulation.proofs.Paces.{count_by-cons, own_action}
use Rattle.proof_simulation.proofs.Tracking.{stays_agreed, and_false, failed_first, more_deferred}

abbrev pub count : ℕ → List Action → ℕ
count t actions = count_by (is_action_of t) actions

-- of one process alone
abbrev pub of_one : ℕ → ℕ → ℕ → ℕ
of_one u t n = if u == t then n else 0

-- at a step behind which these wait
abbrev pub step_count : Bool → Option Kind → List Kind → ℕ
step_count true deferral ks = 1
step_count false None ks = 0
step_count false (Some k) ks = if is_failing k && has_failed ks then 0 else 1

abbrev pub behind : Bool → Option Kind → List Kind → List Kind
behind true deferral ks = []
behind false deferral ks = deferred_then deferral ks

-- how many actions of its process a step with whole calls takes, and what waits behind it
abbrev pub done_count : (p : Program) → (s s' : State) → (l : Step) → (d : Doing) → IsWholeDone (code_of p) s l s' d
    → List Kind → ℕ
done_count p s s' l Own st ks =
    let looks = look (code_of p) l.thread st.thread in
    let answer = answer_whole (exit_of p.version) s s' l.thread l.woken looks st.moves in
    step_count (visible_step p s.word l.thread looks answer) (deferred_by_step (mark_of (marks_of p) st.thread) looks
    answer) ks
done_count p s s' l (Strayed a) st ks = 0
done_count p s s' l (Killed begins) st ks = 0

abbrev pub done_behind : (p : Program) → (s s' : State) → (l : Step) → (d : Doing) → IsWholeDone (code_of p) s l s' d
    → List Kind → List Kind
done_behind p s s' l Own st ks =
    let looks = look (code_of p) l.thread st.thread in
    let answer = answer_whole (exit_of p.version) s s' l.thread l.woken looks st.moves in
    behind (visible_step p s.word l.thread looks answer) (deferred_by_step (mark_of (marks_of p) st.thread) looks
    answer) ks
done_behind p s s' l (Strayed a) st ks = if is_condition_word p a then [] else ks
done_behind p s s' l (Killed begins) st ks = if begins then [] else ks

-- the same of a step of a trace
abbrev pub traced_count : (p : Program) → (s s' : State) → (l : Step) → (taken next : ℕ → ℕ)
    → TraceStep (code_of p) s taken l s' next → List Kind → ℕ
traced_count p s s' l taken next (Loud st time) ks = done_count p s s' l l.doing st ks
traced_count p s s' l taken next (Silent own same piece) ks = 0

abbrev pub traced_behind : (p : Program) → (s s' : State) → (l : Step) → (taken next : ℕ → ℕ)
    → TraceStep (code_of p) s taken l s' next → List Kind → List Kind
traced_behind p s s' l taken next (Loud st time) ks = done_behind p s s' l l.doing st ks
traced_behind p s s' l taken next (Silent own same piece) ks = ks

abbrev pub counts : (p : Program) → (ℕ → List Kind) → (steps : List Step) → (s : State) → (taken : ℕ → ℕ) → (s' : State)
    → Trace (code_of p) s taken steps s' → ℕ → ℕ
counts p deferred [] s taken s' run t = 0
counts p deferred (l ∷ ls) s taken s' run t =
    of_one l.thread t (traced_count p s run.0 l taken run.1 run.2 (deferred l.thread))
    + counts p (put deferred l.thread (traced_behind p s run.0 l taken run.1 run.2 (deferred l.thread))) ls run.0 run.1
    s' run.3 t

abbrev none : Bool → ℕ
none b = if b then 0 else 0

of_zero : (b : Bool) → none b ≡ 0
of_zero true = refl
of_zero false = refl

pub of_none : (u t : ℕ) → of_one u t 0 ≡ 0
of_none u t = of_zero (u == t)

of_more : (b : Bool) (n : ℕ) → cond b 1 0 + (if b then n else 0) ≡ (if b then suc n else 0)
of_more true n = omega arith
of_more false n = refl

pub count_map : (u t : ℕ) (ks : List Kind) → AreOwn ks → count t (map (act u) ks) ≡ of_one u t (length ks)
count_map u t [] own = sym (of_zero (u == t))
count_map u t (k ∷ ks) own = count_by-cons (is_action_of t) (act u k) (map (act u) ks)
    ∙ ap (λ b. cond b 1 0 + count t (map (act u) ks)) (own_action u t k own.0)
    ∙ ap (λ n. cond (u == t) 1 0 + n) (count_map u t ks own.1) ∙ of_more (u == t) (length ks)

-- an action from outside counts for nobody
pub count_stray : (u t : ℕ) (o : Option Member) → count t (map (act u) (stray_kinds o)) ≡ 0
count_stray u t None = refl
count_stray u t (Some c) = count_by-cons (is_action_of t) (act u (Stray c)) []
    ∙ ap (λ b. cond b 1 0 + count t []) (and_false (u == t))

pub count_kill : (u t : ℕ) (resumed : List ℕ) (last : Option ℕ) → count t (act u (Kill resumed last) ∷ []) ≡ 0
count_kill u t resumed last = count_by-cons (is_action_of t) (act u (Kill resumed last)) []
    ∙ ap (λ b. cond b 1 0 + count t []) (and_false (u == t))

pub count_one : (u t : ℕ) (k : Kind) (actions : List Action) → IsOwn k
    → count t (act u k ∷ actions) ≡ of_one u t 1 + count t actions
count_one u t k actions own = count_by-cons (is_action_of t) (act u k) actions
    ∙ ap (λ b. cond b 1 0 + count t actions) (own_action u t k own) ∙ by_test (u == t)
  where
    by_test : (b : Bool) → cond b 1 0 + count t actions ≡ (if b then 1 else 0) + count t actions
    by_test true = refl
    by_test false = refl

-- what is placed at a step, and the faults that wait behind it
pub placed_count : (p : Program) (s' : State) (u : ℕ) (c c' : SourceState) (done : Bool) (deferral : Option Kind)
    (was now : Stage) (kinds ks : List Kind) → Places p s' u c c' done deferral was now kinds
    → Agrees was (has_failed ks)
    → (length kinds ≡ step_count done deferral ks) × Agrees now (has_failed (behind done deferral ks))
placed_count p s' u c c' done deferral was now kinds ks (P.nothing none plain stays same) h = (
  sym (ap (λ b. step_count b deferral ks) none ∙ ap (λ (i : Option Kind). step_count false i ks) plain),
  subst (λ (i : List Kind). Agrees now (has_failed i))
      (sym (ap (λ b. behind b deferral ks) none ∙ ap (λ (i : Option Kind). behind false i ks) plain))
      (stays_agreed was now (has_failed ks) stays h),
)
placed_count p s' u c c' done deferral was now kinds ks (P.again fault none fails met leaves same) h =
    let failed : has_failed ks ≡ true = subst (λ (x : Stage). Agrees x (has_failed ks)) met h in (
      sym (ap (λ b. step_count b deferral ks) none ∙ ap (λ (i : Option Kind). step_count false i ks) fails
          ∙ ap (λ b. if b then 0 else 1) failed),
      subst (λ (x : Stage). Agrees x (has_failed (behind done deferral ks))) (sym leaves) tt,
    )
placed_count p s' u c c' done deferral was now kinds ks (P.waits q r label none told works here stands may same) h =
    let k = kind_of label in
    let fine : has_failed ks ≡ false = subst (λ (x : Stage). Agrees x (has_failed ks)) works h in (
      sym (ap (λ b. step_count b deferral ks) none ∙ ap (λ (i : Option Kind). step_count false i ks) told
          ∙ ap (λ b. if is_failing k && b then 0 else 1) fine ∙ ap (λ b. if b then 0 else 1) (and_false
          (is_failing k))),
      subst (λ (i : List Kind). Agrees now (has_failed i))
          (sym (ap (λ b. behind b deferral ks) none ∙ ap (λ (i : Option Kind). behind false i ks) told
          ∙ more_deferred ks k fine)) (subst (λ b. Agrees now b) (sym (failed_first ks k fine)) here),
    )
placed_count p s' u c c' done deferral was now kinds ks
    (P.acts q r label effect T is calm visible stands takes allows holder
    keeps resumes same) h = (
      sym (ap (λ b. step_count b deferral ks) is),
      subst (λ (i : List Kind). Agrees now (has_failed i)) (sym (ap (λ b. behind b deferral ks) is)) calm,
    )

either_length : (b : Bool) (ks : List Kind) (k : Kind)
    → length (if b then ks else ks ++ k ∷ []) ≡ length ks + (if b then 0 else 1)
either_length true ks k = omega arith
either_length false ks k = length-append ks (k ∷ [])

deferred_length : (deferral : Option Kind) (ks : List Kind)
    → length (deferred_then deferral ks) ≡ length ks + step_count false deferral ks
deferred_length None ks = omega arith
deferred_length (Some k) ks = either_length (is_failing k && has_failed ks) ks k

yes_one : (u t n : ℕ) → u ≡ t → of_one u t n ≡ n
yes_one u t n e = ap (λ b. if b then n else 0) (eq-eqb u t e)

no_one : (u t n : ℕ) → u ≢ t → of_one u t n ≡ 0
no_one u t n o = ap (λ b. if b then n else 0) (ne_eqb u t o)

-- one more waits, or none any more
pub length_waits : (w : ℕ → List Kind) (u t : ℕ) (deferral : Option Kind)
    → length (put w u (deferred_then deferral (w u)) t) ≡ length (w t) + of_one u t (step_count false deferral (w u))
length_waits w u t deferral = elim (cases_eq u t) [
  | inl e ↦
      let one = yes_one u t (step_count false deferral (w u)) e in
      let here : put w u (deferred_then deferral (w u)) t ≡ deferred_then deferral (w u) =
      ap (put w u (deferred_then deferral (w u))) (sym e) ∙ put_same w u (deferred_then deferral (w u)) in
      let long = ap (λ (i : List Kind). length i) here in
      let more = deferred_length deferral (w u) in
      let same = ap (λ i. length (w i)) e in
      omega (arith, one, long, more, same)
  | inr o ↦
      let one = no_one u t (step_count false deferral (w u)) o in
      let long = ap (λ (i : List Kind). length i) (put_other w u (deferred_then deferral (w u)) t (λ e. o (sym e))) in
      omega (arith, one, long)
]

pub length_taken : (w : ℕ → List Kind) (u t : ℕ)
    → length (put w u [] t) + of_one u t (length (w u)) ≡ length (w t)
length_taken w u t = elim (cases_eq u t) [
  | inl e ↦
      let one = yes_one u t (length (w u)) e in
      let here : put w u [] t ≡ [] = ap (put w u []) (sym e) ∙ put_same w u [] in
      let long = ap (λ (i : List Kind). length i) here in
      let same = ap (λ i. length (w i)) e in
      omega (arith, one, long, same)
  | inr o ↦
      let one = no_one u t (length (w u)) o in
      let long = ap (λ (i : List Kind). length i) (put_other w u [] t (λ e. o (sym e))) in
      omega (arith, one, long)
]
