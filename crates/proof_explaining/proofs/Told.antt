-- A step of the machine in pieces leads the source where its event says.
use Rattle.std.proofs.Common.{◌≡◌, ◌≢◌, ℕ, ◌+◌, ◌<◌, ◌%◌, ◌==◌, Bool, true, false, List, [], ◌∷◌, length}
use Rattle.std.proofs.Common.{Some, None, Result, Ok, Err, refl, ap, sym, ◌∙◌, subst, arith, ◌++◌, inl, inr}
use Rattle.std.specs.Prelude.{◌^◌, if◌then◌else◌, map}
use Rattle.std.proofs.lemmas.List.{length-map}
use Rattle.words.specs.Updates.{put}
use Rattle.isa.specs.Programs.{Program as Image}
use Rattle.futexcalls.specs.declared.pieces.FutexCall.{FutexCall}
use Rattle.futexcalls.specs.declared.pieces.FutexCall.TheVariants.{Wait, Wake, Requeue}
use Rattle.futexcalls.specs.declared.pieces.FutexPhase.{FutexPhase}
use Rattle.futexcalls.specs.declared.pieces.FutexPhase.TheVariants.{First, Second, Compare, Act}
use Rattle.futexcalls.specs.Pieces.{buckets_of, takes_at, after_lock}
use Rattle.robustexit.specs.ExitRules.{exit_of}
use Rattle.locals.specs.Threads.{Thread, Exits}
use Rattle.locals.specs.Looks.{Request, AskWait, AskWake, AskRequeue, Look, Goes, Asks, Leaves, look}
use Rattle.machine.specs.declared.event.Event.{Event}
use Rattle.machine.specs.declared.event.EventName.{EventName}
use Rattle.machine.specs.declared.event.EventName.TheVariants as name
use Rattle.machine.specs.declared.event.StepFault.{StepFault}
use Rattle.machine.specs.declared.thread_set.ThreadSet.{ThreadSet}
use Rattle.machine.specs.ConcretePieces.{is_piece}
use Rattle.machine.specs.ConcreteSteps.{step_of, step_thread, step_awake, on_machine, thread_step as machine_step}
use Rattle.machine.specs.FrontRuns.{EventStep, Label, label_of, event_label}
use Rattle.machine.specs.PieceStates.{PieceState, IsHeldRight, call_at, call_of, called, opening_pieces}
use Rattle.machine.specs.PieceSteps.{goes_outside, Piece, IsOwnPiece, IsPieceStep, IsLocal, IsPlain, IsExit, IsLock}
use Rattle.machine.specs.PieceSteps.{IsEqual, IsAgain, IsAct}
use Rattle.machine.specs.Runs.{Doing, Own, Strayed, Killed, IsKillStep, Step}
use Rattle.machine.specs.States.{State, ConcreteState, thread_of, state_of}
use Rattle.machine.specs.ThreadSets.{set_of}
use Rattle.machine.specs.AbstractServing.{with_shared}
use Rattle.machine.proofs.Placing.{put-here}
use Rattle.machine.proofs.Stepping.{opens_so as opens_machine}
use Rattle.piece_machine.specs.PieceConcrete.{PieceConcrete, Outcome, pieces_at, opening_at, whole_at, call_step}
use Rattle.piece_machine.specs.PieceConcrete.{look_step, awake_step, thread_step, piece_of, stray_piece, kill_piece}
use Rattle.piece_machine.specs.PieceViews.{Tells, kill_step, own_step}
use Rattle.piece_machine.proofs.Beyond.{piece_strays_so, piece_kills_so, pieces_open_so}
use Rattle.piece_machine.proofs.Determined.{piece_steps_so}
use Rattle.program.specs.Trees.{Program}
use Rattle.program.specs.WellFormed.{WellFormed}
use Rattle.lowering.specs.Pieces.{code_of, marks_of}
use Rattle.proof_thread.specs.Deferrals.{mark_of, deferred_by_step}
use Rattle.proof_pieces.specs.Silence.{is_silent}
use Rattle.proof_pieces.specs.Whole.{whole}
use Rattle.proof_pieces.proofs.Rests.{sleeps_so}
use Rattle.proof_pieces.proofs.Runs.{opening_held, reduces}
use Rattle.proof_simulation.specs.Explaining.{IsDue, IsReached}
use Rattle.proof_simulation.specs.Ordering.{raises_number}
use Rattle.proof_simulation.specs.Progress.{Progress, visible_step, progress_step, opening_progress}
use Rattle.proof_simulation.proofs.Local.{put_again}
use Rattle.refinement.specs.Pieces.{ExplainedInPieces}
use Rattle.proof_commutation.specs.Placed.{actions_up_to}
use Rattle.proof_explaining.specs.PieceProgress.{progress_answered, progress_piece, progress_in_pieces}
use Rattle.proof_explaining.specs.PieceProgress.{progress_of_pieces, piece_is_visible}
use Rattle.proof_explaining.specs.Events.{ComesTo, progress_told, progress_strayed, progress_killed, whole_of}
use Rattle.proof_explaining.proofs.Along.{pieces_go_on, pieces_reach, piece_due, pieces_explained}
use Rattle.proof_explaining.proofs.Values.{completes_told, deferral_told}

-- by what a step is told: a piece behind which its call goes on, where its thread is then within a call
named_piece : (p : Image) (s : PieceState) (t : ℕ) (woken : List ℕ) (s' : PieceState) (n : EventName) (v : ℕ)
    → Tells p s t woken s' n v → s'.phase t ≢ First → is_piece n ≡ true
named_piece p s t woken s' name.FutexLock v told within = refl
named_piece p s t woken s' name.FutexCompare v told within = refl
named_piece p s t woken s' _ v told within = absurd (within told)

-- or another step, where it is outside calls then and took no bucket
named_whole : (p : Image) (s : PieceState) (t : ℕ) (woken : List ℕ) (s' : PieceState) (n : EventName) (v : ℕ)
    → Tells p s t woken s' n v → s'.phase t ≡ First
    → ((call : FutexCall) → called p t (s.base.thread t) ≡ Some call → takes_at s.buckets (s.phase t) call ≡ None)
    → is_piece n ≡ false
named_whole p s t woken s' name.FutexLock v told outside none =
    absurd (let both : Some v ≡ None = sym told.3 ∙ none told.1 told.2 in cc)
named_whole p s t woken s' name.FutexCompare v told outside none =
    absurd (let both : Act ≡ First = sym told.4 ∙ outside in cc)
named_whole p s t woken s' _ v told outside none = refl

lock_within : (n : ℕ) (ph : FutexPhase) (call : FutexCall) (b : ℕ) → takes_at n ph call ≡ Some b
    → after_lock n ph call ≢ First
lock_within n First (Wait a expected) b h = λ e. absurd cc
lock_within n First (Wake a wakes) b h = λ e. absurd cc
lock_within n First (Requeue c d wakes moves expected) b h = by_test (c.0 % n == d.0 % n)
  where
    by_test : (q : Bool) → (if q then Compare else Second) ≢ First
    by_test true e = absurd cc
    by_test false e = absurd cc
lock_within n Second call b h = λ e. absurd cc
lock_within n Compare call b h = λ e. absurd cc
lock_within n Act call b h = λ e. absurd cc

none_locked : (call : FutexCall) (n : ℕ) (ph f : FutexPhase) → ph ≡ f → takes_at n f call ≡ None
    → takes_at n ph call ≡ None
none_locked call n ph f at none = ap (λ g. takes_at n g call) at ∙ none

-- where both values show the same of a step, it leads to the same
same_shown : (p : Program) (word : ℕ → ℕ) (t : ℕ) (x : Thread) (a b : ℕ) (s : State) (g : Progress) (l : Look)
    → look (code_of p) t x ≡ l → visible_step p word t l a ≡ visible_step p word t l b
    → deferred_by_step (mark_of (marks_of p) x) l a ≡ deferred_by_step (mark_of (marks_of p) x) l b
    → progress_answered p word t x a s g ≡ progress_answered p word t x b s g
same_shown p word t x a b s g l looks visible deferral =
    let mark = mark_of (marks_of p) x in
    ap (λ m. progress_step p (visible_step p word t m a) (deferred_by_step mark m a) (raises_number m) s t g) looks
    ∙ (λ i. progress_step p (visible i) (deferral i) (raises_number l) s t g)
    ∙ ap (λ m. progress_step p (visible_step p word t m b) (deferred_by_step mark m b) (raises_number m) s t g)
    (sym looks)

-- a wait is nothing in the source
pub wait_is_nothing : (p : Program) (word : ℕ → ℕ) (t : ℕ) (x : Thread) (v : ℕ) (s : State) (g : Progress)
    (a expected : ℕ) (go : ℕ → Thread) → look (code_of p) t x ≡ Asks (AskWait a expected) go
    → progress_answered p word t x v s g ≡ g
wait_is_nothing p word t x v s g a expected go looks =
    let mark = mark_of (marks_of p) x in
    ap (λ m. progress_step p (visible_step p word t m v) (deferred_by_step mark m v) (raises_number m) s t g) looks
    ∙ (λ i. record g {
      deferred = sym (put_again g.deferred t (g.deferred t) refl) i;
      raised = sym (put_again g.raised t (g.raised t) refl) i;
    })

-- what a step left, with its event
event_in : (x y : PieceConcrete × Event) → (let a : Outcome = Ok x in a) ≡ (let b : Outcome = Ok y in b) → x ≡ y
event_in x y h = cc

whole_gave : (k k' : PieceConcrete) (event : Event) (r : Result (ConcreteState × Event) StepFault)
    → whole_at k r ≡ Ok (k', event) → (c : ConcreteState) × (r ≡ Ok (c, event))
whole_gave k k' event (Ok q) h = (
  q.0,
  let is = event_in (record k { concrete = q.0 }, q.1) (k', event) h in
      ap (λ (e : Event). Ok (q.0, e)) (ap (λ (z : PieceConcrete × Event). z.1) is),
)
whole_gave k k' event (Err fault) h = absurd cc

module _ (p : Program) (k k' : PieceConcrete) (t : ℕ) (event : Event) (x : Thread)
    (stands : thread_of k.concrete t ≡ Some x) (awake : k.concrete.common.asleep t ≡ None)
    (takes : piece_of (code_of p) k t ≡ Ok (k', event)) where
  abbrev there : PieceState
  there = pieces_at k

  abbrev after : PieceState
  after = pieces_at k'

  none_called : call_at (look (code_of p) t x) ≡ None → (call : FutexCall)
      → called (code_of p) t (there.base.thread t) ≡ Some call → takes_at k.buckets (k.phase t) call ≡ None
  none_called none call is =
      absurd (let both : Some call ≡ None = sym is ∙ ap (called (code_of p) t) stands ∙ none in cc)

  outside : (mid : State) (bs : List ℕ) (y : Thread) → after ≡ goes_outside there t mid bs y → after.phase t ≡ First
  outside mid bs y e = ap (λ (z : PieceState). z.phase t) e ∙ put-here k.phase t First t refl

  -- a step that is no call's is the machine's
  plain_given : (request : Request) (go : ℕ → Thread) → look (code_of p) t x ≡ Asks request go → call_of request ≡ None
      → (c : ConcreteState)
      × (on_machine k.concrete t (machine_step (exit_of p.version) (length k.concrete.threads) t k.concrete.common
      (Asks request go))
      ≡ Ok (c, event))
  plain_given request go looks isnt =
      let same : whole_at k (step_of (code_of p) k.concrete t) ≡ Ok (k', event) =
      sym (ap (thread_step (code_of p) k t) stands ∙ ap (awake_step (code_of p) k t x) awake
      ∙ ap (look_step (code_of p) k t) looks ∙ ap (call_step (code_of p) k t go) isnt) ∙ takes in
      let gave = whole_gave k k' event (step_of (code_of p) k.concrete t) same in (
        gave.0,
        sym (ap (step_thread (code_of p) k.concrete t) stands
            ∙ ap (step_awake (code_of p) k.concrete t x) awake
            ∙ ap (λ l. on_machine k.concrete t (machine_step (exit_of p.version) (length k.concrete.threads) t
            k.concrete.common l)) looks)
            ∙ gave.1,
      )

  module _ (woken : List ℕ) (told : Tells (code_of p) there t woken after event.name event.value) (g : Progress) where
    abbrev shown : Progress
    shown = progress_answered p there.base.word t x event.value (whole (code_of p) after) g

    as_piece : (g' : Progress) → after.phase t ≢ First → g' ≡ g
        → g' ≡ progress_told p t x there.base.word event (whole (code_of p) after) g
    as_piece g' within is = is ∙ ap (λ b. if b then g else shown)
        (sym (named_piece (code_of p) there t woken after event.name event.value told within))

    as_whole : (g' : Progress) → after.phase t ≡ First
        → ((call : FutexCall) → called (code_of p) t (there.base.thread t) ≡ Some call
        → takes_at k.buckets (k.phase t) call ≡ None)
        → g' ≡ shown → g' ≡ progress_told p t x there.base.word event (whole (code_of p) after) g
    as_whole g' first none is = is ∙ ap (λ b. if b then g else shown)
        (sym (named_whole (code_of p) there t woken after event.name event.value told first none))

    calls_none : (f : FutexPhase) → k.phase t ≡ f → ((call : FutexCall) → takes_at k.buckets f call ≡ None)
        → (call : FutexCall) → called (code_of p) t (there.base.thread t) ≡ Some call
        → takes_at k.buckets (k.phase t) call ≡ None
    calls_none f at none call is = none_locked call k.buckets (k.phase t) f at (none call)

    within_act : after ≡ record there { phase = put k.phase t Act } → after.phase t ≢ First
    within_act e first = let act : after.phase t ≡ Act = ap (λ (z : PieceState). z.phase t) e
        ∙ put-here k.phase t Act t refl in
        absurd (let both : Act ≡ First = sym act ∙ first in cc)

    piece_told : (piece : Piece (code_of p) there t x woken after)
        → progress_piece p there after t x woken piece g
        ≡ progress_told p t x there.base.word event (whole (code_of p) after) g
    piece_told (IsLocal y looks first nobody e) = as_whole _ (outside there.base [] y e)
        (none_called (ap call_at looks))
        (same_shown p there.base.word t x 0 event.value (whole (code_of p) after) g (Goes y) looks refl refl)
    piece_told (IsPlain request go answer mid looks isnt first serves e) =
        let gave = plain_given request go looks isnt in
        as_whole _ (outside mid [] (go answer) e) (none_called (ap call_at looks ∙ isnt))
        (same_shown p there.base.word t x answer event.value (whole (code_of p) after) g (Asks request go) looks
        (completes_told p k.concrete gave.0 t event woken request go answer mid serves gave.1)
        (deferral_told p k.concrete gave.0 t event woken (mark_of (marks_of p) x) request go answer mid serves gave.1))
    piece_told (IsExit phase shared next looks first step free e) =
        as_whole _ (outside (with_shared there.base shared) [] (Exits next) e) (none_called (ap call_at looks))
        (same_shown p there.base.word t x 0 event.value (whole (code_of p) after) g (Leaves phase) looks refl refl)
    piece_told (IsLock call go b looks lies bucket free nobody e) =
        as_piece _ (λ first. lock_within k.buckets (k.phase t) call b bucket (
        sym (ap (λ (z : PieceState). z.phase t) e
        ∙ put-here k.phase t (after_lock k.buckets (k.phase t) call) t refl) ∙ first)) refl
    piece_told (IsEqual (Wait a expected) go c v looks compares at equal nobody e) = as_piece _ (within_act e)
        (wait_is_nothing p there.base.word t x 0 (whole (code_of p) after) g a.0 expected go looks)
    piece_told (IsEqual (Wake a wakes) go c v looks compares at equal nobody e) = absurd compares
    piece_told (IsEqual (Requeue a b wakes moves expected) go c v looks compares at equal nobody e) =
        as_piece _ (within_act e) refl
    piece_told (IsAgain (Wait a expected) go c v looks compares at differs nobody e) =
        as_whole _ (outside there.base (a.0 % k.buckets ∷ []) (go 1) e) (calls_none Compare at (λ call. refl))
        (same_shown p there.base.word t x 1 event.value (whole (code_of p) after) g (Asks (AskWait a.0 expected) go)
        looks refl refl)
    piece_told (IsAgain (Wake a wakes) go c v looks compares at differs nobody e) = absurd compares
    piece_told (IsAgain (Requeue a b wakes moves expected) go c v looks compares at differs nobody e) =
        as_whole _ (outside there.base (buckets_of k.buckets (Requeue a b wakes moves expected)) (go 4294967295) e)
        (calls_none Compare at (λ call. refl))
        (same_shown p there.base.word t x 4294967295 event.value (whole (code_of p) after) g
        (Asks (AskRequeue a.0 b.0 wakes moves expected) go) looks refl refl)
    piece_told (IsAct (Wait a expected) go moved sleepers looks at acts e) =
        as_whole _ (ap (λ (z : PieceState). z.phase t) e ∙ put-here k.phase t First t refl)
        (calls_none Act at (λ call. refl))
        (sym (wait_is_nothing p there.base.word t x event.value (whole (code_of p) after) g a.0 expected go looks))
    piece_told (IsAct (Wake a wakes) go moved sleepers looks at acts e) =
        as_whole _ (ap (λ (z : PieceState). z.phase t) e ∙ put-here k.phase t First t refl)
        (calls_none Act at (λ call. refl))
        (same_shown p there.base.word t x (length woken + length moved) event.value (whole (code_of p) after) g
        (Asks (AskWake a.0 wakes) go) looks refl refl)
    piece_told (IsAct (Requeue a b wakes moves expected) go moved sleepers looks at acts e) =
        as_whole _ (ap (λ (z : PieceState). z.phase t) e ∙ put-here k.phase t First t refl)
        (calls_none Act at (λ call. refl))
        (same_shown p there.base.word t x (length woken + length moved) event.value (whole (code_of p) after) g
        (Asks (AskRequeue a.0 b.0 wakes moves expected) go) looks refl refl)

    -- and where its event is none of a piece, it isn't silent, unless it is a wait's
    heard_told : (piece : Piece (code_of p) there t x woken after) → is_piece event.name ≡ false
        → visible_step p there.base.word t (look (code_of p) t x) event.value ≡ true
        → (is_silent (code_of p) there t x woken after piece ≡ false)
        × (piece_is_visible p there t x woken after piece ≡ true)
    heard_told (IsLocal y looks first nobody e) whole visible = (
      refl,
      ap (λ l. visible_step p there.base.word t l 0) looks
          ∙ sym (ap (λ l. visible_step p there.base.word t l event.value) looks) ∙ visible,
    )
    heard_told (IsPlain request go answer mid looks isnt first serves e) whole visible =
        let gave = plain_given request go looks isnt in (
          refl,
          ap (λ l. visible_step p there.base.word t l answer) looks
              ∙ completes_told p k.concrete gave.0 t event woken request go answer mid serves gave.1
              ∙ sym (ap (λ l. visible_step p there.base.word t l event.value) looks) ∙ visible,
        )
    heard_told (IsExit phase shared next looks first step free e) whole visible = (
      refl,
      ap (λ l. visible_step p there.base.word t l 0) looks
          ∙ sym (ap (λ l. visible_step p there.base.word t l event.value) looks) ∙ visible,
    )
    heard_told (IsLock call go b looks lies bucket free nobody e) whole visible =
        let within : after.phase t ≢ First = λ first. lock_within k.buckets (k.phase t) call b bucket (
        sym (ap (λ (z : PieceState). z.phase t) e
        ∙ put-here k.phase t (after_lock k.buckets (k.phase t) call) t refl) ∙ first) in
        absurd (let both : true ≡ false =
        sym (named_piece (code_of p) there t woken after event.name event.value told within) ∙ whole in cc)
    heard_told (IsEqual call go c v looks compares at equal nobody e) whole visible =
        absurd (let both : true ≡ false =
        sym (named_piece (code_of p) there t woken after event.name event.value told (within_act e)) ∙ whole in cc)
    heard_told (IsAgain (Wait a expected) go c v looks compares at differs nobody e) whole visible =
        absurd (let both : false ≡ true =
        sym (ap (λ l. visible_step p there.base.word t l event.value) looks) ∙ visible in cc)
    heard_told (IsAgain (Wake a wakes) go c v looks compares at differs nobody e) whole visible = absurd compares
    heard_told (IsAgain (Requeue a b wakes moves expected) go c v looks compares at differs nobody e) whole visible = (
      refl,
      ap (λ l. visible_step p there.base.word t l 4294967295) looks,
    )
    heard_told (IsAct (Wait a expected) go moved sleepers looks at acts e) whole visible =
        absurd (let both : false ≡ true =
        sym (ap (λ l. visible_step p there.base.word t l event.value) looks) ∙ visible in cc)
    heard_told (IsAct (Wake a wakes) go moved sleepers looks at acts e) whole visible = (
      refl,
      ap (λ l. visible_step p there.base.word t l (length woken + length moved)) looks
          ∙ sym (ap (λ l. visible_step p there.base.word t l event.value) looks) ∙ visible,
    )
    heard_told (IsAct (Requeue a b wakes moves expected) go moved sleepers looks at acts e) whole visible = (
      refl,
      ap (λ l. visible_step p there.base.word t l (length woken + length moved)) looks,
    )

abbrev step_by : ℕ → Event → EventStep
step_by t event = record { thread = t; event = event }

map_more : {A B : Type 0} (f : A → B) (xs ys : List A) → map f (xs ++ ys) ≡ map f xs ++ map f ys
map_more f [] ys = refl
map_more f (x ∷ xs) ys = ap (λ zs. f x ∷ zs) (map_more f xs ys)

-- one step more on both sides
labels_on : (run : List Step) (events : List EventStep) (l : Step) (e : EventStep)
    → map label_of run ≡ map event_label events → label_of l ≡ event_label e
    → map label_of (run ++ l ∷ []) ≡ map event_label (events ++ e ∷ [])
labels_on run events l e same is = map_more label_of run (l ∷ []) ∙ ap (λ zs. zs ++ label_of l ∷ []) same
    ∙ ap (λ i. map event_label events ++ i ∷ []) is ∙ sym (map_more event_label events (e ∷ []))

same_label : (t : ℕ) (woken : List ℕ) (set : ThreadSet) (d d' : Doing) → set ≡ set_of woken → d' ≡ d
    → (let a : Label = record { thread = t; woken = set_of woken; doing = d } in a)
    ≡ (let b : Label = record { thread = t; woken = set; doing = d' } in b)
same_label t woken set d d' is done = λ i. record { thread = t; woken = sym is i; doing = sym done i }

pub as_many : (run : List Step) (events : List EventStep) → map label_of run ≡ map event_label events
    → length run ≡ length events
as_many run events same = sym (length-map run label_of) ∙ ap length same ∙ length-map events event_label

one_thread : {x y : Thread} → Some x ≡ Some y → x ≡ y
one_thread e = cc

module _ (p : Program) (n : ℕ) where
  pub opens : 0 < n → ComesTo p n [] (opening_at (code_of p) n) (opening_progress p)
  opens some =
      let o = opens_machine (code_of p) in
      record {
        some = some;
        fit = record {
          well = o.1;
          right = subst (λ (z : PieceState). IsHeldRight (code_of p) z) (sym (pieces_open_so (code_of p) n))
              (opening_held (code_of p) n some);
        };
        steps = [];
        run = sym (pieces_open_so (code_of p) n);
        labels = refl;
        comes = refl;
      }

  -- what came so far is tied to the machine
  pub tied : (events : List EventStep) (k : PieceConcrete) (g : Progress) (h : ComesTo p n events k g)
      → (w : WellFormed p) → length events < 2 ^ 32 → IsReached p w (length h.steps) (whole_of p k) g
  tied events k g h w short =
      let many = as_many h.steps events h.labels in
      subst (λ (i : Progress). IsReached p w (length h.steps) (whole_of p k) i) h.comes
      (pieces_reach p n h.steps (pieces_at k) h.some h.run w (omega (arith, many, short)))

  module _ (events : List EventStep) (k k' : PieceConcrete) (t : ℕ) (event : Event) (g : Progress)
      (h : ComesTo p n events k g) where
    -- one step of a thread
    pub one_step : (here : Thread) → thread_of k.concrete t ≡ Some here → piece_of (code_of p) k t ≡ Ok (k', event)
        → ComesTo p n (events ++ step_by t event ∷ []) k'
        (progress_told p t here (state_of k.concrete).word event (whole_of p k') g)
    one_step here stands takes =
        let d = piece_steps_so (code_of p) k k' t event h.fit takes in
        let st : IsOwnPiece (code_of p) (pieces_at k) (own_step (pieces_at k') t d.0.woken) (pieces_at k') = d.0.step in
        let is : st.thread ≡ here = one_thread (sym st.stands ∙ stands) in
        let on = pieces_go_on p (opening_progress p) h.steps (opening_pieces (code_of p) n) (pieces_at k) h.run
        (own_step (pieces_at k') t d.0.woken) (pieces_at k') d.0.step in
        record {
          some = h.some;
          fit = d.1;
          steps = h.steps ++ own_step (pieces_at k') t d.0.woken ∷ [];
          run = on.0;
          labels = labels_on h.steps events (own_step (pieces_at k') t d.0.woken) (step_by t event) h.labels
              (same_label t d.0.woken event.woken Own _ d.0.wakes d.0.doing);
          comes = on.1
              ∙ ap (progress_in_pieces p (pieces_at k) (pieces_at k') (own_step (pieces_at k') t d.0.woken) d.0.step)
              h.comes
              ∙ piece_told p k k' t event st.thread st.stands st.awake takes d.0.woken d.0.told g st.piece
              ∙ ap (λ (x : Thread). progress_told p t x (state_of k.concrete).word event (whole_of p k') g) is;
        }

    -- what is due of a visible step
    pub one_due : (here : Thread) → thread_of k.concrete t ≡ Some here → piece_of (code_of p) k t ≡ Ok (k', event)
        → WellFormed p → is_piece event.name ≡ false
        → visible_step p (state_of k.concrete).word t (look (code_of p) t here) event.value ≡ true
        → length events + 1 < 2 ^ 32 → IsDue p (whole_of p k') t g
    one_due here stands takes w whole visible short =
        let d = piece_steps_so (code_of p) k k' t event h.fit takes in
        let st : IsOwnPiece (code_of p) (pieces_at k) (own_step (pieces_at k') t d.0.woken) (pieces_at k') = d.0.step in
        let is : st.thread ≡ here = one_thread (sym st.stands ∙ stands) in
        let many = as_many h.steps events h.labels in
        let heard = heard_told p k k' t event st.thread st.stands st.awake takes d.0.woken d.0.told g st.piece whole
        (ap (λ (x : Thread). visible_step p (state_of k.concrete).word t (look (code_of p) t x) event.value) is
        ∙ visible) in
        piece_due p w (length h.steps) (pieces_at k) g (tied events k g h w (omega (arith, short))) h.fit.right
        (own_step (pieces_at k') t d.0.woken) (pieces_at k') st (omega (arith, many, short)) heard.0 heard.1

    -- a wake from outside
    pub one_stray : stray_piece k t ≡ Ok (k', event)
        → ComesTo p n (events ++ step_by t event ∷ []) k' (progress_strayed p t event.value g)
    one_stray gives =
        let d = piece_strays_so (code_of p) k k' t event h.fit gives in
        let l : Step = record { thread = t; woken = t ∷ []; pauses = false; doing = Strayed event.value } in
        let on = pieces_go_on p (opening_progress p) h.steps (opening_pieces (code_of p) n) (pieces_at k) h.run l
        (pieces_at k') d.0.step in
        record {
          some = h.some;
          fit = d.1;
          steps = h.steps ++ l ∷ [];
          run = on.0;
          labels = labels_on h.steps events l (step_by t event) h.labels
              (same_label t (t ∷ []) event.woken (Strayed event.value) _ d.0.told d.0.doing);
          comes = on.1 ∙ ap (progress_strayed p t event.value) h.comes;
        }

    -- a kill, by which the thread begins to die or doesn't
    pub one_kill : kill_piece (code_of p) k t ≡ Ok (k', event)
        → ComesTo p n (events ++ step_by t event ∷ []) k'
        (progress_killed p (event.value == 1) (state_of k.concrete).word (whole_of p k') t g)
    one_kill gives =
        let d = piece_kills_so (code_of p) k k' t event h.fit gives in
        let l : Step = record { thread = t; woken = []; pauses = false; doing = Killed (event.value == 1) } in
        let on = pieces_go_on p (opening_progress p) h.steps (opening_pieces (code_of p) n) (pieces_at k) h.run l
        (pieces_at k') d.0.step in
        record {
          some = h.some;
          fit = d.1;
          steps = h.steps ++ l ∷ [];
          run = on.0;
          labels = labels_on h.steps events l (step_by t event) h.labels
              (same_label t [] event.woken (Killed (event.value == 1)) _ d.0.told d.0.doing);
          comes = on.1 ∙ killed (event.value == 1) d.0.step
              ∙ ap (progress_killed p (event.value == 1) (state_of k.concrete).word (whole_of p k') t) h.comes;
        }
      where
        killed : (b : Bool)
            → (st : IsPieceStep (code_of p) (pieces_at k)
            (record { thread = t; woken = []; pauses = false; doing = Killed b }) (pieces_at k'))
            → progress_in_pieces p (pieces_at k) (pieces_at k')
            (record { thread = t; woken = []; pauses = false; doing = Killed b }) st
            (progress_of_pieces p n h.steps (pieces_at k) h.run)
            ≡ progress_killed p b (state_of k.concrete).word (whole_of p k') t
            (progress_of_pieces p n h.steps (pieces_at k) h.run)
        killed true st = refl
        killed false st = refl

    -- who is woken from outside sleeps with whole calls, too
    pub strayed_whole : stray_piece k t ≡ Ok (k', event) → (whole_of p k).asleep t ≡ Some event.value
    strayed_whole gives =
        let d = piece_strays_so (code_of p) k k' t event h.fit gives in
        sleeps_so (code_of p) (pieces_at k) t event.value d.0.step.strays.sleeps

    -- and a kill is one of whole calls
    pub killed_whole : kill_piece (code_of p) k t ≡ Ok (k', event)
        → IsKillStep (event.value == 1) (whole_of p k) (kill_step t (event.value == 1)) (whole_of p k')
    killed_whole gives =
        let d = piece_kills_so (code_of p) k k' t event h.fit gives in
        elim (reduces (code_of p) (pieces_at k) (pieces_at k') (kill_step t (event.value == 1)) h.fit.right d.0.step) [
          | inl q ↦ absurd (let isnt : Killed (event.value == 1) ≡ Own = q.0 in cc)
          | inr w ↦ w
        ]

  -- with its explanation the run is explained
  pub explained : (events : List EventStep) (k : PieceConcrete) (g : Progress) (h : ComesTo p n events k g)
      → WellFormed p → length events < 2 ^ 32
      → (e : ExplainedInPieces p (code_of p) h.steps (pieces_at k))
      × (e.actions ≡ g.actions ++ actions_up_to (length k.concrete.threads) g.deferred)
  explained events k g h w short =
      let many = as_many h.steps events h.labels in
      let e = pieces_explained p n h.steps (pieces_at k) h.some h.run w (omega (arith, many, short)) in
      (e.0, e.1 ∙ ap (λ (x : Progress). x.actions ++ actions_up_to (length k.concrete.threads) x.deferred) h.comes)
