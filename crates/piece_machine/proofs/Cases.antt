-- Each step is one of the whole machine or a piece of a call.
use Rattle.std.proofs.Common.{◌≡◌, ℕ, length, Option, Some, None, Result, Ok, Err, inl, inr}
use Rattle.std.proofs.Common.{refl, sym, ap, ◌∙◌, subst}
use Rattle.std.proofs.lemmas.Bool.{both_ways, cases_Bool, cases_eq, eq-eqb, ne_eqb, cond-true, cond-false}
use Rattle.words.specs.Updates.{put}
use Rattle.isa.specs.Programs.{Program}
use Rattle.futexcalls.specs.declared.pieces.FutexCall.{FutexCall}
use Rattle.futexcalls.specs.declared.pieces.FutexCall.TheVariants.{Wait, Wake, Requeue}
use Rattle.futexcalls.specs.declared.pieces.FutexPhase.{FutexPhase}
use Rattle.futexcalls.specs.declared.pieces.FutexPhase.TheVariants.{First, Second, Compare, Act}
use Rattle.futexcalls.specs.Pieces.{takes_at, after_lock, Compares}
use Rattle.robustexit.specs.ExitRules.{exit_of}
use Rattle.locals.specs.Threads.{Thread}
use Rattle.locals.specs.Looks.{Request, Look, Goes, Asks, Leaves, Breaks, Rests, look}
use Rattle.machine.specs.declared.event.Event.{Event}
use Rattle.machine.specs.declared.event.StepFault.{StepFault}
use Rattle.machine.specs.declared.event.StepFault.TheVariants.{CannotMove, Broken}
use Rattle.machine.specs.States.{ConcreteState, thread_of}
use Rattle.machine.specs.ConcreteServing.{load}
use Rattle.machine.specs.ConcreteSteps.{step_of}
use Rattle.machine.specs.PieceStates.{call_of, call_at}
use Rattle.machine.specs.PieceSteps.{BlocksAt, BlocksCall}
use Rattle.piece_machine.specs.PieceViews.{IsApart}
use Rattle.piece_machine.specs.PieceConcrete.{PieceConcrete, Outcome, pieces_at, lies_in, wanted, is_held, whole_at}
use Rattle.piece_machine.specs.PieceConcrete.{lock_at, take_at, compare_word, compare_at, piece_at, call_step}
use Rattle.piece_machine.specs.PieceConcrete.{look_step, awake_step, thread_step}
use Rattle.piece_machine.specs.PieceTaken.{Calls, Taken, TakenSo, WholeStep, BucketTaken, WordFound, WordDiffers, CallActs}
use Rattle.piece_machine.proofs.OwnCalls.{told_call}
use Rattle.piece_machine.proofs.Wanted.{lies_so, blocks_test}

-- what a step leaves, with its event
inside : (x y : PieceConcrete × Event) → (let a : Outcome = Ok x in a) ≡ (let b : Outcome = Ok y in b) → x ≡ y
inside x y h = cc

abbrev TakenTo : Program → PieceConcrete → ℕ → PieceConcrete × Event → Type 0
TakenTo p k t q = Taken p k t q.1 q.0

whole_taken : (p : Program) (k k' : PieceConcrete) (t : ℕ) (e : Event) (r : Result (ConcreteState × Event) StepFault)
    → IsApart p (pieces_at k) t → step_of p k.concrete t ≡ r → whole_at k r ≡ Ok (k', e) → Taken p k t e k'
whole_taken p k k' t e (Ok q) apart done h = subst (TakenTo p k t) (inside _ (k', e) h) (WholeStep q.0 apart done refl)
whole_taken p k k' t e (Err f) apart done h = absurd cc

-- a bucket is taken
lock_taken : (p : Program) (k k' : PieceConcrete) (t : ℕ) (e : Event) (call : FutexCall) (go : ℕ → Thread) (b : ℕ)
    (next : FutexPhase) (o : Option ℕ) → Calls p k t call go → takes_at k.buckets (k.phase t) call ≡ Some b
    → after_lock k.buckets (k.phase t) call ≡ next → k.holder b ≡ o → lock_at k t next b o ≡ Ok (k', e)
    → Taken p k t e k'
lock_taken p k k' t e call go b next None calls takes after free h =
    subst (TakenTo p k t) (inside _ (k', e) h) (BucketTaken call go b calls takes free refl (λ i. record k {
      phase = put k.phase t (sym after i);
      holder = put k.holder b (Some t);
    }))
lock_taken p k k' t e call go b next (Some u) calls takes after free h = absurd cc

take_taken : (p : Program) (k k' : PieceConcrete) (t : ℕ) (e : Event) (call : FutexCall) (go : ℕ → Thread)
    (next : FutexPhase) (o : Option ℕ) → Calls p k t call go → takes_at k.buckets (k.phase t) call ≡ o
    → after_lock k.buckets (k.phase t) call ≡ next → take_at k t next o ≡ Ok (k', e) → Taken p k t e k'
take_taken p k k' t e call go next None calls takes after h = absurd cc
take_taken p k k' t e call go next (Some b) calls takes after h =
    lock_taken p k k' t e call go b next (k.holder b) calls takes after refl h

-- the word is compared
word_taken : (p : Program) (k k' : PieceConcrete) (t : ℕ) (e : Event) (call : FutexCall) (go : ℕ → Thread)
    (a expected : ℕ) → Calls p k t call go → Compares call a expected → k.phase t ≡ Compare
    → compare_word k t call go a expected ≡ Ok (k', e) → Taken p k t e k'
word_taken p k k' t e call go a expected calls compares at h =
    elim (cases_eq (load k.concrete.common a) expected) [
      | inl equal ↦ subst (TakenTo p k t)
          (inside _ (k', e) (sym (cond-true _ _ _ (eq-eqb _ _ equal)) ∙ h))
          (WordFound call go a expected calls compares at equal refl refl)
      | inr differs ↦ subst (TakenTo p k t)
          (inside _ (k', e) (sym (cond-false _ _ _ (ne_eqb _ _ differs)) ∙ h))
          (WordDiffers call go a expected calls compares at differs refl refl)
    ]

compare_taken : (p : Program) (k k' : PieceConcrete) (t : ℕ) (e : Event) (call : FutexCall) (go : ℕ → Thread)
    → Calls p k t call go → k.phase t ≡ Compare → compare_at k t call go ≡ Ok (k', e) → Taken p k t e k'
compare_taken p k k' t e (Wait a expected) go calls at h =
    word_taken p k k' t e (Wait a expected) go a.0 expected calls (refl, refl) at h
compare_taken p k k' t e (Wake a wakes) go calls at h = absurd cc
compare_taken p k k' t e (Requeue a b wakes moves expected) go calls at h =
    word_taken p k k' t e (Requeue a b wakes moves expected) go a.0 expected calls (refl, refl) at h

-- each piece
piece_taken : (p : Program) (k k' : PieceConcrete) (t : ℕ) (e : Event) (call : FutexCall) (go : ℕ → Thread)
    (phase : FutexPhase) → Calls p k t call go → k.phase t ≡ phase → piece_at k t call go phase ≡ Ok (k', e)
    → Taken p k t e k'
piece_taken p k k' t e call go First calls at h =
    take_taken p k k' t e call go (after_lock k.buckets First call) (takes_at k.buckets First call) calls
    (ap (λ f. takes_at k.buckets f call) at) (ap (λ f. after_lock k.buckets f call) at) h
piece_taken p k k' t e call go Second calls at h =
    take_taken p k k' t e call go (after_lock k.buckets Second call) (takes_at k.buckets Second call) calls
    (ap (λ f. takes_at k.buckets f call) at) (ap (λ f. after_lock k.buckets f call) at) h
piece_taken p k k' t e call go Compare calls at h = compare_taken p k k' t e call go calls at h
piece_taken p k k' t e call go Act calls at h =
    subst (TakenTo p k t) (inside _ (k', e) h) (CallActs call go calls at refl refl)

-- a step of a thread that makes no call, by what it looks like
abbrev pub Stands : Program → PieceConcrete → ℕ → Thread → Type 0
Stands p k t x = (thread_of k.concrete t ≡ Some x) × (k.concrete.common.asleep t ≡ None)

pub apart : (p : Program) (k : PieceConcrete) (t : ℕ) (x : Thread) (l : Look) → Stands p k t x → look p t x ≡ l
    → (let o : Option FutexCall = call_at l in o) ≡ None → (BlocksAt (exit_of p.version) (pieces_at k) t l → ⊥) → IsApart p (pieces_at k) t
apart p k t x l stands looks none free = record {
  thread = x;
  stands = stands.0;
  awake = stands.1;
  none = ap call_at looks ∙ none;
  free = λ b. free (subst (BlocksAt (exit_of p.version) (pieces_at k) t) looks b);
}

call_taken : (p : Program) (k k' : PieceConcrete) (t : ℕ) (e : Event) (x : Thread) (request : Request)
    (go : ℕ → Thread) (o : Option FutexCall) → Stands p k t x → look p t x ≡ Asks request go
    → call_of request ≡ o → call_step p k t go o ≡ Ok (k', e) → Taken p k t e k'
call_taken p k k' t e x request go None stands looks is h =
    whole_taken p k k' t e (step_of p k.concrete t)
    (apart p k t x (Asks request go) stands looks is (λ b. subst (BlocksCall (pieces_at k) t) is b)) refl h
call_taken p k k' t e x request go (Some call) stands looks is h =
    elim (cases_Bool (lies_in (length k.concrete.common.words) call)) [
      | inl y ↦ piece_taken p k k' t e call go (k.phase t) (record {
        thread = x;
        stands = stands.0;
        awake = stands.1;
        asks = looks ∙ ap (λ r. Asks r go) (told_call request call is);
        lies = lies_so (length k.concrete.common.words) call y;
      }) refl (sym (cond-true _ _ _ y) ∙ h)
      | inr n ↦ absurd (let out = sym (cond-false _ (piece_at k t call go (k.phase t)) (Err Broken) n) ∙ h in cc)
    ]

look_taken : (p : Program) (k k' : PieceConcrete) (t : ℕ) (e : Event) (x : Thread) (l : Look) → Stands p k t x
    → look p t x ≡ l → look_step p k t l ≡ Ok (k', e) → Taken p k t e k'
look_taken p k k' t e x (Asks request go) stands looks h =
    call_taken p k k' t e x request go (call_of request) stands looks refl h
look_taken p k k' t e x (Leaves phase) stands looks h =
    elim (cases_Bool (is_held k (wanted (exit_of p.version) k t (Leaves phase)))) [
      | inl y ↦ absurd (let out = sym (cond-true _ (Err CannotMove) (whole_at k (step_of p k.concrete t)) y) ∙ h in cc)
      | inr n ↦ whole_taken p k k' t e (step_of p k.concrete t)
          (apart p k t x (Leaves phase) stands looks refl
          (λ b. both_ways (is_held k (wanted (exit_of p.version) k t (Leaves phase))) n (blocks_test (exit_of p.version) k t (Leaves phase) b))) refl
          (sym (cond-false _ _ _ n) ∙ h)
    ]
look_taken p k k' t e x (Goes y) stands looks h =
    whole_taken p k k' t e (step_of p k.concrete t) (apart p k t x (Goes y) stands looks refl (λ b. b)) refl h
look_taken p k k' t e x Breaks stands looks h =
    whole_taken p k k' t e (step_of p k.concrete t) (apart p k t x Breaks stands looks refl (λ b. b)) refl h
look_taken p k k' t e x Rests stands looks h =
    whole_taken p k k' t e (step_of p k.concrete t) (apart p k t x Rests stands looks refl (λ b. b)) refl h

awake_taken : (p : Program) (k k' : PieceConcrete) (t : ℕ) (e : Event) (x : Thread) (a : Option ℕ)
    → thread_of k.concrete t ≡ Some x → k.concrete.common.asleep t ≡ a → awake_step p k t x a ≡ Ok (k', e)
    → Taken p k t e k'
awake_taken p k k' t e x None stands awake h = look_taken p k k' t e x (look p t x) (stands, awake) refl h
awake_taken p k k' t e x (Some a) stands awake h = absurd cc

thread_taken : (p : Program) (k k' : PieceConcrete) (t : ℕ) (e : Event) (o : Option Thread) → thread_of k.concrete t ≡ o
    → thread_step p k t o ≡ Ok (k', e) → Taken p k t e k'
thread_taken p k k' t e None stands h = absurd cc
thread_taken p k k' t e (Some x) stands h = awake_taken p k k' t e x (k.concrete.common.asleep t) stands refl h

pub taken_so : TakenSo
taken_so p k k' t e h = thread_taken p k k' t e (thread_of k.concrete t) refl h
