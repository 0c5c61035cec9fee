-- A thread that is held up waits for a held bucket, and then some thread within a call can go on.
use Rattle.std.proofs.Common.{◌≡◌, ℕ, zero, suc, Bool, true, false, not, ◌&&◌, Option, Some, None, Err, is_some}
use Rattle.std.proofs.Common.{inl, inr, refl, ap, sym, ◌∙◌, subst}
use Rattle.std.proofs.lemmas.Bool.{cases_Bool}
use Rattle.isa.specs.Programs.{Program}
use Rattle.robustexit.specs.ExitRules.{exit_of}
use Rattle.locals.specs.Threads.{Thread}
use Rattle.locals.specs.Looks.{look}
use Rattle.locals.specs.Steps.{local_next, local_step, local_after}
use Rattle.machine.specs.declared.event.StepFault.TheVariants.{CannotMove}
use Rattle.machine.specs.States.{thread_of}
use Rattle.machine.specs.ConcreteSteps.{can_move}
use Rattle.machine.specs.PieceSteps.{CanTakePiece}
use Rattle.machine.proofs.Refusing.{moves_so}
use Rattle.proof_pieces.proofs.Rests.{holders_go_on}
use Rattle.piece_machine.specs.PieceConcrete.{PieceConcrete, can_take, is_blocked, is_held, pieces_at, piece_of, wanted}
use Rattle.piece_machine.specs.PieceConcrete.{with_local}
use Rattle.piece_machine.specs.PieceDetermined.{IsFit}
use Rattle.piece_machine.proofs.Refused.{piece_refuses_so}
use Rattle.piece_machine.proofs.Wanted.{takes_so}
use Rattle.runner.specs.Reports.{IsHeldUp, PassesLimit}
use Rattle.runner.specs.Rounds.{Idle}
use Rattle.runner.specs.Views.{LogState}
use Rattle.runner.proofs.Handing.{refused_by, up}
use Rattle.runner.proofs.Lives.{moves_there}
use Rattle.runner.proofs.Once.{past_last}
use Rattle.runner.proofs.Unrolling.{kept_put, put_back}

-- some thread holds a bucket
pub record IsTaken (k : PieceConcrete) : Type 0 where
  pub bucket : ℕ
  pub holder : ℕ
  pub holds : k.holder bucket ≡ Some holder

held_by : (k : PieceConcrete) (b : ℕ) (o : Option ℕ) → k.holder b ≡ o → is_some o ≡ true → IsTaken k
held_by k b None is some = absurd cc
held_by k b (Some u) is some = record { bucket = b; holder = u; holds = is }

held_so : (k : PieceConcrete) (o : Option ℕ) → is_held k o ≡ true → IsTaken k
held_so k None h = absurd cc
held_so k (Some b) h = held_by k b (k.holder b) refl h

blocked_so : (p : Program) (k : PieceConcrete) (t : ℕ) (o : Option Thread) → is_blocked p k t o ≡ true → IsTaken k
blocked_so p k t None h = absurd cc
blocked_so p k t (Some x) h = held_so k (wanted (exit_of p.version) k t (look p t x)) h

other_test : (a b : Bool) → a ≡ true → (a && not b) ≡ false → b ≡ true
other_test true true is both = refl
other_test true false is both = absurd cc
other_test false b is both = absurd cc

-- where it waits a held bucket is in its way
waits_for : (p : Program) (k : PieceConcrete) (t : ℕ) → IsFit p k → can_move k.concrete t ≡ true
    → piece_of p k t ≡ Err CannotMove → is_blocked p k t (thread_of k.concrete t) ≡ true
waits_for p k t fit moves fails = elim (cases_Bool (can_take p k t)) [
  | inl takes ↦ absurd ((piece_refuses_so p k t fit).0 fails ((takes_so p k t).0 takes))
  | inr not ↦ other_test (can_move k.concrete t) (is_blocked p k t (thread_of k.concrete t)) moves not
]

-- so it is where the local steps of a thread lead that is held up
pub held_up_blocked : (p : Program) (k : PieceConcrete) (t : ℕ) → IsFit p k → (w : IsHeldUp p k t)
    → (let there = with_local k t w.here in is_blocked p there t (thread_of there.concrete t)) ≡ true
held_up_blocked p k t fit w =
    let there = with_local k t w.here in
    let b = refused_by there (piece_of p there t) (local_step p t w.here) CannotMove w.waits in
    let awake = (up k.concrete t w.moves).awake in
    waits_for p there t (kept_put p k t w.count w.origin w.here fit awake w.stands w.goes)
    (moves_there p k.concrete t w.count w.origin w.here w.moves w.stands w.goes) b.1

pub held_up_taken : (p : Program) (k : PieceConcrete) (t : ℕ) → IsFit p k → IsHeldUp p k t → IsTaken k
held_up_taken p k t fit w =
    let there = with_local k t w.here in
    let taken = blocked_so p there t (thread_of there.concrete t) (held_up_blocked p k t fit w) in
    record { bucket = taken.bucket; holder = taken.holder; holds = taken.holds }

-- who stands before a shared step goes nowhere by local steps
pub stays_there : (p : Program) (t n : ℕ) (o here : Thread) → local_step p t o ≡ None → local_after p t n o ≡ Some here
    → o ≡ here
stays_there p t zero o here none goes = cc
stays_there p t (suc n) o here none goes = absurd (cc (sym (past_last p t n o none) ∙ goes))

-- who can take a step, and stands before a shared one, isn't held up
pub takes_on : (p : Program) (k : PieceConcrete) (t : ℕ) (x : Thread) → IsFit p k → thread_of k.concrete t ≡ Some x
    → local_step p t x ≡ None → CanTakePiece p (pieces_at k) t → IsHeldUp p k t → ⊥
takes_on p k t x fit stands none can w =
    let one : Some w.origin ≡ Some x = sym w.stands ∙ stands in
    let is : w.origin ≡ x = cc in
    let here : x ≡ w.here = stays_there p t w.count x w.here none
    (subst (λ (y : Thread). local_after p t w.count y ≡ Some w.here) is w.goes) in
    let back : with_local k t w.here ≡ k =
    put_back k t w.here (stands ∙ ap Some here) in
    let there = with_local k t w.here in
    let b = refused_by there (piece_of p there t) (local_step p t w.here) CannotMove w.waits in
    (piece_refuses_so p k t fit).0 (sym (ap (λ (q : PieceConcrete). piece_of p q t) back) ∙ b.1) can

-- where no thread can make its next entry, but one can move, one would pass the limit
pub some_passes : (p : Program) (limit : ℕ) (h : LogState) (t : ℕ) → IsFit p h.concrete → Idle p limit h
    → can_move h.concrete.concrete t ≡ true
    → (u : ℕ) × (can_move h.concrete.concrete u ≡ true) × PassesLimit p limit h.log h.concrete u
some_passes p limit h t fit idle moves = elim (idle t moves) [
  | inl passes ↦ (t, moves, passes)
  | inr waits ↦
      let k = h.concrete in
      let taken = held_up_taken p k t fit waits in
      let g = holders_go_on p (pieces_at k) taken.bucket taken.holder fit.right taken.holds in
      let can = (moves_so k.concrete g.0).1 (record {
        thread = g.2.thread;
        stands = g.2.stands;
        awake = g.2.awake;
        goes_on = g.2.goes_on;
      }) in
      elim (idle g.0 can) [
        | inl passes ↦ (g.0, can, passes)
        | inr holder ↦ absurd (takes_on p k g.0 g.1.thread fit g.1.stands (ap local_next g.1.asks) g.2 holder)
      ]
]

none_or_some : (o : Option ℕ) (u : ℕ) → o ≡ None → o ≡ Some u → ⊥
none_or_some o u none some = absurd (cc (sym none ∙ some))

-- where nobody holds a bucket none is in a thread's way
pub none_free : (p q : Program) (k : PieceConcrete) (t : ℕ) → q ≡ p → IsFit q k → ((b : ℕ) → k.holder b ≡ None)
    → IsHeldUp p k t → ⊥
none_free p q k t same fit none w =
    let taken = held_up_taken p k t (subst (λ (x : Program). IsFit x k) same fit) w in
    none_or_some (k.holder taken.bucket) taken.holder (none taken.bucket) taken.holds

no_local : (o : Option Thread) → false ≡ is_some o → o ≡ None
no_local None h = refl
no_local (Some x) h = absurd cc

-- nor where it can take the step that it stands before
pub takes_free : (p q : Program) (k : PieceConcrete) (t : ℕ) (x : Thread) → q ≡ p → IsFit q k
    → thread_of k.concrete t ≡ Some x → false ≡ is_some (local_step q t x) → CanTakePiece q (pieces_at k) t
    → IsHeldUp p k t → ⊥
takes_free p q k t x same fit stands shared can w =
    takes_on p k t x (subst (λ (z : Program). IsFit z k) same fit) stands
    (ap (λ (z : Program). local_step z t x) (sym same) ∙ no_local (local_step q t x) shared)
    (subst (λ (z : Program). CanTakePiece z (pieces_at k) t) same can) w
