-- What the turns of a run's threads come to: the log is longer, or each thread so far can make no entry.
use Rattle.std.proofs.Common.{◌≡◌, ℕ, ◌+◌, ◌<◌, ◌≤◌, Bool, Option, Some, None, true, false, inl, inr, refl, ap, sym, ◌∙◌}
use Rattle.std.proofs.Common.{arith, subst, IfSome}
use Rattle.std.proofs.lemmas.Bool.{cases_eq}
use Rattle.words.specs.Limits.{most_threads}
use Rattle.isa.specs.Programs.{Program}
use Rattle.machine.specs.ConcreteSteps.{can_move}
use Rattle.piece_machine.specs.PieceConcrete.{PieceConcrete}
use Rattle.runner.specs.Logs.{cost}
use Rattle.runner.specs.Reports.{IsStopped}
use Rattle.runner.specs.Rounds.{AreTried, HasGrown, HasTurned, Idle, IsTurn}
use Rattle.runner.specs.Views.{LogState}
use Rattle.runner.specs.Waits.{IsNextAround, IsNextFree}
use Rattle.runner.proofs.Noting.{all_stopped, stopped_to}
use Rattle.runner.proofs.Passing.{mover_some}

-- the number of a thread
abbrev pub IsNumber : Option ℕ → Type 0
IsNumber o = IfSome o (λ (t : ℕ). (0 < t) × (t ≤ most_threads))

none_below : (u : ℕ) → u < 1 → 0 < u → ⊥
none_below u below above = omega arith

-- a turn before which nobody was tried
pub first_turn : (p : Program) (limit before : ℕ) (h : LogState) (o : Option ℕ) → before ≡ cost h.log → IsNumber o
    → IsNextFree p h.concrete 1 o → IsTurn p limit before h o
first_turn p limit before h None is number free =
    all_stopped p limit h 1 (λ u below moves. absurd (none_below u below (mover_some h.concrete.concrete u moves))) free
first_turn p limit before h (Some t) is number free = (
  number.0,
  number.1,
  free.1,
  (
    omega arith,
    λ same. stopped_to p limit h 1 t
        (λ u below moves. absurd (none_below u below (mover_some h.concrete.concrete u moves))) free,
  ),
)

grows_past : (before old new : ℕ) → before ≤ old → old < new → before ≡ new → ⊥
grows_past before old new within more same = omega arith

moves_around : (p : Program) (k : PieceConcrete) (last t : ℕ) → IsNextAround p k last (Some t)
    → can_move k.concrete t ≡ true
moves_around p k last t (inl free) = free.1
moves_around p k last t (inr free) = free.1.1

-- one behind a turn that made an entry
pub turn_made : (p : Program) (limit before : ℕ) (old new : LogState) (last : ℕ) (o : Option ℕ) → IsNumber o
    → before ≤ cost old.log → HasGrown limit old new → IsNextAround p new.concrete last o → IsTurn p limit before new o
turn_made p limit before old new last None number within more around =
    all_stopped p limit new 1 (λ u below moves. absurd (none_below u below (mover_some new.concrete.concrete u moves))) around
turn_made p limit before old new last (Some t) number within more around = (
  number.0,
  number.1,
  moves_around p new.concrete last t around,
  (
    omega (arith, within, more.0),
    λ same. absurd (grows_past before (cost old.log) (cost new.log) within more.0 same),
  ),
)

-- what a try came to, by whether it made an entry
pub turned_so : (made : Bool) (p : Program) (limit : ℕ) (old new : LogState) (t : ℕ)
    → (made ≡ true → HasGrown limit old new)
    → (made ≡ false
    → (new ≡ old) × (can_move new.concrete.concrete t ≡ true → IsStopped p limit new.log new.concrete t))
    → HasTurned made p limit old new t
turned_so true p limit old new t grown still = grown refl
turned_so false p limit old new t grown still = still refl

pub made_turn : (made : Bool) (p : Program) (limit : ℕ) (old new : LogState) (t : ℕ) → made ≡ true
    → HasTurned made p limit old new t → HasGrown limit old new
made_turn true p limit old new t is turned = turned
made_turn false p limit old new t is turned = absurd cc

pub still_turn : (made : Bool) (p : Program) (limit : ℕ) (old new : LogState) (t : ℕ) → made ≡ false
    → HasTurned made p limit old new t → HasTurned false p limit old new t
still_turn true p limit old new t is turned = absurd cc
still_turn false p limit old new t is turned = turned

-- a turn that made no entry
pub tried_on : (p : Program) (limit before : ℕ) (old new : LogState) (t : ℕ) → AreTried p limit before old t
    → HasTurned false p limit old new t → AreTried p limit before new (t + 1)
tried_on p limit before old new t tried turned = (
  omega (arith, tried.0, ap (λ (h : LogState). cost h.log) turned.0),
  λ same u below moves. elim (cases_eq u t) [
    | inl e ↦ subst (λ (v : ℕ). IsStopped p limit new.log new.concrete v) (sym e)
        (turned.1 (ap (can_move new.concrete.concrete) (sym e) ∙ moves))
    | inr other ↦ subst (λ (h : LogState). IsStopped p limit h.log h.concrete u) (sym turned.0)
        (tried.1 (same ∙ ap (λ (h : LogState). cost h.log) turned.0) u (omega arith)
        (ap (λ (h : LogState). can_move h.concrete.concrete u) (sym turned.0) ∙ moves))
  ],
)

-- one behind a turn that made none
pub turn_behind : (p : Program) (limit before : ℕ) (h : LogState) (from t : ℕ) → IsNumber (Some t)
    → AreTried p limit before h from → IsNextFree p h.concrete from (Some t) → IsTurn p limit before h (Some t)
turn_behind p limit before h from t number tried free =
    (number.0, number.1, free.1, (tried.0, λ same. stopped_to p limit h from t (tried.1 same) free))

-- none, where a round made no entry
pub all_tried : (p : Program) (limit before : ℕ) (h : LogState) (from : ℕ) → AreTried p limit before h from
    → IsNextFree p h.concrete from None → before ≡ cost h.log → Idle p limit h
all_tried p limit before h from tried free same = all_stopped p limit h from (tried.1 same) free
