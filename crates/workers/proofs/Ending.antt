-- Why a worker ends.
use Rattle.std.proofs.Common.{◌≡◌, ℕ, zero, suc, ◌<◌, ◌⊎◌, inl, inr, true, List, [], ◌∷◌, take, Option, Some, None, is_some}
use Rattle.std.proofs.Common.{arith, slice_get, refl, subst, sym}
use Rattle.std.specs.Prelude.{MatchOption}
use Rattle.isa.specs.Programs.{Program}
use Rattle.machine.specs.Runs.{has_ended}
use Rattle.machine.specs.States.{thread_of}
use Rattle.runner.specs.Afters.{IsAfter}
use Rattle.runner.specs.Entries.{RefusesEntry}
use Rattle.runner.specs.Reports.{PassesLimit}
use Rattle.runner.specs.Views.{LogState, PieceView, ShareView, log_state}
use Rattle.runner.specs.declared.fault.RunFault.{RunFault}
use Rattle.runner.specs.declared.fault.RunFault.TheVariants.{Limit}
use Rattle.runner.specs.declared.next.After.{After}
use Rattle.runner.specs.declared.next.After.TheVariants.{Ends}
use Rattle.runner.proofs.Passing.{passes_limit}
use Rattle.workers.specs.Endings.{HasEnded}
use Rattle.workers.specs.Handed.{IsAway, IsNextOf, IsNextOfFirst, StopsAt}
use Rattle.workers.specs.SharedRuns.{SharedRunView}
use Rattle.workers.specs.Taken.{AllTurns, IsTurn}

by_fault : (fault : Option RunFault) (h : LogState) (t : ℕ) (piece : PieceView)
    → MatchOption fault (IsAfter h.concrete t piece Ends) (λ _. let a : After = Ends in a ≡ Ends)
    → (has_ended (thread_of h.concrete.concrete t) ≡ true) ⊎ (is_some fault ≡ true)
by_fault None h t piece ended = inl ended
by_fault (Some fault) h t piece ends = inr refl

-- its thread has ended, or the run ends before its time
pub next_ends : (p : Program) (limit : ℕ) (d : SharedRunView) (t : ℕ) (piece : PieceView) (after : After)
    → IsNextOf d t piece after → after ≡ Ends → HasEnded p limit d t
next_ends p limit d t piece after is ends =
    let now = subst (λ (a : After). IsNextOf d t piece a) ends is in
    elim (by_fault d.fault (log_state d.shared) t piece now) [
      | inl ended ↦ inl ended
      | inr faulty ↦ inr (inr (inl faulty))
    ]

taken_at : (pieces : List PieceView) (n k : ℕ) (piece : PieceView) → slice_get (take n pieces) k ≡ Some piece
    → (k < n) × (slice_get pieces k ≡ Some piece)
taken_at [] zero k piece h = absurd cc
taken_at [] (suc n) k piece h = absurd cc
taken_at (x ∷ xs) zero k piece h = absurd cc
taken_at (x ∷ xs) (suc n) zero piece h = (omega arith, h)
taken_at (x ∷ xs) (suc n) (suc k) piece h =
    let rest = taken_at xs n k piece h in
    let less = rest.0 in
    (omega (arith, less), rest.1)

-- a turn that was refused with Limit would pass it
turn_passes : (p : Program) (limit : ℕ) (h : LogState) (t : ℕ) (piece : PieceView) → IsTurn p piece
    → RefusesEntry p limit h t piece Limit → PassesLimit p limit h.log h.concrete t
turn_passes p limit h t piece turn refused =
    passes_limit p limit h t piece refused turn.reached turn.turn turn.whole

stopped_ends : (p : Program) (limit : ℕ) (old new : SharedRunView) (t taken : ℕ) (pieces : List PieceView)
    (share share' : ShareView) → AllTurns p taken pieces
    → StopsAt p limit old t (take taken pieces) new share share' Ends → HasEnded p limit new t
stopped_ends p limit old new t taken pieces share share' turns stops =
    let there = taken_at pieces taken stops.at stops.piece stops.is in
    let before = log_state stops.mid.shared in
    let away : IsAway p limit before t stops.piece new.fault Ends = stops.away.away in
    elim away [
      | inl faulty ↦ inr (inr (inl faulty))
      | inr refused ↦ inr (inl (subst (λ (h : LogState). PassesLimit p limit h.log h.concrete t) (sym stops.away.run)
          (turn_passes p limit before t stops.piece (turns stops.at stops.piece there.0 there.1) refused)))
    ]

-- what was handed in ends its worker with a cause
pub handed_ends : (p : Program) (limit : ℕ) (old new : SharedRunView) (t taken : ℕ) (pieces pieces' : List PieceView)
    (share share' : ShareView) (after : After) → AllTurns p taken pieces
    → StopsAt p limit old t (take taken pieces) new share share' after ⊎ IsNextOfFirst new t pieces' after
    → after ≡ Ends → HasEnded p limit new t
handed_ends p limit old new t taken pieces pieces' share share' after turns (inl stops) ends =
    stopped_ends p limit old new t taken pieces share share' turns
    (subst (λ (a : After). StopsAt p limit old t (take taken pieces) new share share' a) ends stops)
handed_ends p limit old new t taken pieces pieces' share share' after turns (inr next) ends =
    next_ends p limit new t next.0 after next.2 ends
