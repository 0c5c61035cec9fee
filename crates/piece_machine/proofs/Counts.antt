-- How many threads are within a call.
use Rattle.std.proofs.Common.{◌≡◌, ℕ, zero, suc, ◌+◌, ◌<◌, ◌≤◌, List, [], ◌∷◌, length, slice_set, refl, arith}
use Rattle.std.proofs.lemmas.List.Sums.{sum_by-set, sum_by-cons}
use Rattle.futexcalls.specs.declared.pieces.FutexPhase.{FutexPhase}
use Rattle.futexcalls.specs.declared.pieces.FutexPhase.TheVariants.{First, Second, Compare, Act}
use Rattle.piece_machine.specs.PieceViews.{phase_in, within, count_within}

outside_is : (phase : FutexPhase) → within phase ≡ 0 → phase ≡ First
outside_is First h = refl
outside_is Second h = absurd cc
outside_is Compare h = absurd cc
outside_is Act h = absurd cc

pub within_most : (phase : FutexPhase) → within phase ≤ 1
within_most First = omega arith
within_most Second = omega arith
within_most Compare = omega arith
within_most Act = omega arith

-- they are no more than the phases
pub count_few : (phases : List FutexPhase) → count_within phases ≤ length phases
count_few [] = omega arith
count_few (phase ∷ phases) = omega (arith, count_few phases, within_most phase, sum_by-cons within phase phases)

-- where none is, each phase is the first
pub none_within : (phases : List FutexPhase) → count_within phases ≡ 0 → (t : ℕ) → phase_in phases t ≡ First
none_within [] h t = refl
none_within (phase ∷ phases) h zero = outside_is phase (omega (arith, h, sum_by-cons within phase phases))
none_within (phase ∷ phases) h (suc t) = none_within phases (omega (arith, h, sum_by-cons within phase phases)) t

-- the count where one phase changes
pub count_put : (phases : List FutexPhase) (t : ℕ) (phase : FutexPhase) → t < length phases
    → count_within (slice_set phases t phase) + within (phase_in phases t) ≡ count_within phases + within phase
count_put phases t phase l = sum_by-set within phases t phase First l
