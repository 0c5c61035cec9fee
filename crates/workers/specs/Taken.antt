-- The turns that a worker takes before it hands them in.
use Rattle.std.specs.Prelude.{ℕ, suc, ◌≡◌, ◌⊎◌, ◌<◌, ◌≤◌, List, [], ◌∷◌, ◌++◌, length, slice_get, Some, None}
use Rattle.words.specs.Limits.{most_local_steps}
use Rattle.robustexit.specs.declared.phase.ExitPhase.TheVariants.{Ended}
use Rattle.isa.specs.Programs.{Program}
use Rattle.locals.specs.Steps.{local_after, local_step}
use Rattle.locals.specs.Threads.{Exits}
use Rattle.runner.specs.Views.{PieceView}

-- a piece of a thread as if it had ended
abbrev pub idle : ℕ → PieceView
idle t = record { thread = t; origin = Exits Ended; here = Exits Ended; count = 0 }

-- the piece went on by local steps until another step comes, or its turn was over
pub record IsTurn (p : Program) (a : PieceView) : Type 0 where
  pub reached : local_after p a.thread a.count a.origin ≡ Some a.here
  pub turn : a.count ≤ most_local_steps
  pub whole : a.count < most_local_steps → local_step p a.thread a.here ≡ None

-- so did each of the first pieces
abbrev pub AllTurns : Program → ℕ → List PieceView → Type 0
AllTurns p taken pieces = (k : ℕ) (a : PieceView) → k < taken → slice_get pieces k ≡ Some a → IsTurn p a

-- a whole turn, and the piece that goes on where it has come
pub record Follows (a b : PieceView) : Type 0 where
  pub whole : a.count ≡ most_local_steps
  pub thread : b.thread ≡ a.thread
  pub origin : b.origin ≡ a.here

-- the first pieces are turns: the first one of the piece that was there, and each other one goes on where a whole turn
-- has come; and one piece at least is such
pub record AreTurns (p : Program) (old new : List PieceView) (taken : ℕ) : Type 0 where
  pub some : 0 < taken
  pub within : taken ≤ length new
  pub first : (a b : PieceView) → slice_get old 0 ≡ Some a → slice_get new 0 ≡ Some b
      → (b.thread ≡ a.thread) × (b.origin ≡ a.origin)
  pub turns : AllTurns p taken new
  pub chain : (k : ℕ) (a b : PieceView) → suc k < taken → slice_get new k ≡ Some a → slice_get new (suc k) ≡ Some b
      → Follows a b

-- the pieces are as they were, or there is an idle one more
abbrev pub IsGrown : ℕ → List PieceView → List PieceView → Type 0
IsGrown t old new = (new ≡ old) ⊎ (new ≡ old ++ idle t ∷ [])

-- the piece at a place begins where the one before has come, and the others are as they were
pub record StartsAt (at : ℕ) (old new : List PieceView) : Type 0 where
  pub same_length : length new ≡ length old
  pub others : (k : ℕ) → k < at → slice_get new k ≡ slice_get old k
  pub begins : (k : ℕ) (a : PieceView) → suc k ≡ at → slice_get old k ≡ Some a
      → slice_get new at ≡ Some (record { thread = a.thread; origin = a.here; here = a.here; count = 0 })
