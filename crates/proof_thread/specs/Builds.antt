-- Programs with their code, and what is promised of it.
use Rattle.std.specs.Prelude.{ℕ, ◌+◌, ◌*◌, ◌≡◌, ◌<◌, ◌≤◌, length, Some, slice_get}
use Rattle.program.specs.declared.kinds.Role.TheVariants.{Recover}
use Rattle.program.specs.Trees.{Procedure, slots}
use Rattle.program.specs.Scope.{scope_of, recover_of}
use Rattle.program.specs.Limits.{most_parameters, most_locals, most_in_chain}
use Rattle.program.specs.WellFormed.{RoleFits}
use Rattle.lowering.specs.Pieces.{piece_code}
use Rattle.locals.specs.Threads.{Thread}
use Rattle.meaning.specs.Values.{Variables}
use Rattle.meaning.specs.Processes.{Process}
use Rattle.meaning.specs.Offers.{offer}
use Rattle.proof_thread.specs.Variables.{VariablesFit, ArraysAreLow, SameIn}
use Rattle.proof_thread.specs.Walks.{StandAt}
use Rattle.proof_thread.specs.Following.{Build, AreSound, own_of, Stands, block_nesting}
use Rattle.proof_thread.specs.Completing.{Proceeds, HasFirst}

-- the image has the program's version; each procedure fits its role and calls lower procedures alone; its code stands
-- where its piece begins
pub record IsBuild (b : Build) : Type 0 where
  pub version : b.code.image.version ≡ b.program.version
  pub role : (n : ℕ) (q : Procedure) → slice_get b.program.procedures n ≡ Some q → RoleFits b.program n q q.role
  pub recovers : (m r : ℕ) → recover_of b.program m ≡ Some r
      → (q : Procedure) × (slice_get b.program.procedures r ≡ Some q) × (q.role ≡ Recover m)
  pub low : ArraysAreLow b.program
  pub laid : (n : ℕ) (q : Procedure) → slice_get b.program.procedures n ≡ Some q → StandAt b.code (b.starts n)
      (piece_code b.program b.starts q (b.starts n))
  pub sound : (n : ℕ) (q : Procedure) → slice_get b.program.procedures n ≡ Some q → AreSound b.height b.width n
      (scope_of b.program q) q.body
  pub deep : (n : ℕ) (q : Procedure) → slice_get b.program.procedures n ≡ Some q → block_nesting q.body ≤ b.most
  pub parameters : (n : ℕ) (q : Procedure) → slice_get b.program.procedures n ≡ Some q
      → length q.parameters ≤ most_parameters
  pub locals : (n : ℕ) (q : Procedure) → slice_get b.program.procedures n ≡ Some q → length (slots q) ≤ most_locals
  pub bounded : (n : ℕ) → b.height n < most_in_chain

-- the most steps to the one that completes the next action: to where the thread stands for its process, over jumps, at
-- the end of a RECOVER part over its return and more jumps, and twice as many as the widest statement has tokens
abbrev pub most_steps : Build → ℕ
most_steps b = 17 + 2 * b.most + (2 * b.width + 2)

-- the variables that a process may read have values that fit them
abbrev pub OwnFit : Build → Process → Variables → Type 0
OwnFit b q v = (m : ℕ) → own_of q ≡ Some m → VariablesFit b.made b.program m v

-- a thread that stands for a process comes, within so many steps, to where it does what the process offers
abbrev pub IsFollowed : Build → Type 0
IsFollowed b = (t : ℕ) (v : Variables) (x : Thread) (q : Process) → Stands b t x q → OwnFit b q v
    → Proceeds b t v (most_steps b) x q

-- what a process offers that a thread stands for depends on the variables of its own monitor alone
abbrev pub IsSettled : Build → Type 0
IsSettled b = (t : ℕ) (v v' : Variables) (x : Thread) (q : Process) → Stands b t x q → SameIn (own_of q) v v'
    → offer b.program v q ≡ offer b.program v' q

-- a process that may read a monitor's variables holds that monitor, innermost
abbrev pub IsHeld : Build → Type 0
IsHeld b = (t : ℕ) (x : Thread) (q : Process) → Stands b t x q → (m : ℕ) → own_of q ≡ Some m → HasFirst q m
