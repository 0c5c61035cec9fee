-- What a thread does by itself: local steps, and loads of the variables of its own monitor, which nobody else changes
-- meanwhile.
use Rattle.std.specs.Prelude.{ℕ, suc, ◌+◌, ◌≡◌, ◌≤◌, pos, List, [], ◌∷◌, Option, Some, None}
use Rattle.words.specs.Signed.{word_of}
use Rattle.words.specs.declared.outcome.Cause.TheVariants.{Faulted}
use Rattle.lowering.specs.declared.mark.Marked.{Marked}
use Rattle.proof_thread.specs.Deferrals.{MarkedImage, IsAt, mark_of, deferred_by_mark}
use Rattle.locals.specs.declared.frame.Locals.{Locals}
use Rattle.locals.specs.declared.frame.Frame.{Frame}
use Rattle.locals.specs.Threads.{Thread, Runs, Dies}
use Rattle.locals.specs.Looks.{Goes, Asks, AskLoad, look}
use Rattle.program.specs.declared.kinds.Member.{Member}
use Rattle.program.specs.Trees.{Program}
use Rattle.meaning.specs.Values.{Variables, Evaluated, Value, Fails}
use Rattle.proof_thread.specs.Variables.{IsVariable, variable_address}

-- the instructions stand in the code from a place on, with their marks
abbrev pub StandAt : MarkedImage → ℕ → List Marked → Type 0
StandAt p place [] = Unit {0}
StandAt p place (i ∷ is) = IsAt p place i × StandAt p (place + 1) is

-- what a thread may read by itself: the variables of its own monitor, where it is in one, with these values
pub record View : Type 0 where
  pub program : Program
  pub own : Option ℕ
  pub variables : Variables

-- a view in which nothing is read
abbrev pub empty_view : Program → View
empty_view p = record { program = p; own = None; variables = λ m n i. pos 0 }

-- at the address lies a variable in view, with this word
pub record Reads (s : View) (address word : ℕ) : Type 0 where
  pub member : Member
  pub index : ℕ
  pub mine : s.own ≡ Some member.monitor
  pub variable : IsVariable s.program member index
  pub there : address ≡ variable_address s.program member index
  pub shown : word ≡ word_of (s.variables member.monitor member.number index)

-- a thread goes from one state to another in so many steps, each local or a load of a variable in view, and none an
-- action of its process
pub data Walks (p : MarkedImage) (t : ℕ) (s : View) : ℕ → Thread → Thread → Type 0 where
  stays : {x : Thread} → Walks p t s 0 x x
  goes : {n : ℕ} {x y z : Thread} → look p.image t x ≡ Goes y → deferred_by_mark (mark_of p.marks x) ≡ None
      → Walks p t s n y z → Walks p t s (suc n) x z
  loads : {n a v : ℕ} {x z : Thread} {k : ℕ → Thread} → look p.image t x ≡ Asks (AskLoad a) k → Reads s a v
      → Walks p t s n (k v) z → Walks p t s (suc n) x z

-- the same in at most so many steps
pub record WalksWithin (p : MarkedImage) (t : ℕ) (s : View) (most : ℕ) (x y : Thread) : Type 0 where
  pub count : ℕ
  pub few : count ≤ most
  pub walk : Walks p t s count x y

-- where an evaluation leads: to a place, with the value's word on the operands; or into its fault
abbrev pub Gives : MarkedImage → ℕ → View → ℕ → Thread → Evaluated → ℕ → List ℕ → Locals → List Frame → Type 0
Gives p t s most x (Value z) place operands locals callers =
    WalksWithin p t s most x (Runs place (word_of z ∷ operands) locals callers)
Gives p t s most x (Fails fault) place operands locals callers = WalksWithin p t s most x (Dies (Faulted fault))
