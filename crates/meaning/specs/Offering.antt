-- What a process may offer to do next, and what that does beside the process itself.
use Rattle.std.specs.Prelude.{ℕ, ℤ, Bool}
use Rattle.program.specs.declared.kinds.Member.{Member}
use Rattle.meaning.specs.Labels.{End, Label}
use Rattle.meaning.specs.Processes.{Process}

-- what an action does to variables, output and processes beside the process itself
pub data Effect : Type 0 where
  Nothing : Effect
  Puts : (monitor member index : ℕ) (value : ℤ) → Effect
  Writes : (number : ℤ) → Effect
  Makes : (child : ℕ) (process : Process) → Effect

-- what a process offers to do
pub data Offer : Type 0 where
  Rests : Offer
  -- one action, and where the process stands after it
  Does : (label : Label) (effect : Effect) (after : Process) → Offer
  -- enters or resumes, where the monitor is free and where it was abandoned
  Takes : (label : Bool → Label) (free : Process) (abandoned : Process) → Offer
  -- makes a process, unless no more can be made
  MakesOne : (child : Process) (after : ℕ → Process) (full : Process) → Offer
  -- claims a process, unless it is claimed
  ClaimsOne : (child : ℕ) (after : Process) (refused : Process) → Offer
  JoinsOne : (child : ℕ) (after : End → Process) → Offer
  NotifiesSome : (condition : Member) (after : Process) → Offer
  NotifiesAll : (condition : Member) (after : Process) → Offer
