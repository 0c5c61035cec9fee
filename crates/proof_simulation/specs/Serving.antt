-- What the machine does for a request of a thread's point, as the protocol's words serve it.
use Rattle.std.specs.Prelude.{ℕ, suc, ◌≡◌, ◌≤◌, true}
use Rattle.program.specs.declared.kinds.Member.{Member}
use Rattle.program.specs.Trees.{Program}
use Rattle.machine.specs.States.{State}
use Rattle.machine.specs.AbstractServing.{shared_of}
use Rattle.protocol.specs.Points.{Point}
use Rattle.protocol.specs.World.{World}
use Rattle.protocol.specs.Cells.{SequenceOf, LockOf, cell_of}
use Rattle.protocol.specs.Exits.{Shares}
use Rattle.protocol.specs.Requests.{Request, AskNothing, AskLoad, AskStore, AskSwap, AskCompareSwap, AskOrWaiters}
use Rattle.protocol.specs.Requests.{AskAddOne, AskAdd, AskWait, AskWakeOne, AskRequeue, AskFault, AskExitStep, request}
use Rattle.protocol.specs.Answers.{Serves}
use Rattle.proof_thread.specs.Variables.{IsVariable, variable_address}
use Rattle.proof_templates.specs.Layout.{place, valid}
use Rattle.proof_templates.specs.Asking.{machine_answer}
use Rattle.protocol.specs.Rules.{release_of}

-- the request names words that the program has
abbrev pub IsAskable : Program → Request → Type 0
IsAskable p AskNothing = ⊥
IsAskable p (AskLoad a) = valid p a ≡ true
IsAskable p (AskStore a v) = valid p a ≡ true
IsAskable p (AskSwap a v) = valid p a ≡ true
IsAskable p (AskCompareSwap a x v) = valid p a ≡ true
IsAskable p (AskOrWaiters a) = valid p a ≡ true
IsAskable p (AskAddOne a) = valid p a ≡ true
IsAskable p (AskAdd a v) = valid p a ≡ true
IsAskable p (AskWait s x) = valid p (cell_of s) ≡ true
IsAskable p (AskWakeOne s) = valid p (cell_of s) ≡ true
IsAskable p (AskRequeue c x) = (valid p (SequenceOf c) ≡ true) × (valid p (LockOf c.monitor) ≡ true)
IsAskable p (AskFault cause) = Unit {0}
IsAskable p AskExitStep = Unit {0}

-- what stays as it was
pub record Keeps (p : Program) (s mid : State) : Type 0 where
  pub size : mid.size ≡ s.size
  pub most : mid.most ≡ s.most
  pub made : mid.made ≡ s.made
  pub output : mid.output ≡ s.output
  pub thread : mid.thread ≡ s.thread
  pub variables : (m : Member) (i : ℕ) → IsVariable p m i
      → mid.word (variable_address p m i) ≡ s.word (variable_address p m i)

-- the answer and the words after it are those of the protocol
pub record IsServed (p : Program) (s mid : State) (w : World) (t : ℕ) (pt : Point) (answer : ℕ) : Type 0 where
  pub reply : ℕ
  pub after : World
  pub serves : Serves w t pt (request (release_of p.version) t pt) reply after
  pub told : answer ≡ machine_answer p (request (release_of p.version) t pt) reply
  pub shares : Shares (place p) (valid p) (shared_of mid) after
  pub keeps : Keeps p s mid
  -- no other word of the world changes
  pub made : after.made ≡ w.made
  pub at : after.at ≡ w.at
  pub result : after.result ≡ w.result
  pub numbers : (c : Member) → after.sequence c ≤ suc (w.sequence c)
