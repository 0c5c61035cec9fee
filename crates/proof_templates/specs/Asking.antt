-- What a point of the protocol asks of the shared words, as a request of the machine.
use Rattle.std.specs.Prelude.{ℕ, ◌≡◌, Option, Some, None}
use Rattle.proof_thread.specs.Deferrals.{MarkedImage}
use Rattle.locals.specs.Threads.{Thread}
use Rattle.locals.specs.Looks.{Asks, look}
use Rattle.locals.specs.Looks as M
use Rattle.program.specs.Trees.{Program}
use Rattle.meaning.specs.Labels.{End}
use Rattle.lowering.specs.Locks.{waiters}
use Rattle.lowering.specs.Conditions.{everyone}
use Rattle.protocol.specs.Points.{Point}
use Rattle.protocol.specs.World.{World}
use Rattle.protocol.specs.Cells.{LockOf, SequenceOf, cell_of}
use Rattle.protocol.specs.Memory.{entry_address, stored_value}
use Rattle.protocol.specs.Requests.{Request, AskNothing, AskLoad, AskStore, AskSwap, AskCompareSwap, AskOrWaiters}
use Rattle.protocol.specs.Requests.{AskAddOne, AskAdd, AskWait, AskWakeOne, AskRequeue, AskFault, AskExitStep, request}
use Rattle.protocol.specs.Answers.{next}
use Rattle.protocol.specs.Served.{MayAnswer}
use Rattle.proof_thread.specs.Walks.{WalksWithin, empty_view}
use Rattle.proof_templates.specs.Layout.{place}
use Rattle.protocol.specs.Rules.{ReleaseRule}

-- none for a step of an exit, which is no request, and for a thread's own code
abbrev pub machine_request : Program → Request → Option M.Request
machine_request p AskNothing = None
machine_request p (AskLoad a) = Some (M.AskLoad (place p a))
machine_request p (AskStore a v) = Some (M.AskStore (place p a) (stored_value (place p) a v))
machine_request p (AskSwap a v) = Some (M.AskSwap (place p a) (stored_value (place p) a v))
machine_request p (AskCompareSwap a x v) = Some (M.AskCompareSwap (place p a) x v)
machine_request p (AskOrWaiters a) = Some (M.AskOr (place p a) waiters)
machine_request p (AskAddOne a) = Some (M.AskAdd (place p a) 1)
machine_request p (AskAdd a v) = Some (M.AskAdd (place p a) v)
machine_request p (AskWait s x) = Some (M.AskWait (place p (cell_of s)) x)
machine_request p (AskWakeOne s) = Some (M.AskWake (place p (cell_of s)) 1)
machine_request p (AskRequeue c x) = Some
    (M.AskRequeue (place p (SequenceOf c)) (place p (LockOf c.monitor)) 0 everyone x)
machine_request p (AskFault cause) = Some (M.AskFault cause)
machine_request p AskExitStep = None

-- the word that the machine answers: an entry that is loaded is an address, and so is the head that a fault answers
abbrev pub machine_answer : Program → Request → ℕ → ℕ
machine_answer p (AskLoad a) r = stored_value (place p) a r
machine_answer p (AskFault cause) r = entry_address (place p) r
machine_answer p other r = r

-- the most local steps of a template from one request to the next
abbrev pub template_steps : ℕ
template_steps = 12

-- a thread asks what its point asks, and comes after each answer, within few local steps, to where a thread of the next
-- point stands
pub record AsksSo (u : ReleaseRule) (p : Program) (image : MarkedImage) (t : ℕ) (stands : Point → Thread
    → Type 0) (pt : Point)
    (x : Thread) : Type 0 where
  pub asks : M.Request
  pub go : ℕ → Thread
  pub same : machine_request p (request u t pt) ≡ Some asks
  pub look : look image.image t x ≡ Asks asks go
  pub goes : (w : World) (e : End) (r : ℕ) → MayAnswer pt r → (y : Thread)
      × WalksWithin image t (empty_view p) template_steps (go (machine_answer p (request u t pt) r)) y × stands
      (next w e pt r) y
