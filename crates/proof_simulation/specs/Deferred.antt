-- What is deferred of a process behind each step of its thread, and how far the thread is that has met a fault.
use Rattle.std.specs.Prelude.{ℕ, ◌≡◌, ◌⊎◌, ◌&&◌, ◌||◌, Bool, true, false, List, [], ◌∷◌, ◌++◌, Option, Some, None}
use Rattle.std.specs.Prelude.{if◌then◌else◌, is_some}
use Rattle.meaning.specs.Labels.{Kind, Fails, Faulted, Killed}
use Rattle.program.specs.declared.kinds.Member.{Member}
use Rattle.protocol.specs.Points.{Point, NotifyWakes, BroadcastMarks, BroadcastReads, BroadcastMoves}
use Rattle.protocol.specs.Points.{Dies, Walks, ClearsId, LastWakes, HasEnded}
use Rattle.protocol.specs.World.{World}
use Rattle.proof_thread.specs.Completing.{IsOwn}

-- whether an action is a fault
abbrev pub is_failing : Kind → Bool
is_failing (Fails fault) = true
is_failing kind = false

-- a fault is among them
abbrev pub has_failed : List Kind → Bool
has_failed [] = false
has_failed (k ∷ ks) = is_failing k || has_failed ks

-- what is deferred of a process behind a step with this action, if it has one; a fault is deferred once, though a fork
-- that finds no room has it again where the fault is written
abbrev pub deferred_then : Option Kind → List Kind → List Kind
deferred_then None ks = ks
deferred_then (Some k) ks = if is_failing k && has_failed ks then ks else ks ++ k ∷ []

-- actions of a process's own
abbrev pub AreOwn : List Kind → Type 0
AreOwn [] = Unit {0}
AreOwn (k ∷ ks) = IsOwn k × AreOwn ks

-- a thread works, has met a fault in the source that is still to be written, or leaves
pub data Stage : Type 0 where
  Works : Stage
  Meets : Stage
  Leaves : Stage

-- how far a thread is that stands at this point of the protocol; one that is killed leaves at once
abbrev pub stage_of : Point → Stage
stage_of (Dies (Faulted fault) x) = Meets
stage_of (Dies Killed x) = Leaves
stage_of (Walks e x end) = Leaves
stage_of (ClearsId end) = Leaves
stage_of (LastWakes end) = Leaves
stage_of (HasEnded end) = Leaves
stage_of pt = Works

-- the same of each thread of a world
abbrev pub stages : World → ℕ → Stage
stages w u = stage_of (w.at u).point

-- the condition whose number a thread at this point has raised, and whose sleepers it hasn't woken or moved yet
abbrev pub notified_at : Point → Option Member
notified_at (NotifyWakes c) = Some c
notified_at (BroadcastMarks c) = Some c
notified_at (BroadcastReads c) = Some c
notified_at (BroadcastMoves c s) = Some c
notified_at pt = None

-- whether there is one, of each thread of a world
abbrev pub raised_at : World → ℕ → Bool
raised_at w u = is_some (notified_at (w.at u).point)

-- the same of a thread behind its step, which is visible, or raises a number, or neither
abbrev pub raised_then : (visible raises had : Bool) → Bool
raised_then true raises had = false
raised_then false raises had = raises || had

-- a fault is deferred of a process whose thread has met it, and none of one whose thread works
abbrev pub Agrees : Stage → Bool → Type 0
Agrees Works failed = failed ≡ false
Agrees Meets failed = failed ≡ true
Agrees Leaves failed = Unit {0}

-- a thread doesn't come to a fault
abbrev pub Stays : Stage → Stage → Type 0
Stays was now = (now ≡ was) ⊎ (now ≡ Leaves)
