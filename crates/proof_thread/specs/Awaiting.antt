-- The requests by which a process leaves, and those of a JOIN.
use Rattle.std.specs.Prelude.{ℕ, suc, ◌≡◌, ◌≢◌, ◌<◌, ◌^◌, pos, ℤ, List, Option, Some, None}
use Rattle.std.specs.Prelude.{⊤}
use Rattle.words.specs.Process.{process_word}
use Rattle.words.specs.Signed.{signed_of}
use Rattle.words.specs.declared.outcome.Fault.TheVariants.{JoinedAborted}
use Rattle.program.specs.Trees.{Part, NoPart, SomePart, followed_by}
use Rattle.locals.specs.Threads.{Thread, Dies}
use Rattle.locals.specs.Looks.{Request, Asks, AskLoad, AskWait, AskReturn}
use Rattle.locals.specs.Looks.{AskReturnValue, look}
use Rattle.meaning.specs.Labels.{Faulted, Kind}
use Rattle.meaning.specs.Labels as L
use Rattle.meaning.specs.Processes.{Frame, Caller}
use Rattle.meaning.specs.Processes.{goes_on, with_result}
use Rattle.proof_thread.specs.Following.{Build, StepsWithin, Stands}

-- an action of a process's own, none from outside
abbrev pub IsOwn : Kind → Type 0
IsOwn (L.Stray c) = ⊥
IsOwn (L.Kill resumed last) = ⊥
IsOwn kind = ⊤

-- an internal action of a process's own
abbrev pub IsInternal : Kind → Type 0
IsInternal L.Assign = ⊤
IsInternal L.Test = ⊤
IsInternal L.Call = ⊤
IsInternal L.Return = ⊤
IsInternal (L.Fails fault) = ⊤
IsInternal kind = ⊥

-- the return of a process's first procedure, without a value and with one; and what it leaves with
abbrev pub return_request : Option ℕ → Request
return_request None = AskReturn
return_request (Some w) = AskReturnValue w

-- the value that a process leaves with, by its word
abbrev pub left_value : Option ℕ → ℤ
left_value None = pos 0
left_value (Some w) = signed_of w

-- a result, where there is one, is a word
abbrev pub IsResult : Option ℕ → Type 0
IsResult None = ⊤
IsResult (Some w) = w < 2 ^ 32

-- the most local steps from one request of a JOIN to the next
abbrev pub join_steps : ℕ
join_steps = 8

-- a thread that learned of an abort stands for the ABORTED part, or comes to a fault where there is none
abbrev pub GoesAborted : Build → ℕ → Thread → Part → Frame → List Caller → Type 0
GoesAborted b t x NoPart f callers = StepsWithin b t join_steps x (Dies (Faulted JoinedAborted))
GoesAborted b t x (SomePart body) f callers =
    Stands b t x (goes_on None (record f { rest = followed_by body f.rest }) callers)

-- the requests of a JOIN: the child's id word is read, and while it isn't 0 the thread sleeps on it; then the outcome
-- is read, and the result
pub record Awaits (b : Build) (t child : ℕ) (into : Option ℕ) (part : Part) (f : Frame)
    (callers : List Caller) : Type 0 where
  pub reads : Thread
  pub sleeps : Thread
  pub learns : Thread
  pub takes : Thread
  pub after_read : ℕ → Thread
  pub after_sleep : ℕ → Thread
  pub after_outcome : ℕ → Thread
  pub after_result : ℕ → Thread
  pub read : look b.code.image t reads ≡ Asks (AskLoad (process_word child 2)) after_read
  pub sleep : look b.code.image t sleeps ≡ Asks (AskWait (process_word child 2) child) after_sleep
  pub outcome : look b.code.image t learns ≡ Asks (AskLoad (process_word child 5)) after_outcome
  pub result : look b.code.image t takes ≡ Asks (AskLoad (process_word child 4)) after_result
  pub there : (n : ℕ) → StepsWithin b t join_steps (after_read (suc n)) sleeps
  pub gone : StepsWithin b t join_steps (after_read 0) learns
  pub again : (n : ℕ) → StepsWithin b t join_steps (after_sleep n) reads
  pub ended : StepsWithin b t join_steps (after_outcome 16) takes
  pub aborted : (n : ℕ) → n ≢ 16 → GoesAborted b t (after_outcome n) part f callers
  pub taken : (w : ℕ) → w < 2 ^ 32 → Stands b t (after_result w)
      (goes_on None (with_result into (signed_of w) f) callers)
