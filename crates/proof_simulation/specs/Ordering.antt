-- Where the actions of the source stand among the steps of the machine.
use Rattle.std.specs.Prelude.{ℕ, ◌+◌, ◌-◌, ◌%◌, ◌≡◌, ◌==◌, ◌&&◌, ◌||◌, not, nat_lt, Bool, true, false, List, []}
use Rattle.std.specs.Prelude.{◌∷◌, length, Option, Some, None}
use Rattle.words.specs.Process.{process_word}
use Rattle.words.specs.Updates.{put}
use Rattle.words.specs.Versions.{base_of}
use Rattle.robustexit.specs.declared.phase.ExitPhase.{ExitPhase}
use Rattle.robustexit.specs.declared.phase.ExitPhase.TheVariants.{Entry, Pending, ClearId, LastWake, Ended}
use Rattle.robustexit.specs.RobustExit.{Shared, ExitStep}
use Rattle.locals.specs.Threads.{Exits}
use Rattle.locals.specs.Looks.{Request, Look, Goes, Asks, Leaves, Breaks, Rests, AskLoad, AskStore, AskSwap}
use Rattle.locals.specs.Looks.{AskAdd, AskCompareSwap, AskFork, AskPrint, AskWake, AskRequeue}
use Rattle.machine.specs.States.{State, with_thread}
use Rattle.machine.specs.AbstractServing.{Serves, shared_of, with_shared}
use Rattle.program.specs.Trees.{Program}
use Rattle.program.specs.declared.kinds.Member.{Member}
use Rattle.lowering.specs.Layout.{link_word, lock_word_address, member_address}
use Rattle.meaning.specs.Values.{Variables}
use Rattle.meaning.specs.Labels.{Kind, Action, Label, Notifies, Broadcasts, kind_of}
use Rattle.meaning.specs.Table.{Table, HeldBy, Allows}
use Rattle.meaning.specs.Processes.{Process}
use Rattle.meaning.specs.Offers.{Effect, Nothing, offer, TakesUp}
use Rattle.meaning.specs.States.{SourceState, variables_after, printed_after, processes_after}
use Rattle.proof_commutation.specs.Deferring.{is_internal, MayDefer}
use Rattle.protocol.specs.Word.{owner}
use Rattle.protocol.specs.Carries.{IsByHolder, chosen_from, waits_on}
use Rattle.words.specs.declared.outcome.Fault.{Fault}
use Rattle.lowering.specs.declared.mark.Mark.{Mark}
use Rattle.proof_thread.specs.Deferrals.{deferred_by_mark, deferred_by_request}
use Rattle.meaning.specs.Labels.{Fails}
pub use Rattle.refinement.specs.Outside.{any_below}
use Rattle.proof_pieces.specs.WholeCalls.{ServesWhole}
use Rattle.proof_simulation.specs.Deferred.{Stage, Works, Meets, Agrees, Stays, is_failing}
use Rattle.proof_simulation.specs.Deferred as W
use Rattle.robustexit.specs.ExitRules.{exit_of}

-- the address is that of the k-th word of a process: each has six of them, from 1 on, and the monitors lie behind them
abbrev pub is_process_word : Program → ℕ → ℕ → Bool
is_process_word p k a = nat_lt 0 a && (nat_lt a (base_of p.version) && ((a - 1) % 6 == k))

-- the address is that of a monitor's link word, or of its lock word
abbrev pub is_link_word : Program → ℕ → Bool
is_link_word p a = any_below (length p.monitors) (λ m. link_word p m == a)

-- whether a monitor's lock word lies at this address
abbrev pub is_lock_word : Program → ℕ → Bool
is_lock_word p a = any_below (length p.monitors) (λ m. lock_word_address p m == a)

-- whether the answer to a request is that of a visible action: a free lock is taken (all that is compared and swapped
-- is a lock word); a lock is given up (all that a 0 is swapped into is one), or a process claimed; an id word is read
-- as 0; a variable is stored, which is all that is stored but list heads, pending words and links; a condition's word
-- is woken, or all that sleep on it are moved; a number is printed; a process is made
abbrev pub completes : Program → Request → (answer : ℕ) → Bool
completes p (AskCompareSwap a expected new) r = (r == expected) && (owner expected == 0)
completes p (AskSwap a v) r = (v == 0) || (r == 0)
completes p (AskAdd a v) r = not (v == 1)
completes p (AskLoad a) r = is_process_word p 2 a && (r == 0)
completes p (AskStore a v) r = not (is_process_word p 0 a) && not (is_process_word p 1 a) && not (is_link_word p a)
completes p (AskWake a n) r = not (is_lock_word p a)
completes p (AskRequeue a b n m expected) r = true
completes p (AskPrint number) r = true
completes p (AskFork entry arguments has_room) r = not (r == 0)
completes p request r = false

-- whether a step of an exit of thread t is one, by the words before it: a monitor is abandoned, at its entry or, where
-- it is the pending one and the thread owns it, at the end of the walk; or the id word is cleared
abbrev pub completes_exit : (word : ℕ → ℕ) → ℕ → ExitPhase → Bool
completes_exit word t (Entry entry seen) = not (word (process_word t 1) == entry.0)
completes_exit word t Pending =
    not (word (process_word t 1) == 0) && (owner (word (word (process_word t 1) + 1)) == t)
completes_exit word t ClearId = true
completes_exit word t LastWake = false
completes_exit word t Ended = false

-- whether a request raises the number of a condition's word, which is all that is added to; and a step that looks so
abbrev pub is_raise : Request → Bool
is_raise (AskAdd a v) = v == 1
is_raise request = false

abbrev pub raises_number : Look → Bool
raises_number (Asks request go) = is_raise request
raises_number other = false

-- what a thread that looks so does in one step, and whether that is a visible action
abbrev pub MovesSo : Program → Bool → State → ℕ → List ℕ → Look → State → Type 0
MovesSo p done s t woken (Goes x) s' = (woken ≡ []) × (s' ≡ with_thread s t x) × (done ≡ false)
MovesSo p done s t woken (Asks request go) s' =
    (answer : ℕ) × (mid : State) × Serves t request s woken answer mid × (s' ≡ with_thread mid t (go answer))
    × (done ≡ completes p request answer)
MovesSo p done s t woken (Leaves phase) s' =
    (after : Shared) × (next : ExitPhase) × ExitStep (exit_of p.version) s.size t phase (shared_of s) woken after next
    × (s' ≡ with_thread (with_shared s after) t (Exits next)) × (done ≡ completes_exit s.word t phase)
MovesSo p done s t woken Breaks s' = ⊥
MovesSo p done s t woken Rests s' = ⊥

-- the same, with whether it raises a number, and the action that is deferred, if the step of a thread at this mark has
-- one
abbrev pub StepsSo : Program → Bool → Bool → Option Kind → Option Mark → State → ℕ → List ℕ → Look → State → Type 0
StepsSo p done raises deferral mark s t woken (Goes x) s' =
    (woken ≡ []) × (s' ≡ with_thread s t x) × (done ≡ false) × (deferral ≡ deferred_by_mark mark) × (raises ≡ false)
StepsSo p done raises deferral mark s t woken (Asks request go) s' =
    (answer : ℕ) × (mid : State) × Serves t request s woken answer mid × (s' ≡ with_thread mid t (go answer))
    × (done ≡ completes p request answer) × (deferral ≡ deferred_by_request mark request answer)
    × (raises ≡ is_raise request)
StepsSo p done raises deferral mark s t woken (Leaves phase) s' =
    (after : Shared) × (next : ExitPhase) × ExitStep (exit_of p.version) s.size t phase (shared_of s) woken after next
    × (s' ≡ with_thread (with_shared s after) t (Exits next)) × (done ≡ completes_exit s.word t phase)
    × (deferral ≡ None) × (raises ≡ false)
StepsSo p done raises deferral mark s t woken Breaks s' = ⊥
StepsSo p done raises deferral mark s t woken Rests s' = ⊥

-- the same of a step with whole calls
abbrev pub StepsWhole : Program → Bool → Bool → Option Kind → Option Mark → State → ℕ → List ℕ → Look → State → Type 0
StepsWhole p done raises deferral mark s t woken (Asks request go) s' =
    (answer : ℕ) × (mid : State) × ServesWhole t request s woken answer mid × (s' ≡ with_thread mid t (go answer))
    × (done ≡ completes p request answer) × (deferral ≡ deferred_by_request mark request answer)
    × (raises ≡ is_raise request)
StepsWhole p done raises deferral mark s t woken other s' = StepsSo p done raises deferral mark s t woken other s'

-- an action of process t
abbrev pub act : ℕ → Kind → Action
act t k = record { process = t; kind = k }

-- the state after an action
abbrev pub state_after : SourceState → ℕ → Effect → Process → Table → SourceState
state_after c t effect r T = record {
  table = T;
  variable = variables_after effect c.variable;
  printed = printed_after effect c.printed;
  process = put (processes_after effect c.process) t (Some r);
}

-- who sleeps there sleeps on the word of the condition
abbrev pub sleeps_on : Program → Member → Option ℕ → Bool
sleeps_on p c None = false
sleeps_on p c (Some a) = a == member_address p c

-- those who wait on the condition and don't sleep on its word in this state of the machine
abbrev pub awake_waiters : Program → State → Table → Member → List ℕ
awake_waiters p s T c = chosen_from (λ u. waits_on c (T.waits u) && not (sleeps_on p c (s.asleep u))) s.made 1

-- a notify or a broadcast resumes those, in the state behind the step
abbrev pub Resumes : Program → State → Table → Label → Type 0
Resumes p s T (Notifies c resumed) = resumed ≡ awake_waiters p s T c
Resumes p s T (Broadcasts c resumed) = resumed ≡ awake_waiters p s T c
Resumes p s T label = Unit {0}

-- the variables of monitors that process t doesn't hold stay as they are
abbrev pub KeepsOthers : ℕ → Table → Variables → Variables → Type 0
KeepsOthers t T v v' = (m n i : ℕ) → (T.hold m ≡ HeldBy t → ⊥) → v' m n i ≡ v m n i

-- what process t does in the source by a step of its thread to a state of the machine, from a stage to the next:
-- nothing; nothing more, where the fault that is written was met already; a deferred action, just where the step has
-- one; or, just where the step is a visible action, that
pub data Places (p : Program) (s : State) (t : ℕ) (c c' : SourceState) (done : Bool) (deferral : Option Kind)
    (was now : Stage) : List Kind → Type 0 where
  nothing : done ≡ false → deferral ≡ None → Stays was now → c' ≡ c → Places p s t c c' done deferral was now []
  again : (fault : Fault) → done ≡ false → deferral ≡ Some (Fails fault) → was ≡ Meets → now ≡ W.Leaves → c' ≡ c
      → Places p s t c c' done deferral was now []
  waits : (q r : Process) (label : Label) → done ≡ false → deferral ≡ Some (kind_of label) → was ≡ Works
      → Agrees now (is_failing (kind_of label)) → c.process t ≡ Some q
      → MayDefer p t c.variable c.table q label r → c' ≡ state_after c t Nothing r c.table
      → Places p s t c c' done deferral was now (kind_of label ∷ [])
  acts : (q r : Process) (label : Label) (effect : Effect) (T : Table) → done ≡ true → Agrees now false
      → is_internal label ≡ false
      → c.process t ≡ Some q → TakesUp (offer p c.variable q) label effect r → Allows t label c.table T
      → IsByHolder t label c.table → KeepsOthers t c.table c.variable (variables_after effect c.variable)
      → Resumes p s c.table label → c' ≡ state_after c t effect r T
      → Places p s t c c' done deferral was now (kind_of label ∷ [])
