-- The source behind the machine: what its processes have done that is visible, while internal actions are still
-- deferred.
use Rattle.std.specs.Prelude.{ℕ, suc, ◌+◌, ◌≡◌, ◌≤◌, Bool, true, false, List, [], length, Option, Some, None}
use Rattle.words.specs.Updates.{put}
use Rattle.program.specs.declared.kinds.Member.{Member}
use Rattle.machine.specs.States.{State, with_sleepers}
use Rattle.machine.specs.Runs.{killed_to}
use Rattle.program.specs.Trees.{Program}
use Rattle.program.specs.WellFormed.{WellFormed}
use Rattle.meaning.specs.Labels.{Kind, Stray, Kill, Label}
use Rattle.meaning.specs.Runs.{Leads, IsStep as IsSourceStep}
use Rattle.proof_commutation.specs.Placed.{actions_of}
use Rattle.proof_simulation.specs.Kills.{killed_last, killed_resumed, after_kill}
use Rattle.proof_simulation.specs.Next.{offer_of_process, take_deferred}
use Rattle.proof_simulation.specs.Strays.{after_stray}
use Rattle.meaning.specs.Table.{Table, Allows}
use Rattle.meaning.specs.Processes.{Process}
use Rattle.meaning.specs.Offers.{Effect, offer, TakesUp}
use Rattle.meaning.specs.States.{SourceState, variables_after}
use Rattle.proof_commutation.specs.Deferring.{is_internal, IsBehind}
use Rattle.protocol.specs.Carries.{IsByHolder}
use Rattle.protocol.specs.World.{World}
use Rattle.proof_simulation.specs.Corresponding.{Corresponds}
use Rattle.proof_simulation.specs.Ordering.{KeepsOthers, Resumes, act, state_after}
use Rattle.proof_thread.specs.Completing.{IsOwn}
use Rattle.proof_simulation.specs.Deferred.{Agrees, AreOwn, has_failed, stages, raised_at}
use Rattle.meaning.specs.Labels.{kind_of}

-- whether each thread has raised a number, from a world to the next, where that changed for thread t at most
abbrev pub RaisedSo : World → World → ℕ → Bool → Type 0
RaisedSo w w' t has = (u : ℕ) → raised_at w' u ≡ put (raised_at w) t has u

-- a process can take an action of this label
pub record CanTake (p : Program) (a : SourceState) (t : ℕ) (label : Label) : Type 0 where
  pub before : Process
  pub after : Process
  pub effect : Effect
  pub table : Table
  pub stands : a.process t ≡ Some before
  pub takes : TakesUp (offer p a.variable before) label effect after
  pub allows : Allows t label a.table table

-- the source goes with the machine after so many steps, but that internal actions are still deferred, of each process
-- no more than there were steps
pub record Tracks (p : Program) (w : WellFormed p) (steps : ℕ) (s : State) (a : SourceState) : Type 0 where
  pub deferred : ℕ → List Kind
  pub ahead : SourceState
  pub ties : Corresponds p w steps s ahead
  pub behind : IsBehind p deferred a ahead
  pub few : (t : ℕ) → length (deferred t) ≤ steps
  pub agrees : (t : ℕ) → Agrees (stages ties.world t) (has_failed (deferred t))
  pub own : (t : ℕ) → AreOwn (deferred t)

-- behind a wake of thread t from outside: the source tracks the machine as before, or where the thread slept on the
-- word of a condition that its process waited on, what is deferred of the process is taken, and then it waits no longer
abbrev pub TracksStray : (p : Program) (w : WellFormed p) (steps : ℕ) (s : State) (t : ℕ) (a : SourceState)
    → (ℕ → List Kind) → World → Option Member → Type 0
TracksStray p w steps s t a deferred was None =
    (n : Tracks p w (suc steps) (with_sleepers s (put s.asleep t None)) a) × (n.deferred ≡ deferred)
    × ((u : ℕ) → raised_at n.ties.world u ≡ raised_at was u)
TracksStray p w steps s t a deferred was (Some c) =
    let caught_up = take_deferred p t (deferred t) a in
    Leads p a (actions_of t (deferred t)) caught_up
    × IsSourceStep p caught_up (act t (Stray c)) (after_stray t (Some c) caught_up)
    × (n : Tracks p w (suc steps) (with_sleepers s (put s.asleep t None)) (after_stray t (Some c) caught_up))
    × (n.deferred ≡ put deferred t []) × ((u : ℕ) → raised_at n.ties.world u ≡ raised_at was u)

-- behind a kill of thread t, which wasn't dying: what is deferred of the process is taken, and then it is killed, with
-- those whom it has resumed, and the monitor that it abandons last
abbrev pub TracksKill : (p : Program) (w : WellFormed p) (steps : ℕ) (s : State) (t : ℕ) (a : SourceState)
    → (ℕ → List Kind) → (raised : Bool) → World → Type 0
TracksKill p w steps s t a deferred raised was =
    let caught_up = take_deferred p t (deferred t) a in
    let o = offer_of_process p caught_up.variable (caught_up.process t) in
    let resumed = killed_resumed p (killed_to true s t) caught_up.table raised o in
    let last = killed_last p s.word t in
    let after = after_kill t resumed last caught_up in
    Leads p a (actions_of t (deferred t)) caught_up × IsSourceStep p caught_up (act t (Kill resumed last)) after
    × (n : Tracks p w (suc steps) (killed_to true s t) after) × (n.deferred ≡ put deferred t [])
    × RaisedSo was n.ties.world t false

-- a step of thread t led to a state of the machine, and was a visible action of its process. First come the deferred
-- actions of the process, and then that
pub record HasDeferred (p : Program) (w : WellFormed p) (steps : ℕ) (s : State) (t : ℕ) (a : SourceState)
    (ks : List Kind) : Type 0 where
  pub deferred : ℕ → List Kind
  pub now : SourceState
  pub behind : IsBehind p deferred a now
  pub mine : deferred t ≡ ks
  pub few : (u : ℕ) → length (deferred u) ≤ steps
  pub before : Process
  pub after : Process
  pub label : Label
  pub effect : Effect
  pub table : Table
  pub visible : is_internal label ≡ false
  pub stands : now.process t ≡ Some before
  pub takes : TakesUp (offer p now.variable before) label effect after
  pub allows : Allows t label now.table table
  pub holder : IsByHolder t label now.table
  pub keeps : KeepsOthers t now.table now.variable (variables_after effect now.variable)
  pub resumes : Resumes p s now.table label
  pub fresh : now.process (now.table.made + 1) ≡ None
  pub ties : Corresponds p w steps s (state_after now t effect after table)
  pub agrees : (u : ℕ) → (u ≡ t → ⊥) → Agrees (stages ties.world u) (has_failed (deferred u))
  pub calm : Agrees (stages ties.world t) false
  pub own : (u : ℕ) → AreOwn (deferred u)
  pub mine_own : IsOwn (kind_of label)
