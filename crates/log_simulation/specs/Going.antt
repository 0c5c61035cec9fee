-- How far a follower has come, and where it comes to.
use Rattle.std.specs.Prelude.{ℕ, ◌≡◌, Bool, true, false, List, [], ◌∷◌, ◌++◌, length, map, Option, Some}
use Rattle.words.specs.Updates.{put}
use Rattle.machine.specs.States.{State}
use Rattle.program.specs.Names.{said_by}
use Rattle.program.specs.Trees.{Program, as_version}
use Rattle.program.specs.declared.kinds.Member.{Member}
use Rattle.lowering.specs.Layout.{layout_of}
use Rattle.meaning.specs.Labels.{Action, Label, Stray, Kill, kind_of}
use Rattle.meaning.specs.Runs.{IsStep}
use Rattle.meaning.specs.States.{SourceState}
use Rattle.proof_commutation.specs.Deferring.{is_internal, IsBehind}
use Rattle.proof_simulation.specs.Ordering.{Resumes, act}
use Rattle.proof_simulation.specs.Kills.{after_kill, killed_resumed}
use Rattle.proof_simulation.specs.Next.{offer_of_process}
use Rattle.proof_simulation.specs.Progress.{Progress, progress_caught_up, progress_next, progress_stray}
use Rattle.proof_simulation.specs.Strays.{after_stray}
use Rattle.proof_simulation.specs.Tracking.{CanTake}
use Rattle.source_states.specs.Actions.{action_of}
use Rattle.source_states.specs.States.{state_of}
use Rattle.log_simulation.specs.declared.follower.Follower.{Follower}

-- the program that a follower follows, for an image of the version that its layout has
abbrev pub followed : Follower → Program
followed f = as_version f.layout.version (said_by f.checked.now)

-- a follower has come as far as this
pub record Matches (f : Follower) (g : Progress) : Type 0 where
  pub actions : map action_of f.actions.items ≡ g.actions
  pub source : state_of f.state ≡ g.source

-- where the source can take the action, the follower takes it
abbrev pub Takes : Follower → Action → (is_possible : Bool) → Follower → Type 0
Takes old action is_possible new =
    (g : Progress) (after : SourceState) → Matches old g
    → IsStep (followed old) g.source action after
    → (is_possible ≡ true) × Matches new (record g { actions = g.actions ++ action ∷ []; source = after })

-- where process t can take an internal action, it takes that
abbrev pub TakesInternal : Follower → (t : ℕ) → (is_possible : Bool) → Follower → Type 0
TakesInternal old t is_possible new =
    let p = followed old in
    (g : Progress) (label : Label) (after : SourceState) → Matches old g
    → CanTake p g.source t label → is_internal label ≡ true → IsStep p g.source (act t (kind_of label)) after
    → (is_possible ≡ true)
    × Matches new (record g { actions = g.actions ++ act t (kind_of label) ∷ []; source = after })

-- where so many actions of process t are deferred, it takes them
abbrev pub CatchesUp : Follower → (t count : ℕ) → (is_possible : Bool) → Follower → Type 0
CatchesUp old t count is_possible new =
    let p = followed old in
    (g : Progress) (ahead : SourceState) → Matches old g → IsBehind p g.deferred g.source ahead
    → length (g.deferred t) ≡ count → (is_possible ≡ true) × Matches new (progress_caught_up p t g)

-- and then the next visible action of process t, by a step of the machine to this state
abbrev pub Follows : Follower → State → (t count : ℕ) → (is_possible : Bool) → Follower → Type 0
Follows old s t count is_possible new =
    let p = followed old in
    (g : Progress) (ahead : SourceState) (label : Label) → old.layout ≡ layout_of p
    → Matches old g → IsBehind p g.deferred g.source ahead → length (g.deferred t) ≡ count
    → let caught_up = progress_caught_up p t g in
    CanTake p caught_up.source t label → is_internal label ≡ false → Resumes p s caught_up.source.table label
    → (is_possible ≡ true) × Matches new (progress_next p s t caught_up)

-- a wake of process t from outside, which waits on this condition: what is deferred of the process may be taken, and
-- then it waits no longer
pub record IsStrayDue (p : Program) (t : ℕ) (c : Member) (g : Progress) : Type 0 where
  pub ahead : SourceState
  pub behind : IsBehind p g.deferred g.source ahead
  pub step :
      let caught_up = (progress_caught_up p t g).source in
      IsStep p caught_up (act t (Stray c)) (after_stray t (Some c) caught_up)

-- where so many actions of process t are deferred, and it may stop waiting on the condition behind them, it does so
abbrev pub FollowsStray : Follower → (t : ℕ) → Member → (count : ℕ) → (is_possible : Bool) → Follower → Type 0
FollowsStray old t c count is_possible new =
    let p = followed old in
    (g : Progress) → Matches old g → length (g.deferred t) ≡ count → IsStrayDue p t c g
    → (is_possible ≡ true) × Matches new (progress_stray p (Some c) t g)

-- whom process t has resumed that is killed, where its thread has raised a number or hasn't, behind what was deferred
abbrev pub resumed_by : Program → State → (t : ℕ) → (raised : Bool) → Progress → List ℕ
resumed_by p s t raised g =
    let a = (progress_caught_up p t g).source in
    killed_resumed p s a.table raised (offer_of_process p a.variable (a.process t))

-- a kill of process t that led to this state of the machine, of which this monitor comes last: what is deferred of the
-- process may be taken, and then it is killed
pub record IsKillDue (p : Program) (s : State) (t : ℕ) (last : Option ℕ) (g : Progress) : Type 0 where
  pub ahead : SourceState
  pub behind : IsBehind p g.deferred g.source ahead
  pub step :
      let caught_up = (progress_caught_up p t g).source in
      let resumed = resumed_by p s t (g.raised t) g in
      IsStep p caught_up (act t (Kill resumed last)) (after_kill t resumed last caught_up)

-- what was deferred of process t, and its kill
abbrev pub progress_left : Program → State → (t : ℕ) → (last : Option ℕ) → Progress → Progress
progress_left p s t last g =
    let caught_up = progress_caught_up p t g in
    let resumed = resumed_by p s t (g.raised t) g in
    record caught_up {
      actions = caught_up.actions ++ act t (Kill resumed last) ∷ [];
      source = after_kill t resumed last caught_up.source;
      raised = put g.raised t false;
    }

-- where so many actions of process t are deferred, and it may be killed behind them, it is
abbrev pub FollowsKill : Follower → State → (t count : ℕ) → (raised : Bool) → (last : Option ℕ) → (is_possible : Bool)
    → Follower → Type 0
FollowsKill old s t count raised last is_possible new =
    let p = followed old in
    (g : Progress) → old.layout ≡ layout_of p → Matches old g → length (g.deferred t) ≡ count → g.raised t ≡ raised
    → IsKillDue p s t last g → (is_possible ≡ true) × Matches new (progress_left p s t last g)
