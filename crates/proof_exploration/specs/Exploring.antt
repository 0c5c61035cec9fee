-- Runs in which not all processes are interleaved: in some states one process alone is followed.
use Rattle.std.specs.Prelude.{ℕ, ◌≡◌, Bool, true, false, List, [], ◌∷◌, Option, Some, None, Contains, ⊤}
use Rattle.words.specs.Updates.{put}
use Rattle.program.specs.Trees.{Program}
use Rattle.meaning.specs.Labels.{Action, Aborted, Cause, Kind, Stray, Kill, Label, Forks, FindsFull, Claims}
use Rattle.meaning.specs.Labels.{FindsClaimed, Enters, Resumes, Enter, Resume, Fork, Claim, Fails}
use Rattle.words.specs.declared.outcome.Fault.TheVariants.{HandleNotJoinable, ProcessTableFull}
use Rattle.meaning.specs.Processes.{Process, Over}
use Rattle.meaning.specs.States.{SourceState}
use Rattle.meaning.specs.Runs.{CanMove, IsAction}

-- two states that are the same but for what was printed
pub record IsLike (s s' : SourceState) : Type 0 where
  pub table : s.table ≡ s'.table
  pub variable : s.variable ≡ s'.variable
  pub process : s.process ≡ s'.process

-- the process is over
abbrev pub IsOver : Process → Type 0
IsOver (Over end) = ⊤
IsOver other = ⊥

-- no process can move, and some process isn't over
pub record IsStuck (p : Program) (s : SourceState) : Type 0 where
  pub rests : (t : ℕ) → CanMove p s t → ⊥
  pub process : ℕ
  pub at : Process
  pub stands : s.process process ≡ Some at
  pub goes_on : IsOver at → ⊥

-- some process has aborted
abbrev pub HasAborted : SourceState → Type 0
HasAborted s = (t : ℕ) × (cause : Cause) × (s.process t ≡ Some (Over (Aborted cause)))

-- none of the actions for which processes race: to take a monitor, to make a process, to claim one
abbrev pub IsCalm : Label → Type 0
IsCalm (Enters m was_abandoned) = ⊥
IsCalm (Resumes m was_abandoned) = ⊥
IsCalm (Forks child) = ⊥
IsCalm FindsFull = ⊥
IsCalm (Claims child) = ⊥
IsCalm (FindsClaimed child) = ⊥
IsCalm label = ⊤

-- an action of this name is calm. A fault of these two names may be what a race led to
abbrev pub IsCalmKind : Kind → Type 0
IsCalmKind (Enter m) = ⊥
IsCalmKind (Resume m) = ⊥
IsCalmKind (Fork child) = ⊥
IsCalmKind (Claim child) = ⊥
IsCalmKind (Fails ProcessTableFull) = ⊥
IsCalmKind (Fails HandleNotJoinable) = ⊥
IsCalmKind kind = ⊤

-- the process's next action is possible and calm
pub record MovesCalmly (p : Program) (s : SourceState) (t : ℕ) : Type 0 where
  pub kind : Kind
  pub after : SourceState
  pub moves : IsAction p s (record { process = t; kind = kind }) after
  pub calm : IsCalm moves.label

-- where a process acts: with strays one that waits may wake, though nobody notified it
abbrev pub awake : Bool → ℕ → SourceState → SourceState
awake false t s = s
awake true t s = record s { table = record s.table { waits = put s.table.waits t None } }

-- a turn of a process: an action of its own, with strays behind a stray wake-up of it
abbrev pub IsTurn : Program → Bool → SourceState → Action → SourceState → Type 0
IsTurn p strays s a s' = IsAction p (awake strays a.process s) a s'

-- turns lead from a state to another
abbrev pub LeadsBy : Program → Bool → SourceState → List Action → SourceState → Type 0
LeadsBy p strays s [] s' = s ≡ s'
LeadsBy p strays s (a ∷ as') s' = (mid : SourceState) × IsTurn p strays s a mid × LeadsBy p strays mid as' s'

-- processes' own actions do
abbrev pub LeadsAlone : Program → SourceState → List Action → SourceState → Type 0
LeadsAlone p s actions s' = LeadsBy p false s actions s'

-- a process that is followed, where one is, does the action
abbrev pub IsFollowed : Option ℕ → ℕ → Type 0
IsFollowed None q = ⊤
IsFollowed (Some t) q = q ≡ t

-- who is followed can move, and its next action is calm
abbrev pub PicksCalm : Program → (SourceState → Option ℕ) → Type 0
PicksCalm p pick = (s : SourceState) (t : ℕ) → pick s ≡ Some t → MovesCalmly p s t

-- actions lead from a state to another, and where a process is followed it does them
abbrev pub Follows : Program → (SourceState → Option ℕ) → SourceState → List Action → SourceState → Type 0
Follows p pick s [] s' = s ≡ s'
Follows p pick s (a ∷ as') s' =
    (mid : SourceState) × IsAction p s a mid × IsFollowed (pick s) a.process × Follows p pick mid as' s'

-- an action from outside
abbrev pub IsFromOutside : Kind → Type 0
IsFromOutside (Stray c) = ⊤
IsFromOutside (Kill resumed last) = ⊤
IsFromOutside other = ⊥

-- none of these actions is from outside
abbrev pub AreOwn : List Action → Type 0
AreOwn [] = ⊤
AreOwn (a ∷ actions) = (IsFromOutside a.kind → ⊥) × AreOwn actions

-- an action of a process's own, or its stray wake-up
abbrev pub IsUnkilled : Kind → Type 0
IsUnkilled (Kill resumed last) = ⊥
IsUnkilled other = ⊤

-- none of these actions is a kill
abbrev pub AreUnkilled : List Action → Type 0
AreUnkilled [] = ⊤
AreUnkilled (a ∷ actions) = IsUnkilled a.kind × AreUnkilled actions

-- the same numbers stand in both lists
abbrev pub SameMembers : List ℕ → List ℕ → Type 0
SameMembers qs rs = (q : ℕ) → (Contains qs q → Contains rs q) × (Contains rs q → Contains qs q)
