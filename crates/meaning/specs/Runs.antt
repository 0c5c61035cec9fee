-- Actions and runs of the source: what a process does for itself, and what all share allows it.
use Rattle.std.specs.Prelude.{ℕ, ◌≡◌, ◌⊎◌, ◌++◌, List, [], ◌∷◌, Option, Some, None, Contains, ⊤}
use Rattle.words.specs.Updates.{put}
use Rattle.program.specs.declared.kinds.Member.{Member}
use Rattle.program.specs.Trees.{Program}
use Rattle.meaning.specs.Values.{Variables}
use Rattle.meaning.specs.Labels.{Killed, Label, Exits, Waits, kind_of, Kind, Stray, Kill, Action}
use Rattle.meaning.specs.Table.{Allows, AllowsStray, AllowsKill}
use Rattle.meaning.specs.Processes.{Process, Entering, Before, Failing, Dying, Over, holds, without_monitor}
use Rattle.meaning.specs.Offers.{Effect, Offer, Does, NotifiesSome, NotifiesAll, offer, TakesUp}
use Rattle.meaning.specs.States.{SourceState, opening, variables_after, printed_after, processes_after}

-- an action of a process's own takes the source from a state to another
pub record IsAction (p : Program) (s : SourceState) (a : Action) (s' : SourceState) : Type 0 where
  pub before : Process
  pub after : Process
  pub label : Label
  pub effect : Effect
  pub stands : s.process a.process ≡ Some before
  pub acts : TakesUp (offer p s.variable before) label effect after
  pub named : a.kind ≡ kind_of label
  pub allows : Allows a.process label s.table s'.table
  pub variables : s'.variable ≡ variables_after effect s.variable
  pub printed : s'.printed ≡ printed_after effect s.printed
  pub processes : s'.process ≡ put (processes_after effect s.process) a.process (Some after)

-- a stray wake-up from outside: a process that waits resumes, though nobody notified it
pub record IsStray (s : SourceState) (process : ℕ) (c : Member) (s' : SourceState) : Type 0 where
  pub allows : AllowsStray process c s.table s'.table
  pub variables : s'.variable ≡ s.variable
  pub printed : s'.printed ≡ s.printed
  pub processes : s'.process ≡ s.process

-- a process that isn't dying and isn't over can be killed
abbrev pub IsKillable : Process → Type 0
IsKillable (Dying cause ms) = ⊥
IsKillable (Over end) = ⊥
IsKillable q = ⊤

-- the action that an offer makes gives up the monitor: it is exit or wait
abbrev pub GivesUp : Offer → ℕ → Type 0
GivesUp (Does (Exits m) effect after) n = m ≡ n
GivesUp (Does (Waits c) effect after) n = c.monitor ≡ n
GivesUp other n = ⊥

-- the process has just entered the monitor, or would enter it next
abbrev pub Enters : Process → ℕ → Type 0
Enters (Entering m f callers) n = m ≡ n
Enters (Before (Some m) f callers) n = m ≡ n
Enters (Failing fault (Some m) f callers) n = m ≡ n
Enters other n = ⊥

-- what a killed process abandons: what it holds, innermost first; but a monitor that it is just taking or giving up may
-- come last
abbrev pub IsLeft : Program → Variables → Process → Option ℕ → List ℕ → Type 0
IsLeft p v q None ms = ms ≡ holds q
IsLeft p v q (Some m) ms =
    Contains (holds q) m × (Enters q m ⊎ GivesUp (offer p v q) m) × (ms ≡ without_monitor m (holds q) ++ m ∷ [])

-- a killed process may have resumed waiters where its next action is a notify or a broadcast
abbrev pub IsNotifying : Offer → Option Member → Type 0
IsNotifying (NotifiesSome c after) (Some d) = c ≡ d
IsNotifying (NotifiesAll c after) (Some d) = c ≡ d
IsNotifying other (Some d) = ⊥
IsNotifying other None = ⊤

-- a kill from outside: the process dies where it stands
pub record IsKill (p : Program) (s : SourceState) (process : ℕ) (resumed : List ℕ) (last : Option ℕ)
    (s' : SourceState) : Type 0 where
  pub before : Process
  pub monitors : List ℕ
  pub notified : Option Member
  pub stands : s.process process ≡ Some before
  pub killable : IsKillable before
  pub notifies : IsNotifying (offer p s.variable before) notified
  pub left : IsLeft p s.variable before last monitors
  pub allows : AllowsKill process notified resumed s.table s'.table
  pub variables : s'.variable ≡ s.variable
  pub printed : s'.printed ≡ s.printed
  pub processes : s'.process ≡ put s.process process (Some (Dying Killed monitors))

-- one action, a process's own or from outside
abbrev pub IsStep : Program → SourceState → Action → SourceState → Type 0
IsStep p s a s' = IsAction p s a s'
    ⊎ ((c : Member) × (a.kind ≡ Stray c) × IsStray s a.process c s')
    ⊎ ((resumed : List ℕ) × (last : Option ℕ) × (a.kind ≡ Kill resumed last) × IsKill p s a.process resumed last s')

-- actions from a state to another, one after another
abbrev pub Leads : Program → SourceState → List Action → SourceState → Type 0
Leads p s [] s' = s ≡ s'
Leads p s (a ∷ as') s' = (mid : SourceState) × IsStep p s a mid × Leads p mid as' s'

-- a run of the program
abbrev pub IsRun : Program → List Action → SourceState → Type 0
IsRun p actions s = Leads p (opening p) actions s

-- some action of the process's own is possible
pub record CanMove (p : Program) (s : SourceState) (process : ℕ) : Type 0 where
  pub kind : Kind
  pub after : SourceState
  pub moves : IsAction p s (record { process = process; kind = kind }) after
