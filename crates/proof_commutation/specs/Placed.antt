-- A run reordered: an action that is deferred comes right before the next of its process that isn't.
use Rattle.std.specs.Prelude.{ℕ, zero, suc, ◌≡◌, ◌==◌, Bool, true, List, [], ◌∷◌, ◌++◌, map, Some, if◌then◌else◌}
use Rattle.words.specs.Updates.{put}
use Rattle.program.specs.Trees.{Program}
use Rattle.meaning.specs.Labels.{Action, Kind, Label, kind_of}
use Rattle.meaning.specs.Processes.{Process}
use Rattle.meaning.specs.States.{SourceState}
use Rattle.meaning.specs.Runs.{IsStep}
use Rattle.proof_commutation.specs.Deferring.{MayDefer}

-- an action of a run, and whether it is to be deferred
pub record Marked : Type 0 where
  pub process : ℕ
  pub kind : Kind
  pub deferred : Bool

-- the action alone
abbrev pub action_of : Marked → Action
action_of x = record { process = x.process; kind = x.kind }

-- what is deferred of process t, as actions
abbrev pub actions_of : ℕ → List Kind → List Action
actions_of t ks = map (λ k. record { process = t; kind = k }) ks

-- what is deferred of processes 1 to n, by number
abbrev pub actions_up_to : ℕ → (ℕ → List Kind) → List Action
actions_up_to zero deferred = []
actions_up_to (suc n) deferred = actions_up_to n deferred ++ actions_of (suc n) (deferred (suc n))

-- the actions of a run in another order, where these are deferred already; what is deferred at the end, of processes 1
-- to n, comes last
abbrev pub placed_behind : (n : ℕ) → (deferred : ℕ → List Kind) → List Marked → List Action
placed_behind n deferred [] = actions_up_to n deferred
placed_behind n deferred (x ∷ xs) =
    if x.deferred then placed_behind n (put deferred x.process (deferred x.process ++ x.kind ∷ [])) xs
    else actions_of x.process (deferred x.process) ++ action_of x ∷ placed_behind n (put deferred x.process []) xs

-- the run reordered, where there are n processes and nothing is deferred at first
abbrev pub placed_actions : (n : ℕ) → List Marked → List Action
placed_actions n xs = placed_behind n (λ t. []) xs

-- what a process does among these actions, in order
abbrev pub kinds_of : ℕ → List Action → List Kind
kinds_of t [] = []
kinds_of t (a ∷ actions) = if a.process == t then a.kind ∷ kinds_of t actions else kinds_of t actions

-- the action may be deferred, in this state
pub record Defers (p : Program) (s : SourceState) (x : Marked) : Type 0 where
  pub before : Process
  pub after : Process
  pub label : Label
  pub stands : s.process x.process ≡ Some before
  pub named : x.kind ≡ kind_of label
  pub may : MayDefer p x.process s.variable s.table before label after

-- the actions lead from a state to another, and those that are to be deferred may be
abbrev pub LeadsMarked : Program → SourceState → List Marked → SourceState → Type 0
LeadsMarked p s [] s' = s ≡ s'
LeadsMarked p s (x ∷ xs) s' =
    (mid : SourceState) × IsStep p s (action_of x) mid × (x.deferred ≡ true → Defers p s x) × LeadsMarked p mid xs s'
