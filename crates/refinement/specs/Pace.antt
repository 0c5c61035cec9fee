-- The source goes on with the machine.
use Rattle.std.specs.Prelude.{ℕ, ◌≡◌, ◌≤◌, ◌+◌, ◌*◌, ◌==◌, ◌&&◌, not, Bool, true, false, List, length, count_by}
use Rattle.std.specs.List.{list_all, flat_map}
use Rattle.machine.specs.Runs.{Step, is_own}
use Rattle.program.specs.Trees.{Program}
use Rattle.program.specs.Tokens.{most_tokens}
use Rattle.meaning.specs.Labels.{Kind, Stray, Kill, Action}

-- so many steps of a thread are a stretch
abbrev pub stretch_length : Program → ℕ
stretch_length p = 256 + 8 * most_tokens p

-- a step that thread t takes, in which it neither falls asleep nor ends
abbrev pub goes_on : ℕ → Step → Bool
goes_on t step = (step.thread == t) && (not step.pauses && is_own step.doing)

-- successive steps that are a stretch of thread t
abbrev pub is_stretch : ℕ → ℕ → List Step → Bool
is_stretch k t part = (length part == k) && list_all (goes_on t) part

-- an action that a process takes: none from outside
abbrev pub is_own_kind : Kind → Bool
is_own_kind (Stray c) = false
is_own_kind (Kill resumed last) = false
is_own_kind kind = true

-- whether an action is one that process q takes
abbrev pub is_action_of : ℕ → Action → Bool
is_action_of q action = (action.process == q) && is_own_kind action.kind

-- however a run is cut into parts, each process has at least as many actions as there are parts that are stretches of
-- its thread: so no stretches that don't overlap are more than its actions
abbrev pub KeepsPace : ℕ → List Step → List Action → Type 0
KeepsPace k steps actions =
    (t : ℕ) (parts : List (List Step)) → flat_map (λ part. part) parts ≡ steps
    → count_by (is_stretch k t) parts ≤ count_by (is_action_of t) actions
