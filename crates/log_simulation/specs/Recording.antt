-- The source behind a log, as far as it was walked.
use Rattle.std.specs.Prelude.{ℕ, zero, suc, ◌≡◌, ◌+◌, ◌<◌, ◌≤◌, ◌^◌, ◌++◌, [], ◌∷◌, true, List, length, MatchBool}
use Rattle.words.specs.Limits.{most_threads}
use Rattle.machine.specs.FrontRuns.{EventStep}
use Rattle.piece_machine.specs.PieceConcrete.{PieceConcrete}
use Rattle.piece_machine.specs.PieceViews.{parts}
use Rattle.machine.specs.declared.event.Entry.{Entry}
use Rattle.machine.specs.declared.event.Event.{Event}
use Rattle.runner.specs.LogRuns.{steps_of}
use Rattle.program.specs.Trees.{Program}
use Rattle.program.specs.WellFormed.{WellFormed}
use Rattle.lowering.specs.Layout.{layout_of}
use Rattle.lowering.specs.Pieces.{code_of, marks_of}
use Rattle.proof_simulation.specs.Progress.{Progress, progress_caught_up}
use Rattle.log_simulation.specs.Entries.{ComesTo, entry_steps}
use Rattle.log_simulation.specs.Explanations.{LeadsTo, StopsAt}
use Rattle.log_simulation.specs.Going.{Matches, followed}
use Rattle.log_simulation.specs.Deferred.{CountsDeferred, Raises}
use Rattle.log_simulation.specs.declared.recorder.Recorder.{Recorder}
use Rattle.log_simulation.specs.declared.walking.Walked.{Walked}
use Rattle.log_simulation.specs.declared.walking.Walked.TheVariants as walked

-- a recorder of the program's logs
pub record IsOf (p : Program) (r : Recorder) : Type 0 where
  pub program : followed r.follower ≡ p
  pub layout : r.follower.layout ≡ layout_of p
  pub marks : r.marks.items ≡ marks_of p
  pub places : length r.deferred.items ≡ most_threads + 1
  pub bits : length r.raised.items ≡ most_threads + 1

-- it has recorded this, behind so many steps
pub record Records (steps : ℕ) (g : Progress) (r : Recorder) : Type 0 where
  pub few : steps < 2 ^ 32
  pub counted : r.steps ≡ steps
  pub matches : Matches r.follower g
  pub deferred : CountsDeferred r.deferred.items g.deferred
  pub raised : Raises r.raised.items g.raised
  pub bounded : (t : ℕ) → length (g.deferred t) ≤ steps

-- or there are more steps than are counted
abbrev pub RecordsUnlessLong : ℕ → Progress → Recorder → Type 0
RecordsUnlessLong steps g r = MatchBool r.is_whole (Records steps g r) (2 ^ 32 ≤ steps)

-- so many more steps were counted, as long as there are fewer than 2^32
abbrev pub Counts : ℕ → Recorder → Recorder → Type 0
Counts more r r' =
    MatchBool r'.is_whole ((r.is_whole ≡ true) × (r.steps + more < 2 ^ 32) × (r'.steps ≡ r.steps + more))
    (r.is_whole ≡ true → 2 ^ 32 ≤ r.steps + more)

-- the steps so far lead to this state of the machine, and what the source has come to is recorded
pub record IsAlong (p : Program) (events : List EventStep) (k : PieceConcrete) (r : Recorder) : Type 0 where
  pub of_program : IsOf p r
  pub source : Progress
  pub comes : ComesTo p events k source
  pub told : RecordsUnlessLong (length events) source r

-- an entry led from one state of the machine to another
abbrev pub KeepsUp : Program → PieceConcrete → Recorder → Entry → PieceConcrete → Recorder → Type 0
KeepsUp p k r e k' r' =
    WellFormed p → (events : List EventStep) → IsAlong p events k r → IsAlong p (events ++ entry_steps e) k' r'

-- a step from outside, with this event, led from one state of the machine to another
abbrev pub IsAlongStep : Program → PieceConcrete → Recorder → ℕ → Event → PieceConcrete → Recorder → Type 0
IsAlongStep p k r t event k' r' =
    WellFormed p → (events : List EventStep) → IsAlong p events k r
    → IsAlong p (events ++ record { thread = t; event = event } ∷ []) k' r'

-- all of a log that leads to this state of the machine was recorded
pub record IsWhole (p : Program) (log : List Entry) (k : PieceConcrete) (r : Recorder) : Type 0 where
  pub legal : LeadsTo (code_of p) log k
  pub along : IsAlong p (steps_of log) k r
  pub whole : r.is_whole ≡ true

-- what a walk over a log came to
abbrev pub WalksTo : Program → List Entry → Walked → Recorder → Type 0
WalksTo p log (walked.StopsAt number) r = StopsAt (code_of p) log number
WalksTo p log (walked.LeadsTo last) r = IsWhole p log (parts last) r × (last.view.program ≡ code_of p)

-- what is deferred of processes 1 to n is taken, by number
abbrev pub progress_rest : Program → ℕ → Progress → Progress
progress_rest p zero g = g
progress_rest p (suc n) g = progress_caught_up p (suc n) (progress_rest p n g)
