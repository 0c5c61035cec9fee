-- The schedule of a log.
use Rattle.std.specs.Prelude.{ℕ, ◌≡◌, List, [], ◌∷◌, ◌++◌, Option, Some, None, replicate}
use Rattle.std.specs.List.{flat_map}
use Rattle.machine.specs.declared.event.Entry.{Entry}
use Rattle.machine.specs.declared.event.Event.{Event}
use Rattle.isa.specs.Programs.{Program}
use Rattle.piece_machine.specs.PieceConcrete.{PieceConcrete}
use Rattle.runner.specs.LogRuns.{steps_of}
use Rattle.runner.specs.Schedules.{Follows, turn_by_event}
use Rattle.runner.specs.declared.schedule.Turn.{Turn}
use Rattle.runner.specs.declared.schedule.Turn.TheVariants.{Step}

-- the turn of an entry's shared step, stray wake or kill, if it has one
abbrev pub last_turn : ℕ → Option Event → List Turn
last_turn t None = []
last_turn t (Some event) = turn_by_event (Some event) t ∷ []

-- the turns of an entry: one for each of its local steps, and then that one
abbrev pub entry_turns : Entry → List Turn
entry_turns e = replicate e.local (Step e.thread) ++ last_turn e.thread e.event

-- those of a log, entry by entry
abbrev pub log_turns : List Entry → List Turn
log_turns es = flat_map entry_turns es

-- the program follows these turns to this state, where the log leads, by the log's own steps
pub record LeadsAlike (p : Program) (log : List Entry) (k : PieceConcrete) (turns : List Turn) : Type 0 where
  pub single : List Entry
  pub follows : Follows p turns single k
  pub same : steps_of single ≡ steps_of log
