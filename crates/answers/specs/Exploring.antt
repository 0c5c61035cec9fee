-- What a search over all runs of a source text's program answers, and what is told of it.
use Rattle.std.specs.Prelude.{ℕ, ◌≡◌, ◌<◌, ◌^◌, ◌++◌, Bool, length, true, false, IfSome, List, [], Option, Some, None, Vec, codes, map}
use Rattle.std.proofs.Common.{Bor}
use Rattle.std.specs.Prelude.{is_some, if◌then◌else◌, nat_lt, option_map, ◌||◌}
use Rattle.std.specs.Fmt.{decimal}
use Rattle.std.specs.Global.{Global}
use Rattle.std.specs.List.{flat_map}
use Rattle.words.specs.declared.outcome.Cause.{Cause}
use Rattle.words.specs.declared.outcome.Outcome.TheVariants as outcome
use Rattle.words.specs.declared.version.ImageVersion.{ImageVersion}
use Rattle.machine.specs.PieceStates.{PieceState}
use Rattle.machine.specs.PieceSteps.{PieceRun}
use Rattle.machine.specs.Runs.{CanStep, MachineRun, Step}
use Rattle.machine.specs.States.{State}
use Rattle.program.specs.Names.{Naming, said_by}
use Rattle.program.specs.Trees.{Program, as_version}
use Rattle.lowering.specs.Pieces.{code_of}
use Rattle.proof_exploration.specs.Exploring.{IsStuck}
use Rattle.refinement.specs.Pieces.{RestsInPieces}
use Rattle.refinement.specs.Seen.{machine_end}
use Rattle.image_ends.specs.Ending.{AllOver, IsSearched}
use Rattle.source_states.specs.declared.action.Action.{Action}
use Rattle.source_states.specs.Actions.{action_of}
use Rattle.source_search.specs.Blocking.{IsTold}
use Rattle.source_search.specs.Bounds.{HasSearched}
use Rattle.source_search.specs.Ending.{IsEndTold}
use Rattle.source_search.specs.Found.{HasFailed, IsCounted, LeadsNowhere, LeadsTo}
use Rattle.source_search.specs.declared.asked.Asked.{Asked}
use Rattle.source_search.specs.declared.blocking.Blocked.{Blocked}
use Rattle.source_search.specs.declared.blocking.Blocked.TheVariants.{Found as FoundBlocked, Never, NotLookedFor, NotTold}
use Rattle.source_search.specs.declared.ending.Ending.{Ending}
use Rattle.source_search.specs.declared.ending.Ending.TheVariants as lost
use Rattle.source_search.specs.declared.outside.Outside.{Outside}
use Rattle.source_search.specs.declared.runs.Exploration.{Exploration}
use Rattle.actionlines.specs.Lines.{line}
use Rattle.action_text.specs.ActionText.{run_lines}
use Rattle.commandline.specs.declared.options.ChartOptions.{ChartOptions}
use Rattle.compiler.specs.Accepts.{AcceptsText}
use Rattle.log_text.specs.LogLines.{line_feed}
use Rattle.answers.specs.Answers.{AreTold, Put, name_of, out_of, put_of}
use Rattle.answers.specs.FoundSchedule.{IsScheduled}
use Rattle.answers.specs.declared.answer.Answer.{Answer}
use Rattle.answers.specs.declared.answer.OutFiles.{OutFiles}
use Rattle.answers.specs.declared.exploring.ExploredText.{ExploredText}
use Rattle.answers.specs.declared.status.Status.{Status}
use Rattle.answers.specs.declared.status.Status.TheVariants.{Done, Stuck, Limit, Found}

-- what was found of a program, with as much from outside as may be, keeping so many states at most: runs with such an end;
-- where the search was complete and found none, there is none; what is told of processes that are blocked for good is so,
-- and where it is asked for what is told of runs that can't end any more; and it was complete unless it met the bound that
-- it names
pub record IsFoundOf (p : Program) (may : Outside) (asked : Asked) (most : ℕ) (e : Exploration) : Type 0 where
  pub stuck : IfSome e.stuck (λ v. LeadsTo p may (IsStuck p) v.items)
  pub aborted : IfSome e.aborted (λ v. LeadsTo p may (HasFailed may) v.items)
  pub never_stuck : e.complete ≡ true → e.stuck ≡ None → LeadsNowhere p may (IsStuck p)
  pub never_aborted : e.complete ≡ true → e.aborted ≡ None → LeadsNowhere p may (HasFailed may)
  pub blocked : IsTold p may e.complete e.blocked
  pub ending : IsEndTold p may asked.ends e.complete e.ending
  pub searched : HasSearched p may most e

-- of each run of the program's image, under whatever schedule, of fewer than 2^32 steps, in which no more are killed than
-- may be, and, where no stray wakes were searched, nobody who waits on a condition is woken from outside: where the
-- search was complete and found no run that gets stuck, all processes are over wherever no thread can move; and where it
-- found none that aborts, no thread has aborted, or where kills were searched none but by a kill. The same of each run in
-- which futex calls are taken in pieces, over any number of buckets, where no thread can take one
pub record HoldsOfImage (p : Program) (may : Outside) (e : Exploration) : Type 0 where
  pub never_hangs : e.complete ≡ true → e.stuck ≡ None → (steps : List Step) (s : State)
      → MachineRun (code_of p) steps s → length steps < 2 ^ 32 → IsSearched p may steps
      → ((t : ℕ) → CanStep s t → ⊥) → AllOver p s
  pub never_faults : e.complete ≡ true → e.aborted ≡ None → (steps : List Step) (s : State) (q : ℕ) (cause : Cause)
      → MachineRun (code_of p) steps s → length steps < 2 ^ 32 → IsSearched p may steps
      → machine_end s q ≡ Some (outcome.Aborted cause) → IsCounted may cause → ⊥
  pub pieces_never_hang : e.complete ≡ true → e.stuck ≡ None → (buckets : ℕ) (steps : List Step) (s : PieceState)
      → 0 < buckets → PieceRun (code_of p) buckets steps s → length steps < 2 ^ 32 → IsSearched p may steps
      → RestsInPieces (code_of p) s → AllOver p s.base
  pub pieces_never_fault : e.complete ≡ true → e.aborted ≡ None → (buckets : ℕ) (steps : List Step) (s : PieceState)
      (q : ℕ) (cause : Cause)
      → 0 < buckets → PieceRun (code_of p) buckets steps s → length steps < 2 ^ 32 → IsSearched p may steps
      → machine_end s.base q ≡ Some (outcome.Aborted cause) → IsCounted may cause → ⊥

-- the text's program, what was found of it, and what that says of its image of this version
pub record IsExploredText (version : ImageVersion) (text : List ℕ) (may : Outside) (asked : Asked) (most : ℕ)
    (r : ExploredText)
    : Type 0
  where
    pub accepts : AcceptsText text (said_by r.checked)
    pub found : IsFoundOf (said_by r.checked) may asked most r.exploration
    pub image : HoldsOfImage (as_version version (said_by r.checked)) may r.exploration

-- the line of how many states were kept
abbrev pub states_line : ℕ → Bool → List ℕ
states_line states complete = decimal states ++ codes " states" ++ (if complete then line_feed else codes ", not all" ++ line_feed)

-- the lines of a run that was found, behind a line of its end; or, where the search was complete, that there is none
abbrev pub end_lines : Naming → List ℕ → List ℕ → Bool → Option (Vec Action Global) → List ℕ
end_lines names word none complete (Some v) = word ++ flat_map (line names) (map action_of v.items)
end_lines names word none true None = none
end_lines names word none false None = []

-- the line of a complete search that found no process to abort: whom a kill meets has aborted
abbrev pub none_aborts : Outside → List ℕ
none_aborts may =
    if nat_lt 0 may.kills then codes "no process aborts but by a kill\n" else codes "no process aborts\n"

-- the line of processes that are blocked for good
abbrev pub process_word : ℕ → List ℕ
process_word q = codes " " ++ decimal q

abbrev pub blocked_line : List ℕ → List ℕ
blocked_line processes = codes "blocked for good:" ++ (flat_map process_word processes ++ codes "\n")

-- that line and those of a run at whose end they are; or that there are none; or nothing, where it isn't told
abbrev pub blocked_lines : Naming → Blocked → List ℕ
blocked_lines names (FoundBlocked processes run) =
    blocked_line processes.items ++ flat_map (line names) (map action_of run.items)
blocked_lines names Never = codes "no process is blocked for good\n"
blocked_lines names NotLookedFor = []
blocked_lines names NotTold = []

-- a line and those of a run that can't end any more; or that each can; or nothing, where it isn't told
abbrev pub ending_lines : Naming → Ending → List ℕ
ending_lines names (lost.Found run) = codes "can't end\n" ++ flat_map (line names) (map action_of run.items)
ending_lines names lost.Never = codes "every run can end\n"
ending_lines names lost.NotAsked = []
ending_lines names lost.NotLookedFor = []
ending_lines names lost.NotTold = []

-- all that is told
abbrev pub explored_lines : Outside → ExploredText → List ℕ
explored_lines may r =
    let e = r.exploration in
    (((states_line e.states e.complete
    ++ end_lines r.checked.names (codes "stuck\n") (codes "no run is stuck\n") e.complete e.stuck)
    ++ blocked_lines r.checked.names e.blocked)
    ++ end_lines r.checked.names (codes "aborted\n") (none_aborts may) e.complete e.aborted)
    ++ ending_lines r.checked.names e.ending

-- how the search ended, by whether a run gets stuck, whether one fails otherwise, and whether all were seen
abbrev pub found_status : (stuck failed complete : Bool) → Status
found_status true failed complete = Stuck
found_status false true complete = Found
found_status false false true = Done
found_status false false false = Limit

-- whether a run was found at whose end some are blocked for good
abbrev pub is_blocked : Blocked → Bool
is_blocked (FoundBlocked processes run) = true
is_blocked Never = false
is_blocked NotLookedFor = false
is_blocked NotTold = false

-- whether a run was found that can't end any more
abbrev pub is_lost : Ending → Bool
is_lost (lost.Found run) = true
is_lost lost.Never = false
is_lost lost.NotAsked = false
is_lost lost.NotLookedFor = false
is_lost lost.NotTold = false

-- whether a run was found that fails otherwise than by getting stuck
abbrev pub is_failed : Exploration → Bool
is_failed e = is_blocked e.blocked || (is_some e.aborted || is_lost e.ending)

abbrev pub explored_status : Exploration → Status
explored_status e = found_status (is_some e.stuck) (is_failed e) e.complete

-- whether a run was found
abbrev pub is_found : Exploration → Bool
is_found e = is_some e.stuck || is_failed e

-- the run at whose end some are blocked for good, where one was found
abbrev pub blocked_run : Blocked → Option (List Action)
blocked_run (FoundBlocked processes run) = Some run.items
blocked_run Never = None
blocked_run NotLookedFor = None
blocked_run NotTold = None

-- the run that can't end any more, where one was found
abbrev pub ending_run : Ending → Option (List Action)
ending_run (lost.Found run) = Some run.items
ending_run lost.Never = None
ending_run lost.NotAsked = None
ending_run lost.NotLookedFor = None
ending_run lost.NotTold = None

-- the first of two runs, where it was found, or else the second
abbrev pub or_run : (first second : Option (List Action)) → Option (List Action)
or_run (Some run) second = Some run
or_run None second = second

-- the run that was found: of several the stuck one, or else the one at whose end some are blocked for good, or else the one in
-- which a process aborts, or else that which can't end any more
abbrev pub shown_run : Exploration → Option (List Action)
shown_run e =
    or_run (option_map (λ v. v.items) e.stuck) (or_run (blocked_run e.blocked)
    (or_run (option_map (λ v. v.items) e.aborted) (ending_run e.ending)))

-- the lines of this run are written to the file of this name, where both are there
abbrev pub run_put : Naming → Option (Bor (List ℕ)) → Option (List Action) → Option Put
run_put names None run = None
run_put names (Some out) None = None
run_put names (Some out) (Some run) = Some (out, run_lines names (map action_of run))

-- the run that was found is drawn, timed and shown on a page, to the files of these names; where none was, no file is
-- written
abbrev pub AreDrawnIf : Bool → Option ChartOptions → (timeline page : Option (Bor (List ℕ))) → OutFiles → Type 0
AreDrawnIf true chart timeline page files =
    (name_of files.out ≡ out_of chart) × (name_of files.timeline ≡ timeline) × (name_of files.page ≡ page)
AreDrawnIf false chart timeline page files =
    (put_of files.out ≡ None) × (name_of files.timeline ≡ None) × (name_of files.page ≡ None)

-- what was found is told alone, with the places of actions where those are asked for; of the text a schedule of its image of
-- this version is written that fails alike, where it is asked for and one is known; and the actions of the run that was found
-- are, where they are asked for
pub record TellsFound (version : ImageVersion) (may : Outside) (places : Bool) (chart : Option ChartOptions)
    (timeline page schedule actions : Option (Bor (List ℕ))) (text : List ℕ) (r : ExploredText) (a : Answer)
    : Type 0
  where
    pub ended : a.status ≡ explored_status r.exploration
    pub are_told : AreTold places (explored_lines may r) a.output.items
    pub files : AreDrawnIf (is_found r.exploration) chart timeline page a.files
    pub scheduled : IsScheduled version text r.exploration (is_found r.exploration) schedule (put_of a.files.schedule)
        a.account.items
    pub wrote : put_of a.files.actions ≡ run_put r.checked.names actions (shown_run r.exploration)

-- all runs of the text's program were searched, with as much from outside as may be and keeping so many states at most, and
-- what was found was told, and what was asked for; of the image of this version that says what it says
pub record HasExplored (version : ImageVersion) (may : Outside) (asked : Asked) (most : ℕ) (places : Bool)
    (chart : Option ChartOptions) (timeline page schedule actions : Option (Bor (List ℕ))) (text : List ℕ) (a : Answer)
    : Type 0
  where
    pub explored_text : ExploredText
    pub explored : IsExploredText version text may asked most explored_text
    pub tells : TellsFound version may places chart timeline page schedule actions text explored_text a
