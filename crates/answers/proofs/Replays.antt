-- A report of a run of compiled code by a schedule is explained by a run of the program.
use Rattle.std.proofs.Common.{◌≡◌, ◌<◌, ◌+◌, ◌^◌, ◌++◌, ℕ, zero, suc, List, [], ◌∷◌, Option, Some, None}
use Rattle.std.proofs.Common.{Result, Ok, Err, IfOk, IfErr, MatchResult}
use Rattle.std.proofs.Common.{inl, inr, length, map, min, replicate, refl, ap, ap₂, sym, ◌∙◌, subst, arith}
use Rattle.std.specs.List.{All}
use Rattle.std.proofs.lemmas.List.{length-map, length-take, map-append}
use Rattle.std.proofs.lemmas.Simd.{map-map}
use Rattle.std.proofs.lemmas.List.Elements.{All-head, All-tail}
use Rattle.std.proofs.lemmas.List.Sums.{sum_by-cons}
use Rattle.words.specs.Limits.{run_buckets}
use Rattle.words.specs.declared.version.ImageVersion.{ImageVersion}
use Rattle.isa.specs.Programs.{Program}
use Rattle.machine.specs.declared.event.Entry.{Entry}
use Rattle.machine.specs.declared.event.Event.{Event}
use Rattle.machine.specs.FrontRuns.{EventStep, Label, label_of, event_label}
use Rattle.machine.specs.Runs.{Step}
use Rattle.piece_machine.specs.PieceConcrete.{pieces_at}
use Rattle.piece_machine.specs.PieceViews.{parts}
use Rattle.piece_machine.proofs.Refused.{piece_breaks_so}
use Rattle.program.specs.Trees.{as_version}
use Rattle.refinement.specs.Pieces.{ExplainedInPieces, RefinesInPieces}
use Rattle.log_simulation.proofs.Verdicts.{verdict_so}
use Rattle.runner.specs.Logs.{cost, event_cost}
use Rattle.runner.specs.LogRuns.{local_step_of, shared_step_of, steps_of}
use Rattle.runner.specs.Schedules.{FailsAt, IsFollowed, IsOneStep, turn_by, turn_by_event, turn_of}
use Rattle.runner.specs.declared.report.Report.{Report}
use Rattle.runner.specs.declared.schedule.ScheduleFault.TheVariants.{Broken}
use Rattle.runner.specs.declared.schedule.Turn.{Turn}
use Rattle.runner.specs.declared.schedule.Turn.TheVariants as turn
use Rattle.runner.proofs.Unrolling.{runs_so}
use Rattle.compiler.specs.Compiles.{IsCompiledAs}
use Rattle.runner.specs.declared.schedule.ScheduleFault.TheVariants as follow
use Rattle.answers.specs.Replaying.{IsLeftSchedule, IsNoRefusal, IsRefusedReplay, IsReplayOfText, step_turn}
use Rattle.answers.specs.Versions.{code_as}
use Rattle.answers.specs.declared.replaying.ReplayFault.{ReplayFault}
use Rattle.answers.specs.declared.replaying.ReplayFault.TheVariants.{Refused, BadEntry, Memory}

-- entries of one step cost as many steps as there are
ones_cost : (log : List Entry) → All IsOneStep log → cost log ≡ length log
ones_cost [] all = refl
ones_cost (e ∷ es) all =
    let one : e.local + event_cost e.event ≡ 1 = All-head IsOneStep e es all in
    let rest = ones_cost es (All-tail IsOneStep e es all) in
    let more : cost (e ∷ es) ≡ e.local + event_cost e.event + cost es =
    sum_by-cons (λ (x : Entry). x.local + event_cost x.event) e es in
    omega (arith, one, rest, more)

-- the turn that a step is, by its label
abbrev label_turn : Label → Turn
label_turn l = turn_by l.doing l.thread

-- the turn that a step with an event is
abbrev event_turn : EventStep → Turn
event_turn s = label_turn (event_label s)

-- the step of an entry of one step is its turn
entry_turn : (t n : ℕ) (event : Option Event) → n + event_cost event ≡ 1
    → map event_turn (replicate n (local_step_of t) ++ shared_step_of t event)
    ≡ turn_by_event event t ∷ []
entry_turn t zero None one = absurd cc
entry_turn t zero (Some e) one = refl
entry_turn t (suc zero) None one = refl
entry_turn t (suc zero) (Some e) one = absurd (omega (arith, one))
entry_turn t (suc (suc n)) event one = absurd (omega (arith, one))

steps_turns : (log : List Entry) → All IsOneStep log → map event_turn (steps_of log) ≡ map turn_of log
steps_turns [] all = refl
steps_turns (e ∷ es) all =
    map-append event_turn (replicate e.local (local_step_of e.thread) ++ shared_step_of e.thread e.event) (steps_of es)
    ∙ ap₂ (λ xs ys. xs ++ ys) (entry_turn e.thread e.local e.event (All-head IsOneStep e es all))
    (steps_turns es (All-tail IsOneStep e es all))

-- steps that are seen as others are the same turns
same_turns : (run : List Step) (steps : List EventStep) → map label_of run ≡ map event_label steps
    → map step_turn run ≡ map event_turn steps
same_turns run steps same =
    sym (map-map label_turn label_of run) ∙ ap (map label_turn) same ∙ map-map label_turn event_label steps

pub replay_explained : (v : ImageVersion) (text : List ℕ) (image : Program) (schedule : List Turn) (r : Report)
    → IsCompiledAs v text image → IsFollowed image schedule r → IsReplayOfText v text schedule r
replay_explained v text image schedule r c f =
    let followed : IsFollowed (code_as v c.program) schedule r = subst (λ (p : Program). IsFollowed p schedule r) c.code
    f in
    let refines : RefinesInPieces (as_version v c.program) (code_as v c.program) =
    subst (λ (p : Program). RefinesInPieces (as_version v c.program) p) c.code c.pieces in
    let (steps, run, count, same, fit) = runs_so (code_as v c.program) r.log.items (parts r.last)
    followed.follows.legal in
    let single = followed.follows.single in
    let total = ones_cost r.log.items single in
    let many : length r.log.items ≡ length schedule =
    sym (length-map r.log.items turn_of) ∙ ap length followed.follows.turns in
    let below = followed.few in
    let few : length steps < 2 ^ 32 = omega (arith, count, total, many, below) in
    let explained : ExplainedInPieces (as_version v c.program) (code_as v c.program) steps (pieces_at (parts r.last)) =
    refines.follows run_buckets steps (pieces_at (parts r.last)) (omega arith) run few in
    record {
      program = c.program;
      accepts = c.accepts;
      followed = followed;
      steps = steps;
      turns = same_turns steps (steps_of r.log.items) same ∙ steps_turns r.log.items single ∙ followed.follows.turns;
      machine_run = run;
      explained = explained;
      says = verdict_so (as_version v c.program) steps (parts r.last) explained r.verdict followed.verdict;
    }

sound_at : (v : ImageVersion) (text : List ℕ) (image : Program) (schedule : List Turn) (number : ℕ)
    (c : IsCompiledAs v text image)
    → FailsAt (code_as v c.program) schedule (Broken number) → ⊥
sound_at v text image schedule number c (inl memory) = absurd memory
sound_at v text image schedule number c (inr (before, k, turn.Stray t, comes, refuses)) = absurd refuses.2
sound_at v text image schedule number c (inr (before, k, turn.Kill t, comes, refuses)) = absurd refuses.2
sound_at v text image schedule number c (inr (before, k, turn.Step t, comes, refuses)) =
    let refines : RefinesInPieces (as_version v c.program) (code_as v c.program) =
    subst (λ (p : Program). RefinesInPieces (as_version v c.program) p) c.code c.pieces in
    let (steps, run, count, same, fit) = runs_so (code_as v c.program) comes.log k
    comes.follows.legal in
    let total = ones_cost comes.log comes.follows.single in
    let many : length comes.log ≡ min before (length schedule) =
    sym (length-map comes.log turn_of) ∙ ap length comes.follows.turns ∙ length-take before schedule in
    let below = comes.few in
    let few : length steps < 2 ^ 32 = omega (arith, count, total, many, below) in
    (refines.follows run_buckets steps (pieces_at k) (omega arith) run few).sound t
    ((piece_breaks_so (code_as v c.program) k t fit).0 refuses.2.1)

-- by no schedule compiled code meets a step that may not be
pub replay_sound : (v : ImageVersion) (text : List ℕ) (image : Program) (schedule : List Turn) (number : ℕ)
    → IsCompiledAs v text image → FailsAt image schedule (Broken number) → ⊥
replay_sound v text image schedule number c fails =
    sound_at v text image schedule number c (subst (λ (p : Program). FailsAt p schedule (Broken number)) c.code fails)

-- what a run by a schedule of the image of a text answers, of the text
pub replayed : (v : ImageVersion) (text : List ℕ) (image : Program) (schedule : List Turn) (r : Result Report ReplayFault)
    → IsCompiledAs v text image → MatchResult r (IsFollowed image schedule) (IsLeftSchedule image schedule)
    → IfOk r (IsReplayOfText v text schedule)
replayed v text image schedule (Ok report) c h = replay_explained v text image schedule report c h
replayed v text image schedule (Err fault) c h = tt

pub left_of_text : (v : ImageVersion) (text : List ℕ) (image : Program) (schedule : List Turn) (fault : ReplayFault)
    → IsCompiledAs v text image → IsLeftSchedule image schedule fault → IsRefusedReplay v text schedule fault
left_of_text v text image schedule (Refused e) c h = absurd h
left_of_text v text image schedule (BadEntry number) c h = record {
  program = c.program;
  accepts = c.accepts;
  fails = subst (λ (p : Program). FailsAt p schedule (follow.BadEntry number)) c.code h;
}
left_of_text v text image schedule Memory c h = tt

pub replay_left : (v : ImageVersion) (text : List ℕ) (image : Program) (schedule : List Turn)
    (r : Result Report ReplayFault)
    → IsCompiledAs v text image → MatchResult r (IsFollowed image schedule) (IsLeftSchedule image schedule)
    → IfErr r (IsRefusedReplay v text schedule)
replay_left v text image schedule (Ok report) c h = tt
replay_left v text image schedule (Err fault) c h = left_of_text v text image schedule fault c h

pub keeps_no_refusal : (image : Program) (schedule : List Turn) (fault : ReplayFault)
    → IsLeftSchedule image schedule fault → IsNoRefusal fault
keeps_no_refusal image schedule (Refused e) h = absurd h
keeps_no_refusal image schedule (BadEntry number) h = tt
keeps_no_refusal image schedule Memory h = tt

pub replay_keeps : (image : Program) (schedule : List Turn) (r : Result Report ReplayFault)
    → MatchResult r (IsFollowed image schedule) (IsLeftSchedule image schedule) → IfErr r IsNoRefusal
replay_keeps image schedule (Ok report) h = tt
replay_keeps image schedule (Err fault) h = keeps_no_refusal image schedule fault h

-- a log by a schedule has fewer than 2^32 steps
pub followed_few : (image : Program) (schedule : List Turn) (r : Report) → IsFollowed image schedule r
    → cost r.log.items < 2 ^ 32
followed_few image schedule r f =
    let total = ones_cost r.log.items f.follows.single in
    let many : length r.log.items ≡ length schedule =
    sym (length-map r.log.items turn_of) ∙ ap length f.follows.turns in
    let below = f.few in
    omega (arith, total, many, below)
