-- A report of a run of compiled code is explained by a run of the program.
use Rattle.std.proofs.Common.{◌≡◌, ◌≢◌, ◌<◌, ◌^◌, ℕ, List, Option, length, is_some, subst, sym, arith}
use Rattle.words.specs.Limits.{run_buckets}
use Rattle.words.specs.declared.version.ImageVersion.{ImageVersion}
use Rattle.isa.specs.Programs.{Program}
use Rattle.machine.specs.declared.event.Entry.{Entry}
use Rattle.piece_machine.specs.PieceConcrete.{PieceConcrete, pieces_at}
use Rattle.piece_machine.specs.PieceViews.{parts}
use Rattle.program.specs.Trees.{Program as ProgramOf, as_version}
use Rattle.meaning.specs.Labels.{Action}
use Rattle.refinement.specs.Pieces.{ExplainedInPieces, RefinesInPieces}
use Rattle.runner.specs.declared.fault.RunFault.{RunFault}
use Rattle.runner.specs.declared.fault.RunFault.TheVariants.{Broken, Memory, Stray, CannotMove, Limit}
use Rattle.runner.specs.declared.report.Report.{Report}
use Rattle.runner.specs.Logs.{Outside, nothing_outside, opening, outside_of}
use Rattle.runner.specs.Orders.{IsInOrder}
use Rattle.runner.specs.LogRuns.{RunsSo, LocallySo}
use Rattle.runner.specs.Reports.{IsReport, IsVerdict, CanFail, MeetsBroken}
use Rattle.runner.specs.Seeds.{IsBySeed}
use Rattle.runner.proofs.Once.{runs_once}
use Rattle.lowering.specs.Pieces.{code_of}
use Rattle.simulation.specs.ExplainedLog.{IsExplainedLog, LeadsTo}
use Rattle.log_simulation.specs.Verdicts.{SaysOf}
use Rattle.log_simulation.proofs.Verdicts.{verdict_so}
use Rattle.runner.specs.declared.report.Verdict.{Verdict}
use Rattle.backend.specs.Lowered.{IsLowered}
use Rattle.backend.specs.declared.lowered.Lowered.{Lowered}
use Rattle.compiler.specs.Compiles.{IsCompiledAs}
use Rattle.answers.specs.Alone.{IsReportAlone, IsRunAlone}
use Rattle.answers.specs.Running.{IsFailedRun, IsRunBySeed, IsRunInOrder, IsRunOfText}
use Rattle.answers.specs.Versions.{code_as}
use Rattle.answers.specs.declared.explained_run.Alone.{Alone}
use Rattle.answers.specs.declared.explained_run.Alone.TheVariants.{InOrder, Seed}

-- the image of a text refines its program, in pieces
refines_so : (v : ImageVersion) (text : List ℕ) (image : Program) (c : IsCompiledAs v text image)
    → RefinesInPieces (as_version v c.program) (code_as v c.program)
refines_so v text image c = subst (λ (p : Program). RefinesInPieces (as_version v c.program) p) c.code c.pieces

pub run_explained : RunsSo → (v : ImageVersion) (text : List ℕ) (image : Program) (may : Outside) (limit : ℕ) (r : Report)
    → IsCompiledAs v text image → limit < 2 ^ 32 → IsReport image may limit r → IsRunOfText v text may limit r
run_explained runs v text image may limit r c below report =
    let reported : IsReport (code_as v c.program) may limit r = subst (λ (p : Program). IsReport p may limit r)
    c.code report in
    let refines = refines_so v text image c in
    let (steps, run, count, same, fit) = runs (code_as v c.program) r.log.items (parts r.last) reported.legal in
    let within = reported.within in
    let few : length steps < 2 ^ 32 = omega arith in
    let explained : ExplainedInPieces (as_version v c.program) (code_as v c.program) steps (pieces_at (parts r.last)) =
    refines.follows run_buckets steps (pieces_at (parts r.last)) (omega arith) run few in
    record {
      program = c.program;
      accepts = c.accepts;
      is_report = reported;
      steps = steps;
      count = count;
      labels = same;
      machine_run = run;
      explained = explained;
      says = verdict_so (as_version v c.program) steps (parts r.last) explained r.verdict reported.verdict;
    }

-- the same of a run in order
pub run_in_order_explained : RunsSo → (v : ImageVersion) (text : List ℕ) (image : Program) (limit : ℕ) (r : Report)
    → IsCompiledAs v text image → limit < 2 ^ 32 → IsReport image nothing_outside limit r
    → IsInOrder image limit r.log.items → IsRunInOrder v text limit r
unfolding run_explained
run_in_order_explained runs v text image limit r c below report order = record {
  run = run_explained runs v text image nothing_outside limit r c below report;
  order = subst (λ (p : Program). IsInOrder p limit r.log.items) c.code order;
}

-- and of one by a seed
pub run_by_seed_explained : RunsSo → (v : ImageVersion) (text : List ℕ) (image : Program) (strays : Option ℕ)
    (kills limit seed : ℕ) (r : Report)
    → IsCompiledAs v text image → limit < 2 ^ 32 → IsReport image (outside_of (is_some strays) kills) limit r
    → IsBySeed image strays kills limit seed r.log.items → IsRunBySeed v text strays kills limit seed r
unfolding run_explained
run_by_seed_explained runs v text image strays kills limit seed r c below report seeded = record {
  run = run_explained runs v text image (outside_of (is_some strays) kills) limit r c below report;
  seeded = subst (λ (p : Program). IsBySeed p strays kills limit seed r.log.items) c.code seeded;
}

-- and of one on the calling thread, in its order
pub run_alone_explained : RunsSo → (v : ImageVersion) (text : List ℕ) (image : Program) (order : Alone) (limit : ℕ) (r : Report)
    → IsCompiledAs v text image → limit < 2 ^ 32 → IsReportAlone order limit image r → IsRunAlone v order limit text r
run_alone_explained runs v text image InOrder limit r c below h =
    run_in_order_explained runs v text image limit r c below h.is_report h.order
run_alone_explained runs v text image (Seed seed strays kills) limit r c below h =
    run_by_seed_explained runs v text image strays kills limit seed r c below h.is_report h.seeded

pub run_fails : (v : ImageVersion) (text : List ℕ) (image : Program) (may : Outside) (limit : ℕ) (fault : RunFault)
    → IsCompiledAs v text image → CanFail image may limit fault → IsFailedRun v text may limit fault
run_fails v text image may limit fault c fails = record {
  program = c.program;
  accepts = c.accepts;
  fails = subst (λ (p : Program). CanFail p may limit fault) c.code fails;
}

-- compiled code meets no step that may not be: the log that it would follow is a run of the machine, and local steps
-- lead to none from there
pub run_sound : RunsSo → LocallySo → (v : ImageVersion) (text : List ℕ) (image : Program) (may : Outside) (limit : ℕ)
    (fault : RunFault)
    → IsCompiledAs v text image → CanFail image may limit fault → limit < 2 ^ 32 → fault ≢ Broken
run_sound runs locally v text image may limit Broken c fails below e =
    let m : MeetsBroken (code_as v c.program) may limit = subst (λ (p : Program). MeetsBroken p may limit) c.code
    fails in
    let refines = refines_so v text image c in
    let (steps, run, count, same, fit) = runs (code_as v c.program) m.log m.concrete m.legal in
    let within = m.within in
    let few : length steps < 2 ^ 32 = omega arith in
    let (awake, broken) = locally (code_as v c.program) may limit m in
    refines.locally run_buckets steps (pieces_at m.concrete) (omega arith) run few m.thread m.count m.origin m.here
    m.stands awake m.goes broken
run_sound runs locally v text image may limit Memory c fails below e = absurd cc
run_sound runs locally v text image may limit Stray c fails below e = absurd cc
run_sound runs locally v text image may limit CannotMove c fails below e = absurd cc
run_sound runs locally v text image may limit Limit c fails below e = absurd cc

-- what is explained by the image of a program is explained by its code
pub of_code : (v : ImageVersion) (p : ProgramOf) (image : Program) (log entries : List Entry) (actions : List Action)
    → image ≡ code_as v p → log ≡ entries → IsExplainedLog (as_version image.version p) image log actions
    → IsExplainedLog (as_version v p) (code_as v p) entries actions
of_code v p image log entries actions own same h =
    subst (λ (es : List Entry). IsExplainedLog (as_version v p) (code_as v p) es actions) same
    (subst (λ (i : Program). IsExplainedLog (as_version i.version p) i log actions) own h)

-- the same, with what a verdict says of the source
pub of_code_saying : (v : ImageVersion) (p : ProgramOf) (image : Program) (log entries : List Entry) (actions : List Action)
    (says : Verdict)
    → image ≡ code_as v p → log ≡ entries
    → (e : IsExplainedLog (as_version image.version p) image log actions)
    × SaysOf says (as_version image.version p) e.recorded.explained.explained.source
    → (e : IsExplainedLog (as_version v p) (code_as v p) entries actions)
    × SaysOf says (as_version v p) e.recorded.explained.explained.source
of_code_saying v p image log entries actions says own same h =
    subst
    (λ (es : List Entry). (e : IsExplainedLog (as_version v p) (code_as v p) es actions)
    × SaysOf says (as_version v p) e.recorded.explained.explained.source)
    same
    (subst
    (λ (i : Program). (e : IsExplainedLog (as_version i.version p) i log actions)
    × SaysOf says (as_version i.version p) e.recorded.explained.explained.source) own h)

-- what a verdict on where a log leads says of the source, where its actions lead
says_there : (p : ProgramOf) (image : Program) (log : List Entry) (actions : List Action) (k : PieceConcrete)
    (verdict : Verdict)
    → LeadsTo image log k → IsVerdict k.concrete verdict → (e : IsExplainedLog p image log actions)
    → SaysOf verdict p e.recorded.explained.explained.source
says_there p image log actions k verdict legal is e =
    let own = subst (λ (i : Program). LeadsTo i log k) e.code legal in
    let same = runs_once (code_of p) (opening (code_of p)) k e.recorded.machine log own e.recorded.legal in
    e.recorded.explained.says verdict (subst (λ (m : PieceConcrete). IsVerdict m.concrete verdict) same is)

-- what is explained by the image of a program is explained by its code, and a verdict on where it leads says so
pub explained_saying : (v : ImageVersion) (p : ProgramOf) (image : Program) (log entries : List Entry)
    (actions : List Action) (k : PieceConcrete) (verdict : Verdict)
    → image ≡ code_as v p → log ≡ entries → LeadsTo image entries k → IsVerdict k.concrete verdict
    → IsExplainedLog (as_version image.version p) image log actions
    → (e : IsExplainedLog (as_version v p) (code_as v p) entries actions)
    × SaysOf verdict (as_version v p) e.recorded.explained.explained.source
explained_saying v p image log entries actions k verdict own same legal is h =
    let e = of_code v p image log entries actions own same h in (
      e,
      says_there (as_version v p) (code_as v p) entries actions k verdict
          (subst (λ (i : Program). LeadsTo i entries k) own legal) is e,
    )

-- what a program is lowered to has the version of its image
pub of_own_version : (v : ImageVersion) (p : ProgramOf) (lowered : Lowered) → IsLowered (as_version v p) lowered
    → IsLowered (as_version lowered.image.version p) lowered
of_own_version v p lowered is =
    subst (λ (i : Program). IsLowered (as_version i.version p) lowered) (sym is.image) is
