-- A log that comes from outside is that of a text's program, and explained or followed.
use Rattle.std.proofs.Common.{◌≡◌, ◌<◌, ◌∙◌, ◌^◌, ℕ, List, Result, Ok, Err, IfErr, length, ap, sym, subst, arith}
use Rattle.std.specs.Prelude.{IfOk, IsErr, IsErrAnd, MatchResult}
use Rattle.words.specs.Limits.{run_buckets}
use Rattle.words.specs.declared.version.ImageVersion.{ImageVersion}
use Rattle.isa.specs.Programs.{Program as Image}
use Rattle.machine.specs.declared.event.Entry.{Entry}
use Rattle.machine.specs.Views.{concrete}
use Rattle.piece_machine.specs.PieceConcrete.{pieces_at}
use Rattle.piece_machine.specs.PieceViews.{PieceView, parts}
use Rattle.program.specs.Trees.{Program, as_version}
use Rattle.lowering.specs.Pieces.{code_of}
use Rattle.refinement.specs.Pieces.{ExplainedInPieces, RefinesInPieces}
use Rattle.log_simulation.proofs.Verdicts.{verdict_so}
use Rattle.runner.specs.LogSchedules.{IsBadLogEntry, IsFollowedLog}
use Rattle.runner.specs.Reports.{IsVerdict}
use Rattle.runner.specs.declared.report.Report.{Report}
use Rattle.runner.proofs.Unrolling.{runs_so}
use Rattle.log_text.specs.Spelled.{IsLogText}
use Rattle.simulation.specs.ExplainedLog.{IsLast, StopsAt}
use Rattle.compiler.specs.Accepts.{AcceptsText}
use Rattle.compiler.specs.Compiles.{IsCompiledAs}
use Rattle.answers.specs.SourceLog.{FollowsNot, IsOfLog, IsRefusedLog, IsReplayOfLog, IsReportOfLog}
use Rattle.answers.specs.SourceLog.{IsUnfollowedLog, StopsLog}
use Rattle.answers.specs.Versions.{code_as}
use Rattle.answers.specs.declared.source_log.SourceLogFault.{SourceLogFault}
use Rattle.answers.specs.declared.source_log.SourceLogFault.TheVariants.{Refused, Line, Entry as Entry', Steps, Memory}

-- a fault that is passed on is the same
pub passes_on : {T : Type 0} (r : Result T SourceLogFault) (e : SourceLogFault) (P : SourceLogFault → Type 0)
    → IsErr r × IsErrAnd r (λ x. x ≡ e) → P e → IfErr r P
passes_on (Ok t) e P h q = absurd h.1
passes_on (Err x) e P h q = subst P (sym h.1) q

-- what is answered, by its own contract
pub answers_ok : {T E : Type 0} (r : Result T E) (P P' : T → Type 0) (Q : E → Type 0) → MatchResult r P Q
    → ((x : T) → P x → P' x) → IfOk r P'
answers_ok (Ok x) P P' Q h on = on x h
answers_ok (Err e) P P' Q h on = tt

pub answers_err : {T E : Type 0} (r : Result T E) (P : T → Type 0) (Q Q' : E → Type 0) → MatchResult r P Q
    → ((e : E) → Q e → Q' e) → IfErr r Q'
answers_err (Ok x) P Q Q' h on = tt
answers_err (Err e) P Q Q' h on = on e h

-- the report of a log that leads to a state
pub reported : (p : Program) (image : Image) (entries slice : List Entry) (last : PieceView) (r : Report)
    → image ≡ code_of p → slice ≡ entries → IsLast image slice last → r.log.items ≡ entries → r.last ≡ last
    → r.output.items ≡ last.view.output → IsVerdict (concrete last.view) r.verdict → IsReportOfLog p entries r
reported p image entries slice last r own same h logged is output verdict = record {
  log = logged;
  last = subst (λ (v : PieceView). IsLast (code_of p) entries v) (sym is)
      (subst (λ (es : List Entry). IsLast (code_of p) es last) same
      (subst (λ (i : Image). IsLast i slice last) own h));
  output = output ∙ ap (λ (v : PieceView). v.view.output) (sym is);
  verdict = subst (λ (v : PieceView). IsVerdict (concrete v.view) r.verdict) (sym is) verdict;
}

module _ (v : ImageVersion) (text lines : List ℕ) (most : ℕ) (p : Program) (image : Image) (entries slice : List Entry)
    (accepts : AcceptsText text p) (own : image ≡ code_as v p) (reads : IsLogText lines entries) (same : slice ≡ entries) where
  -- entries that stop being legal
  pub stopped : (f : SourceLogFault) → StopsLog image slice f → IsRefusedLog v text lines most f × IsOfLog f
  stopped (Refused e) h = absurd h
  stopped (Line number) h = absurd h
  stopped (Entry' number) h = (
    record {
      log = record { program = p; accepts = accepts; entries = entries; reads = reads };
      stops = subst (λ (es : List Entry). StopsAt (code_as v p) es number) same
          (subst (λ (i : Image). StopsAt i slice number) own h);
    },
    tt,
  )
  stopped (Steps n) h = absurd h
  stopped Memory h = (tt, tt)

  -- and those that can't be followed
  pub not_followed : (f : SourceLogFault) → FollowsNot image slice f → IsUnfollowedLog v text lines most f × IsOfLog f
  not_followed (Refused e) h = absurd h
  not_followed (Line number) h = absurd h
  not_followed (Entry' number) h = (
    record {
      log = record { program = p; accepts = accepts; entries = entries; reads = reads };
      fails = subst (λ (es : List Entry). IsBadLogEntry (code_as v p) es number) same
          (subst (λ (i : Image). IsBadLogEntry i slice number) own h);
    },
    tt,
  )
  not_followed (Steps n) h = absurd h
  not_followed Memory h = (tt, tt)

-- a log that is followed
pub followed_log : (v : ImageVersion) (text lines : List ℕ) (image : Image) (entries slice : List Entry) (r : Report)
    → IsCompiledAs v text image → IsLogText lines entries → slice ≡ entries → IsFollowedLog image slice r
    → IsReplayOfLog v text lines r
followed_log v text lines image entries slice r c reads same f =
    let followed = subst (λ (es : List Entry). IsFollowedLog (code_as v c.program) es r) same
    (subst (λ (i : Image). IsFollowedLog i slice r) c.code f) in
    let refines : RefinesInPieces (as_version v c.program) (code_as v c.program) =
    subst (λ (i : Image). RefinesInPieces (as_version v c.program) i) c.code c.pieces in
    let (steps, run, count, labels, fit) = runs_so (code_as v c.program) r.log.items (parts r.last)
    followed.follows.legal in
    let below = followed.follows.few in
    let few : length steps < 2 ^ 32 = omega (arith, count, below) in
    let explained : ExplainedInPieces (as_version v c.program) (code_as v c.program) steps (pieces_at (parts r.last)) =
    refines.follows run_buckets steps (pieces_at (parts r.last)) (omega arith) run few in
    record {
      log = record { program = c.program; accepts = c.accepts; entries = entries; reads = reads };
      followed = followed;
      steps = steps;
      count = count;
      labels = labels;
      machine_run = run;
      explained = explained;
      says = verdict_so (as_version v c.program) steps (parts r.last) explained r.verdict followed.verdict;
    }
