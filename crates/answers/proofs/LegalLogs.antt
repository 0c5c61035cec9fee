-- A log of a run is refused for want of memory alone.
use Rattle.std.proofs.Common.{◌≡◌, ◌≤◌, ◌^◌, ℕ, List, Result, Ok, Err, IfErr, subst, arith}
use Rattle.machine.specs.declared.event.Entry.{Entry}
use Rattle.words.specs.declared.version.ImageVersion.{ImageVersion}
use Rattle.program.specs.Trees.{Program, as_version}
use Rattle.backend.specs.Refusals.{CodeFits}
use Rattle.runner.specs.Logs.{cost}
use Rattle.log_text.specs.Spelled.{LinesOnce, NoBadLine}
use Rattle.simulation.specs.ExplainedLog.{StopsAt}
use Rattle.log_simulation.proofs.NoLog.{stops_none}
use Rattle.compiler.specs.Accepts.{AcceptsText}
use Rattle.answers.specs.SourceLog.{IsOfLog, IsRefusedLog, IsWantOfMemory, LinesOfRun}
use Rattle.answers.specs.Versions.{code_as}
use Rattle.answers.specs.declared.source_log.SourceLogFault.{SourceLogFault}
use Rattle.answers.specs.declared.source_log.SourceLogFault.TheVariants.{Refused, Line, Entry as Entry', Steps, Memory}

module _ (v : ImageVersion) (text lines : List ℕ)
    (one : (t : List ℕ) (p q : Program) → AcceptsText t p → AcceptsText t q → p ≡ q) (once : LinesOnce)
    (good : NoBadLine) (most : ℕ) (run : LinesOfRun v text lines most)
  where
    legal_fault : (f : SourceLogFault) → IsRefusedLog v text lines most f → IsOfLog f → IsWantOfMemory f
    legal_fault (Refused e) h memory = memory
    legal_fault (Line number) h memory = absurd (good lines run.entries number run.reads h.bad)
    legal_fault (Entry' number) h memory =
        let stops : StopsAt (code_as v h.log.program) h.log.entries number = h.stops in
        let own : StopsAt (code_as v run.program) h.log.entries number =
        subst (λ (p : Program). StopsAt (code_as v p) h.log.entries number)
        (one text h.log.program run.program h.log.accepts run.accepts) stops in
        let here : StopsAt (code_as v run.program) run.entries number =
        subst (λ (es : List Entry). StopsAt (code_as v run.program) es number)
        (once lines h.log.entries run.entries h.log.reads run.reads) own in
        let more : 2 ^ 32 ≤ cost run.entries =
        stops_none (code_as v run.program) run.entries number here run.machine run.legal in
        let less = run.short in
        absurd (omega (arith, more, less))
    legal_fault (Steps n) h memory =
        let (entries, reads, more) = h.1.many in
        let few : cost entries ≤ most =
        subst (λ (es : List Entry). cost es ≤ most) (once lines run.entries entries run.reads reads) run.few in
        absurd (omega (arith, more, few))
    legal_fault Memory h memory = tt

    pub legal_answer : {T : Type 0} (r : Result T SourceLogFault) → IfErr r (λ f. IsRefusedLog v text lines most f)
        → ((p : Program) → AcceptsText text p → CodeFits (as_version v p) → IfErr r (λ f. IsOfLog f))
        → IfErr r (λ f. IsWantOfMemory f)
    legal_answer (Ok x) h only = tt
    legal_answer (Err f) h only = legal_fault f h (only run.program run.accepts run.fits)
