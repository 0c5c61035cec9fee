-- What a run of a source text that is explained answers.
use Rattle.std.specs.Prelude.{◌≡◌, ◌⊎◌, ℕ, List, map}
use Rattle.scanner.specs.Refusals.{out_of_memory}
use Rattle.words.specs.declared.version.ImageVersion.{ImageVersion}
use Rattle.program.specs.Names.{said_by}
use Rattle.program.specs.Trees.{as_version}
use Rattle.source_states.specs.Actions.{action_of}
use Rattle.log_simulation.specs.Verdicts.{SaysOf}
use Rattle.runner.specs.declared.report.Report.{Report}
use Rattle.simulation.specs.ExplainedLog.{IsExplainedLog}
use Rattle.compiler.specs.Accepts.{AcceptsText, RefusesTextAs}
use Rattle.answers.specs.Versions.{code_as}
use Rattle.answers.specs.declared.explained_run.ExplainedRun.{ExplainedRun}
use Rattle.answers.specs.declared.explained_run.ExplainSourceFault.{ExplainSourceFault}
use Rattle.answers.specs.declared.explained_run.ExplainSourceFault.TheVariants.{Refused, Memory}

-- a report of the text's program that is of this kind, and the actions that the log of its code for this version is; its
-- verdict is one on where these lead in the source
pub record IsExplanation (version : ImageVersion) (text : List ℕ) (IsOfKind : Report → Type 0) (r : ExplainedRun) : Type 0
  where
    pub accepts : AcceptsText text (said_by r.checked)
    pub run : IsOfKind r.report
    pub explained : IsExplainedLog (as_version version (said_by r.checked)) (code_as version (said_by r.checked))
        r.report.log.items (map action_of r.actions.items)
    pub says : SaysOf r.report.verdict (as_version version (said_by r.checked))
        explained.recorded.explained.explained.source

-- the text's refusal, or want of memory
abbrev pub IsRefusedExplanation : ImageVersion → List ℕ → ExplainSourceFault → Type 0
IsRefusedExplanation version text (Refused e) = (e ≡ out_of_memory) ⊎ RefusesTextAs version text e
IsRefusedExplanation version text Memory = Unit {0}

-- want of memory
abbrev pub IsWantOfMemory : ExplainSourceFault → Type 0
IsWantOfMemory (Refused e) = e ≡ out_of_memory
IsWantOfMemory Memory = Unit {0}
