-- A run on the calling thread: what may come from outside, and in which order its threads go.
use Rattle.std.specs.Prelude.{ℕ, List, is_some}
use Rattle.words.specs.declared.version.ImageVersion.{ImageVersion}
use Rattle.isa.specs.Programs.{Program as Image}
use Rattle.runner.specs.Logs.{Outside, nothing_outside, outside_of}
use Rattle.runner.specs.declared.report.Report.{Report}
use Rattle.answers.specs.Running.{IsReportBySeed, IsReportInOrder, IsRunBySeed, IsRunInOrder}
use Rattle.answers.specs.declared.explained_run.Alone.{Alone}
use Rattle.answers.specs.declared.explained_run.Alone.TheVariants.{InOrder, Seed}

-- what may come from outside in this order
abbrev pub outside_alone : Alone → Outside
outside_alone InOrder = nothing_outside
outside_alone (Seed seed strays kills) = outside_of (is_some strays) kills

-- the report of a run of an image in this order
abbrev pub IsReportAlone : Alone → (limit : ℕ) → Image → Report → Type 0
IsReportAlone InOrder limit image report = IsReportInOrder image limit report
IsReportAlone (Seed seed strays kills) limit image report = IsReportBySeed image strays kills limit seed report

-- that of a run of a text
abbrev pub IsRunAlone : ImageVersion → Alone → (limit : ℕ) → List ℕ → Report → Type 0
IsRunAlone version InOrder limit text report = IsRunInOrder version text limit report
IsRunAlone version (Seed seed strays kills) limit text report = IsRunBySeed version text strays kills limit seed report
