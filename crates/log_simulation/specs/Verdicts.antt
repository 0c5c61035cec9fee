-- What a verdict says of the source.
use Rattle.runner.specs.declared.report.Verdict.{Verdict}
use Rattle.runner.specs.declared.report.Verdict.TheVariants.{Done, Stuck, Limit}
use Rattle.program.specs.Trees.{Program}
use Rattle.meaning.specs.States.{SourceState}
use Rattle.refinement.specs.Resting.{AreOver, IsHung}

-- Done: each process is over. Stuck: the source is stuck, and each process waits that isn't over
abbrev pub SaysOf : Verdict → Program → SourceState → Type 0
SaysOf Done p c = AreOver c
SaysOf Stuck p c = IsHung p c
SaysOf Limit p c = Unit {0}
