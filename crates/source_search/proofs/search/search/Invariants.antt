use Rattle.std.proofs.Common.{◌≡◌, false}
use Rattle.program.specs.Views.{program_of}
use Rattle.source_search.specs.Found.{interleaves}
use Rattle.source_search.specs.Kept.{IsSound, states_of}
use Rattle.source_search.specs.Known.{AreKnown}
use Rattle.source_search.proofs.Searched.{IsSoFar}
use Rattle.source_search.proofs.search.search.Given as goal

abbrev pub invariant-loop-place : goal.invariant-loop-place
invariant-loop-place g l = record {
  sound : IsSound l.kept;
  so_far : IsSoFar (program_of l.checked.tree) l.outside (states_of l.fn.kept)
      (states_of l.kept) l.place l.findings.stuck l.findings.aborted;
  goes_on : l.findings.complete ≡ false;
  known : interleaves l.outside ≡ false → AreKnown (program_of l.checked.tree) l.kept.parts l.memo;
}
