use Rattle.workers.specs.Hirings.{AreWhole, HasEach}
use Rattle.workers.proofs.pool.Pool.start_all.Given as goal

abbrev pub invariant-loop : goal.invariant-loop
invariant-loop g l = record {
  each : HasEach l.hiring;
  whole : AreWhole l.hiring;
}
