use Rattle.workers.specs.PutOffs.{AreNone}
use Rattle.workers.proofs.pool.Pool.wake.Given as goal

abbrev pub invariant-loop : goal.invariant-loop
invariant-loop g l = AreNone l.put_off
