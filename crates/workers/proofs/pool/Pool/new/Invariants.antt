use Rattle.std.proofs.Common.{◌≡◌, vec_len}
use Rattle.workers.specs.Parkers.{AreNumbered}
use Rattle.workers.proofs.pool.Pool.new.Given as goal

abbrev pub invariant-loop-t : goal.invariant-loop-t
invariant-loop-t g l = record {
  many : vec_len l.parkers ≡ l.t;
  numbered : AreNumbered l.parkers.items;
}
