use Rattle.std.proofs.Common.{refl}
use Rattle.runner.proofs.Noting.{none_wait}
use Rattle.runner.proofs.passing_over.Waiting.new.Goals as goal

pub returns : goal.returns
returns c = λ p k. none_wait p k _ 1001 64 c.none.result refl refl refl c.none.ensures c.all.ensures
