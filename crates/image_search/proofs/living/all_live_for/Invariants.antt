use Rattle.std.proofs.Common.{◌<◌, suc, ℕ}
use Rattle.image_search.specs.Kept.{IsSound}
use Rattle.image_search.specs.Living.{AllWakened, IsStill}
use Rattle.image_search.proofs.living.all_live_for.Given as goal

abbrev pub invariant-loop-k : goal.invariant-loop-k
invariant-loop-k l = record {
  sound : IsSound l.kept;
  still : IsStill l.fn.kept l.kept;
  wakened : (j : ℕ) → j < l.k → AllWakened l.image (suc j) l.kept;
}
