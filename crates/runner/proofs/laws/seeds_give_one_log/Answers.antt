use Rattle.runner.proofs.OneBySeed.{one_by_seed}
use Rattle.runner.proofs.laws.seeds_give_one_log.Goals as goal

pub returns : goal.returns
returns c = one_by_seed
