use Rattle.runner.proofs.OneLog.{one_log}
use Rattle.runner.proofs.laws.orders_give_one_log.Goals as goal

pub returns : goal.returns
returns c = one_log
