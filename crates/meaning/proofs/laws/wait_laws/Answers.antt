use Rattle.meaning.proofs.Waits.{notified, broadcast}
use Rattle.meaning.proofs.laws.wait_laws.Goals as goal

pub returns-clause-notify : goal.returns-clause-notify
returns-clause-notify c = λ p d resumed t t' q allows w. notified p d resumed t t' q allows w

pub returns-clause-broadcast : goal.returns-clause-broadcast
returns-clause-broadcast c = λ p d resumed t t' q allows w. broadcast p d resumed t t' q allows w
