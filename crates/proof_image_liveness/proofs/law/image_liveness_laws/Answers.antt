use Rattle.proof_image_liveness.proofs.Closed.{for_good}
use Rattle.proof_image_liveness.proofs.Quieting.{never_sleeps}
use Rattle.proof_image_liveness.proofs.law.image_liveness_laws.Goals as goal

pub returns-clause-never : goal.returns-clause-never
returns-clause-never c = λ p alone may kept complete wakened buckets steps s some run from t a slept.
    never_sleeps p alone may kept complete wakened buckets some steps s run from t

pub returns-clause-for_good : goal.returns-clause-for_good
returns-clause-for_good c = λ p alone t dead asleep s right m n is a slept.
    for_good p alone t dead asleep s right m n is a slept
