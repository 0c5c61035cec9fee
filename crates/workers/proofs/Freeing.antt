-- Where nobody waits for a bucket an entry frees nobody.
use Rattle.std.proofs.Common.{◌≡◌, ◌∙◌, Bool, true, false, refl, ap, sym}
use Rattle.workers.specs.declared.bucket_waiters.BucketWaiters.{BucketWaiters}
use Rattle.workers.specs.declared.bucket_waiters.BucketWaiters.TheVariants.{Nobody, Waiters}
use Rattle.workers.specs.BucketWaiters.{joined, nobody}
use Rattle.workers.specs.Handed.{Frees}
use Rattle.workers.specs.SharedRuns.{SharedRunView}

with_nobody : (a : BucketWaiters) → joined a nobody ≡ a
with_nobody Nobody = refl
with_nobody (Waiters words) = refl

pub frees_nobody : (gives : Bool) (d : SharedRunView) → d.waiting ≡ nobody → Frees gives d d
frees_nobody true d h = (h, sym (ap (joined d.freed) h ∙ with_nobody d.freed))
frees_nobody false d h = (refl, refl)
