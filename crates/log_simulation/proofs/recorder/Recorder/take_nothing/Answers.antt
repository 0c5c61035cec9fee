use Rattle.std.proofs.Common.{ap, length, refl}
use Rattle.log_simulation.proofs.Recording.{nothing_so, still_of, tells_on}
use Rattle.log_simulation.proofs.recorder.Recorder.take_nothing.Goals as goal

pub returns : goal.returns
returns c = λ p n g of tells.
    let old = c.args.self.now in
    let last = c.count.new.self in
    let follower = ap (λ r. r.follower) c.count.ensures.kept in (
      still_of p old last of (ap (λ x. x.checked) follower) (ap (λ x. x.layout) follower)
          (ap (λ r. r.marks) c.count.ensures.kept) (ap (λ r. length r.deferred.items) c.count.ensures.kept)
          (ap (λ r. length r.raised.items) c.count.ensures.kept),
      tells_on 1 n g g old last last c.count.ensures.counts tells refl
          (λ h steps few. nothing_so n g old last h steps few follower (ap (λ r. r.deferred) c.count.ensures.kept)
          (ap (λ r. r.raised) c.count.ensures.kept)),
    )
