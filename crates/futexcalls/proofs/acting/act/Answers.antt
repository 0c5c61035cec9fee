-- What the sleepers do leaves the holders as they are, and the buckets that are given up leave the sleepers as they are.
use Rattle.std.proofs.Common.{◌∙◌}
use Rattle.futexcalls.proofs.SameHolders.{same_count, same_holders, same_given_up}
use Rattle.futexcalls.proofs.acting.act.Goals as goal

pub give_up-requires : goal.give_up-requires
give_up-requires c =
    let s = c.args.buckets.now in
    let mid = c.act_on_sleepers.new.buckets in
    let e = c.act_on_sleepers.ensures.holders in
    record { held = λ k h. rw (same_holders s mid e) (c.requires.held k (rw (same_count s mid e) at h)) }

pub returns-clause-piece : goal.returns-clause-piece
returns-clause-piece c =
    let s = c.args.buckets.now in
    let mid = c.act_on_sleepers.new.buckets in
    let a = c.act_on_sleepers.ensures in
    let g = c.give_up.ensures.holders in
    record {
      acts = rw g.places a.acts;
      woken_is = a.woken;
      moved_is = a.moved;
      queues = g.queues ∙ a.queues;
      holders = g.holders ∙ same_given_up c.args.call s mid a.holders;
    }

pub returns-clause-count : goal.returns-clause-count
returns-clause-count c =
    c.give_up.ensures.count
    ∙ same_count c.args.buckets.now c.act_on_sleepers.new.buckets c.act_on_sleepers.ensures.holders
