use Rattle.std.proofs.Common.{Contains, subst, sym}
use Rattle.std.proofs.lemmas.List.{take_all}
use Rattle.image_states.specs.Packed.{IsWithin}
use Rattle.image_states.specs.Requeues.{MidDone}
use Rattle.image_states.proofs.Growing.{more_none, more_twice, within_still}
use Rattle.image_states.proofs.Listing.{is_none}
use Rattle.image_states.proofs.Requeued.{asks_still, item_of, mid_still, none_of, one_more_of, some_within}
use Rattle.image_states.proofs.parts.Parts.requeue_mids.Goals as goal

pub loop-mid-init : goal.loop-mid-init
loop-mid-init c = record {
  more = more_none c.args.self.now c.args.found.now.items;
  done = λ mid has. absurd (none_of c.args.mids.now mid has);
}

pub requeue_mid-requires-clause-within : goal.requeue_mid-requires-clause-within
requeue_mid-requires-clause-within c =
    within_still c.args.self.now c.loop-mid.self (c.loop-mid.invariant.more).parts c.args.packed.now c.requires.within

pub requeue_mid-requires-clause-asks : goal.requeue_mid-requires-clause-asks
requeue_mid-requires-clause-asks c =
    asks_still c.args.image.now c.args.self.now c.loop-mid.self (c.loop-mid.invariant.more).parts c.args.packed.now
    c.requires.within c.args.t c.args.request c.requires.asks

pub loop-mid-preserved : goal.loop-mid-preserved
loop-mid-preserved c =
    let p = c.args.image.now in
    let x = c.args.packed.now in
    let a = c.loop-mid.self in
    let b = c.requeue_mid.new.self in
    let xs = c.loop-mid.found.items in
    let ys = c.requeue_mid.new.found.items in
    let m = c.in_ok-bound.ensures.more in
    let within = within_still c.args.self.now a (c.loop-mid.invariant.more).parts x c.requires.within in
    let none = is_none c.in_ok-bound.bound c.is_some.result c.is_some.ensures c.if-is_some.false in
    let in_mid = some_within a x (c.mid-item.result).state (c.requires.mids (c.mid-item.result) (item_of c.args.mids.now c.loop-mid.mid-index c.mid-item.result c.loop-mid-test.true c.mid-item.is)) within in
    record {
      more = more_twice c.args.self.now a b c.args.found.now.items xs ys c.loop-mid.invariant.more m;
      done = one_more_of (λ mid. IsWithin b mid.state
          × MidDone p b x mid.state ys c.args.t c.args.from.0 c.args.to.0 c.args.most c.args.size)
          c.args.mids.now c.loop-mid.mid-index c.mid-item.result c.loop-mid-test.true c.mid-item.is
          (λ mid has.
          let so = c.loop-mid.invariant.done mid has in (
            within_still a b m.parts mid.state so.0,
            mid_still p a b xs ys m x within c.args.t mid.state so.0 c.args.from.0 c.args.to.0 c.args.most c.args.size so.1,
          ))
          (within_still a b m.parts (c.mid-item.result).state in_mid, c.in_ok-bound.ensures.done none);
    }

pub returns-then-is_some-clause-more : goal.returns-then-is_some-clause-more
returns-then-is_some-clause-more c =
    more_twice c.args.self.now c.loop-mid.self c.requeue_mid.new.self c.args.found.now.items c.loop-mid.found.items
    c.requeue_mid.new.found.items c.loop-mid.invariant.more c.in_ok-bound.ensures.more

pub returns-clause-done : goal.returns-clause-done
returns-clause-done c = λ none mid has.
    (c.loop-mid.invariant.done mid
    (subst (λ ms. Contains ms mid) (sym (take_all c.loop-mid.mid-index c.args.mids.now c.loop-mid-test.false)) has)).1

pub requeue_mid-requires-clause-mid : goal.requeue_mid-requires-clause-mid
requeue_mid-requires-clause-mid c = c.requires.mids (c.mid-item.result)
    (item_of c.args.mids.now c.loop-mid.mid-index c.mid-item.result c.loop-mid-test.true c.mid-item.is)
