-- The first on the address leave one by one.
use Rattle.std.proofs.Common.{◌≤◌, length, ◌∙◌, get_or}
use Rattle.std.proofs.lemmas.List.{get_or_default}
use Rattle.buckets.proofs.Takes.{Left-none, Left-next, Left-more, Left-all}
use Rattle.buckets.proofs.buckets.Buckets.take_some.Goals as goal

pub loop-t-init : goal.loop-t-init
loop-t-init c = Left-none _ _ _ c.threads_at.ensures.sound

pub drop_out-requires : goal.drop_out-requires
drop_out-requires c =
    let h = c.threads_at.ensures in
    let is = c.as_slice-t-items.ensures ∙ h.value in
    Left-next c.args.self.now c.loop-t.self c.as_slice-t-items.result.now c.args.a.0 c.args.n c.loop-t.t-index _ h.sound is
    c.loop-t.invariant c.loop-t-test.true
    (get_or_default c.as_slice-t-items.result.now c.loop-t.t-index 0 _ c.loop-t-test.true)

pub loop-t-preserved : goal.loop-t-preserved
loop-t-preserved c =
    let h = c.threads_at.ensures in
    let is = c.as_slice-t-items.ensures ∙ h.value in
    let e = c.drop_out.ensures in
    Left-more c.args.self.now c.loop-t.self c.drop_out.new.self c.as_slice-t-items.result.now c.args.a.0 c.args.n
    c.loop-t.t-index (get_or c.as_slice-t-items.result.now c.loop-t.t-index 0) h.sound is c.loop-t.invariant
    c.loop-t-test.true (get_or_default c.as_slice-t-items.result.now c.loop-t.t-index 0 _ c.loop-t-test.true)
    (record { queues = e.queues; places = e.places; holders = e.holders; threads = e.threads; sound = e.sound })

pub returns : goal.returns
returns c =
    let h = c.threads_at.ensures in
    let l = rw c.as_slice-t-items.ensures at c.loop-t.invariant in
    let past : length c.threads_at.new.threads ≤ c.loop-t.t-index = rw c.as_slice-t-items.ensures at c.loop-t-test.false in
    let t = Left-all c.args.self.now c.loop-t.self c.threads_at.new.threads c.args.a.0 c.args.n c.loop-t.t-index h.sound h.value l
    past in
    record {
      taken = t.taken;
      rest = t.rest;
      others = t.others;
      places = t.places;
      holders = t.holders;
      threads = t.threads;
      sound = t.sound;
    }
