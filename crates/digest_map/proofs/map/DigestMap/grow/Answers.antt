use Rattle.digest_map.proofs.Noting.{kept_next}
use Rattle.digest_map.proofs.map.DigestMap.grow.Goals as goal

pub loop-slot-preserved : goal.loop-slot-preserved
loop-slot-preserved c =
    kept_next c.args.self.now.slots.items c.as_slice-slot-items.result.now c.loop-slot.slots.items c.put_again.new.slots.items
    c.loop-slot.slot-index _ c.as_slice-slot-items.ensures.value c.loop-slot-test.true c.loop-slot.invariant c.put_again.ensures
