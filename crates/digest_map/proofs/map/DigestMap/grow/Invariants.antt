use Rattle.digest_map.specs.Noted.{HasKept}
use Rattle.digest_map.proofs.map.DigestMap.grow.Given as goal

abbrev pub invariant-loop-slot : goal.invariant-loop-slot
invariant-loop-slot l = HasKept l.fn.self.slots.items l.slots.items
