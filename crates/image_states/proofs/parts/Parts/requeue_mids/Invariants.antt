use Rattle.std.proofs.Common.{Contains, take}
use Rattle.image_states.specs.Nexts.{IsMore}
use Rattle.image_states.specs.Packed.{IsWithin}
use Rattle.image_states.specs.Requeues.{MidDone}
use Rattle.image_states.specs.declared.next.Next.{Next as NextOf}
use Rattle.image_states.proofs.parts.Parts.requeue_mids.Given as goal

abbrev pub invariant-loop-mid : goal.invariant-loop-mid
invariant-loop-mid l = record {
  more : IsMore l.fn.self l.fn.found.items l.self l.found.items;
  done : (mid : NextOf) → Contains (take l.mid-index l.mids) mid → IsWithin l.self mid.state
      × MidDone l.image l.self l.packed mid.state l.found.items l.t l.from.0 l.to.0 l.most l.size;
}
