use Rattle.std.proofs.Common.{◌⊎◌, Contains, vec_len}
use Rattle.image_states.specs.declared.next.Next.{Next as NextOf}
use Rattle.image_search.specs.Kept.{IsMoreOf, IsSound}
use Rattle.image_search.proofs.Keeping.{IsKeptOf}
use Rattle.image_search.proofs.kept.KeptStates.keep_all.Given as goal

abbrev pub invariant-loop-next : goal.invariant-loop-next
invariant-loop-next l = record {
  sound : IsSound l.self;
  more : IsMoreOf l.fn.self l.self;
  kept : (next : NextOf) → Contains l.fn.nexts.items next
      → Contains l.nexts.items next ⊎ IsKeptOf l.fn.self.parts l.self next;
}

abbrev pub decreases-loop-next : goal.decreases-loop-next
decreases-loop-next l = vec_len l.nexts
