use Rattle.std.proofs.Common.{All, take}
use Rattle.image_states.specs.declared.next.Next.{Next as NextOf}
use Rattle.image_search.specs.Living.{IsFlagged}
use Rattle.image_search.proofs.kept.KeptStates.has_all_flagged.Given as goal

abbrev pub invariant-loop-next : goal.invariant-loop-next
invariant-loop-next l = All (λ (next : NextOf). IsFlagged l.self l.flags next.state) (take l.next-index l.nexts)
