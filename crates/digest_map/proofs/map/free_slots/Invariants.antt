use Rattle.std.proofs.Common.{◌≡◌}
use Rattle.std.specs.List.{All}
use Rattle.digest_map.specs.Noted.{free}
use Rattle.digest_map.proofs.map.free_slots.Given as goal

abbrev pub invariant-loop : goal.invariant-loop
invariant-loop l = All (λ slot. slot.number ≡ free) l.slots.items
