use Rattle.std.proofs.Common.{◌≡◌}
use Rattle.std.specs.List.{All}
use Rattle.image_states.specs.Stores.{free}
use Rattle.image_states.proofs.stored.free_places.Given as goal

abbrev pub invariant-loop : goal.invariant-loop
invariant-loop l = All (λ note. note.after ≡ free) l.places.items
