use Rattle.std.proofs.Common.{◌≡◌, ◌++◌, ◌∷◌, [], map, take}
use Rattle.image_states.specs.Choosing.{lists_in}
use Rattle.image_states.proofs.each_set.longer.Given as goal

abbrev pub invariant-loop-list : goal.invariant-loop-list
invariant-loop-list l =
    lists_in l.longer.items ≡ map (λ list. list ++ l.number ∷ []) (lists_in (take l.list-index l.lists))
