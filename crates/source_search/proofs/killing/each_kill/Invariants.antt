use Rattle.std.proofs.Common.{◌≡◌, map, take}
use Rattle.std.specs.List.{flat_map}
use Rattle.source_states.specs.Actions.{action_of}
use Rattle.source_reaching.specs.Choices.{lists_in}
use Rattle.source_search.specs.Choices.{kills_with}
use Rattle.source_search.proofs.killing.each_kill.Given as goal

abbrev pub invariant-loop-list : goal.invariant-loop-list
invariant-loop-list l =
    map action_of l.actions.items
    ≡ flat_map (kills_with l.process l.monitors) (lists_in (take l.list-index l.lists))
