use Rattle.std.proofs.Common.{◌≡◌, ◌++◌, map, take}
use Rattle.source_states.specs.Actions.{action_of}
use Rattle.source_search.specs.Choices.{kills_with}
use Rattle.source_search.proofs.killing.add_kills.Given as goal

abbrev pub invariant-loop-monitor : goal.invariant-loop-monitor
invariant-loop-monitor l =
    map action_of l.actions.items
    ≡ map action_of l.fn.actions.items ++ kills_with l.process (take l.monitor-index l.monitors) l.resumed
