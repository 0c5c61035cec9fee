use Rattle.std.proofs.Common.{◌≤◌, ◌+◌, drop, map}
use Rattle.source_states.specs.Actions.{action_of}
use Rattle.source_search.specs.Found.{kills_of}
use Rattle.source_search.proofs.outside.are_few_kills.Given as goal

abbrev pub invariant-loop-action : goal.invariant-loop-action
invariant-loop-action l =
    kills_of (map action_of l.actions) + l.left ≤ kills_of (map action_of (drop l.action-index l.actions)) + l.most
