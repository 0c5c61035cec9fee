use Rattle.std.proofs.Common.{drop, map}
use Rattle.source_states.specs.Actions.{action_of}
use Rattle.source_search.specs.Found.{AreNamed}
use Rattle.source_search.proofs.outside.are_named.Given as goal

abbrev pub invariant-loop-action : goal.invariant-loop-action
invariant-loop-action l =
    AreNamed l.outside (map action_of (drop l.action-index l.actions)) → AreNamed l.outside (map action_of l.actions)
