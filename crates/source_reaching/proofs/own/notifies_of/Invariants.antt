use Rattle.std.proofs.Common.{◌≡◌, map, take}
use Rattle.meaning.specs.Labels.{Notify}
use Rattle.source_states.specs.Actions.{action_of}
use Rattle.source_reaching.specs.Choices.{by, lists_in}
use Rattle.source_reaching.proofs.own.notifies_of.Given as goal

abbrev pub invariant-loop-list : goal.invariant-loop-list
invariant-loop-list l =
    map action_of l.actions.items
    ≡ map (λ list. by l.process (Notify l.condition list)) (lists_in (take l.list-index l.lists))
