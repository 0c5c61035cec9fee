use Rattle.std.proofs.Common.{All, map, take}
use Rattle.proof_exploration.specs.Exploring.{IsCalmKind}
use Rattle.source_states.specs.Actions.{action_of}
use Rattle.source_reaching.proofs.follow.are_calm.Given as goal

abbrev pub invariant-loop-action : goal.invariant-loop-action
invariant-loop-action l = All (λ a. IsCalmKind a.kind) (map action_of (take l.action-index l.actions))
