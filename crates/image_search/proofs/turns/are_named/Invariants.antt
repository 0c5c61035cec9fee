use Rattle.std.proofs.Common.{drop}
use Rattle.image_states.specs.Nexts.{may_of}
use Rattle.image_search.specs.Found.{AreNamedTurns}
use Rattle.image_search.proofs.turns.are_named.Given as goal

abbrev pub invariant-loop-turn : goal.invariant-loop-turn
invariant-loop-turn l =
    AreNamedTurns (may_of l.outside) (drop l.turn-index l.turns) → AreNamedTurns (may_of l.outside) l.turns
