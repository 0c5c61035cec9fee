use Rattle.std.proofs.Common.{◌≤◌, ◌+◌, drop}
use Rattle.image_search.specs.Found.{kills_of}
use Rattle.image_search.proofs.turns.are_few_kills.Given as goal

abbrev pub invariant-loop-turn : goal.invariant-loop-turn
invariant-loop-turn l = kills_of l.turns + l.left ≤ kills_of (drop l.turn-index l.turns) + l.most
