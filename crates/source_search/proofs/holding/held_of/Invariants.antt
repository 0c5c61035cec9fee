use Rattle.std.proofs.Common.{All}
use Rattle.program.specs.Trees.{Program}
use Rattle.source_states.specs.States.{state_of}
use Rattle.source_search.specs.Kept.{states_of}
use Rattle.source_search.specs.Living.{IsHeldIn}
use Rattle.source_search.proofs.holding.held_of.Given as goal

abbrev pub invariant-loop-number : goal.invariant-loop-number
invariant-loop-number l = (p : Program) → All (IsHeldIn p (states_of l.kept) (state_of l.state)) l.held.items
