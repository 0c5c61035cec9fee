use Rattle.std.proofs.Common.{arith, inr}
use Rattle.image_states.proofs.Storing.{stored_pushed}
use Rattle.image_states.proofs.Within.{sized_pushed}
use Rattle.image_states.proofs.parts.Parts.keep_memory.Goals as goal

pub invariant_of-self-2 : goal.invariant_of-self-2
invariant_of-self-2 c = record {
  stored = stored_pushed c.args.self.now.memories.items _ c.args.memory _ _ c.push-2.ensures.items
      c.args.self.now.stored;
  room = c.args.self.now.room;
  sized = sized_pushed c.args.self.now.size c.args.self.now.memories.items _ c.args.memory _ c.push-2.ensures.items
      c.args.self.now.sized c.requires;
}

pub returns-then-count-gt-MOST_NUMBERS-clause-full : goal.returns-then-count-gt-MOST_NUMBERS-clause-full
returns-then-count-gt-MOST_NUMBERS-clause-full c =
    inr (omega (arith, c.if-count-gt-MOST_NUMBERS.true, c.memory_count-count.ensures))
