use Rattle.std.proofs.Common.{arith, inl}
use Rattle.image_states.proofs.parts.Parts.add_local.Goals as goal

pub returns-then-count-gt-MOST_NUMBERS-clause-full : goal.returns-then-count-gt-MOST_NUMBERS-clause-full
returns-then-count-gt-MOST_NUMBERS-clause-full c =
    inl (omega (arith, c.if-count-gt-MOST_NUMBERS.true, c.local_count-count.ensures))
