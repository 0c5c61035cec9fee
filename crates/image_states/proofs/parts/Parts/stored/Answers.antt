use Rattle.image_states.specs.Packed.{words_in}
use Rattle.std.proofs.Common.{◌≤◌, arith, length}
use Rattle.image_states.proofs.parts.Parts.stored.Goals as goal

pub unreachable-requires : goal.unreachable-requires
unreachable-requires c =
    let outside : length (words_in c.args.self.now.memories.items c.args.number) ≤ c.args.a.0 =
    rw c.in-None.is at c.word.ensures in
    omega (arith, outside, c.requires)
