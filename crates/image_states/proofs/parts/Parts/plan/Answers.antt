use Rattle.image_states.proofs.Within.{not_missing}
use Rattle.image_states.proofs.parts.Parts.plan.Goals as goal

pub unreachable-requires : goal.unreachable-requires
unreachable-requires c =
    not_missing c.args.self.now c.args.memory c.requires.memory (rw c.in-None.is at c.memory.ensures)
