use Rattle.std.proofs.Common.{◌∙◌, sym}
use Rattle.sparse_memory.proofs.Spreading.{same_memory}
use Rattle.sparse_memory.proofs.memory.SparseMemory.is_same.Goals as goal

pub returns-then-self-other : goal.returns-then-self-other
returns-then-self-other c = λ e.
    same_memory c.self.inside.size c.other.inside.size c.self.inside.entries.items c.other.inside.entries.items
    c.args.self.now c.args.other.now c.self.view_is c.other.view_is c.if-self-other.true (sym c.eq.ensures ∙ e)
