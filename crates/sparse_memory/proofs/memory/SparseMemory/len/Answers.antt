use Rattle.sparse_memory.proofs.Spreading.{size_of}
use Rattle.sparse_memory.proofs.memory.SparseMemory.len.Goals as goal

pub returns : goal.returns
returns c = size_of c.self.inside.size c.self.inside.entries.items c.args.self.now c.self.view_is
