use Rattle.sparse_memory.proofs.Spreading.{loaded}
use Rattle.sparse_memory.proofs.memory.SparseMemory.load.Goals as goal

pub returns : goal.returns
returns c =
    loaded c.self.inside.size c.self.inside.entries.items c.as_slice.result.now c.args.a.0 c.word_in.result c.args.self.now
    c.as_slice.ensures.value c.self.view_is c.requires c.word_in.ensures
