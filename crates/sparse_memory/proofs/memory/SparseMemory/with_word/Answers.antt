use Rattle.sparse_memory.proofs.Spreading.{with_word_so}
use Rattle.sparse_memory.proofs.memory.SparseMemory.with_word.Goals as goal

pub returns : goal.returns
returns c =
    with_word_so c.self.inside.size c.self.inside.entries.items c.as_slice.result.now c.in_ok-entries.entries.items
    c.args.a.0 c.args.v c.args.self.now c.as_slice.ensures.value c.self.view_is c.in_ok-entries.ensures
