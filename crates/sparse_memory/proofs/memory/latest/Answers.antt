use Rattle.std.proofs.Common.{◌∙◌}
use Rattle.sparse_memory.proofs.Spreading.{get_beside, get_put}
use Rattle.sparse_memory.proofs.memory.latest.Goals as goal

pub returns-then-entry-a : goal.returns-then-entry-a
returns-then-entry-a c = λ before is.
    get_put before c.args.a c.args.entry.0 c.args.entry.1 c.args.word c.if-entry-a.true is

pub returns : goal.returns
returns c = λ before is. get_beside before c.args.a c.args.entry.0 c.args.entry.1 c.if-entry-a.false ∙ is
