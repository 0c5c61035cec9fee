use Rattle.std.proofs.Common.{rules}
use Rattle.words.proofs.mem.Mem.compare_swap.Goals as goal

pub returns-then-old-expected-clause-after : goal.returns-then-old-expected-clause-after
returns-then-old-expected-clause-after c = search rules
