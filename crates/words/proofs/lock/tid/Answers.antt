use Rattle.std.proofs.Common.{rules}
use Rattle.words.proofs.lock.tid.Goals as goal

pub returns : goal.returns
returns c = search rules
