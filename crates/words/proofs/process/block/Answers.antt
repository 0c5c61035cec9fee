use Rattle.std.proofs.Common.{rules}
use Rattle.words.proofs.process.block.Goals as goal

pub returns : goal.returns
returns c = search rules
