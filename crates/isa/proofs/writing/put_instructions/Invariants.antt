use Rattle.std.proofs.Common.{◌≡◌, ◌++◌, take}
use Rattle.isa.specs.Spelling.{instructions}
use Rattle.isa.proofs.writing.put_instructions.Given as goal

abbrev pub invariant-loop-instr : goal.invariant-loop-instr
invariant-loop-instr l = l.out.items ≡ l.fn.out.items ++ instructions (take l.instr-index l.code)
