use Rattle.std.proofs.Common.{take}
use Rattle.std.specs.List.{AllByRecursion}
use Rattle.isa.specs.Instructions.{operands}
use Rattle.isa.specs.Spelling.{AreWords}
use Rattle.isa.proofs.image.code_words.Given as goal

abbrev pub invariant-loop-instr : goal.invariant-loop-instr
invariant-loop-instr l = AllByRecursion (λ i. AreWords (operands i)) (take l.instr-index l.code)
