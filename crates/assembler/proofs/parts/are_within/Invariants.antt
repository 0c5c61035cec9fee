use Rattle.std.proofs.Common.{◌≡◌, drop}
use Rattle.assembler.specs.Within.{are_within}
use Rattle.assembler.proofs.parts.are_within.Given as goal

abbrev pub invariant-loop-instr : goal.invariant-loop-instr
invariant-loop-instr l = are_within (drop l.instr-index l.code) ≡ are_within l.code
