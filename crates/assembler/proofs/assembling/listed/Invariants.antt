use Rattle.std.proofs.Common.{◌≡◌, vec_len}
use Rattle.assembler.proofs.assembling.listed.Given as goal

abbrev pub invariant-loop-instr : goal.invariant-loop-instr
invariant-loop-instr l = vec_len l.lines ≡ l._instr-index
