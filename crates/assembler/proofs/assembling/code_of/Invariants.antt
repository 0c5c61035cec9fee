use Rattle.std.proofs.Common.{◌≡◌, vec_len}
use Rattle.assembler.proofs.assembling.code_of.Given as goal

abbrev pub invariant-loop-drafted : goal.invariant-loop-drafted
invariant-loop-drafted l = vec_len l.lines ≡ vec_len l.instructions
