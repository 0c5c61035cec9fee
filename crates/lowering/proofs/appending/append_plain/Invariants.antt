use Rattle.std.proofs.Common.{◌≡◌, ◌≤◌, ◌+◌, ◌-◌, ◌++◌, drop, length}
use Rattle.std.specs.Prelude.{vec_len, vec_capacity}
use Rattle.lowering.specs.Marks.{plainly}
use Rattle.lowering.proofs.appending.append_plain.Given as goal

-- what is appended, and what is left, is all, and there is room for it
abbrev pub invariant-loop-instruction : goal.invariant-loop-instruction
invariant-loop-instruction l = record {
  made : l.code.items ++ plainly (drop l.instruction-index l.instructions) ≡ l.fn.code.items ++ plainly l.instructions;
  room : vec_len l.code + (length l.instructions - l.instruction-index) ≤ vec_capacity l.code;
}
