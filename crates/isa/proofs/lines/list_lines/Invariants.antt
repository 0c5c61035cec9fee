use Rattle.std.proofs.Common.{◌≡◌, ◌++◌, drop, string_bytes}
use Rattle.isa.specs.Lines.{lines}
use Rattle.isa.proofs.lines.list_lines.Given as goal

-- what is written, and the lines of what is left, are all lines
abbrev pub invariant-loop-instr : goal.invariant-loop-instr
invariant-loop-instr l = record {
  counted : l.place ≡ l.instr-index;
  written : string_bytes l.text ++ lines l.place (drop l.instr-index l.code) ≡ lines 0 l.code;
}
