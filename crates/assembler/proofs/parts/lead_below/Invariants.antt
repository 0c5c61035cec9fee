use Rattle.std.proofs.Common.{◌≡◌, drop}
use Rattle.isa.specs.Reading.{lead_below}
use Rattle.assembler.proofs.parts.lead_below.Given as goal

abbrev pub invariant-loop-instr : goal.invariant-loop-instr
invariant-loop-instr l = lead_below l.count (drop l.instr-index l.code) ≡ lead_below l.count l.code
