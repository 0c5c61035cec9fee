use Rattle.std.proofs.Common.{◌≡◌, drop}
use Rattle.emit_image.specs.Functions.{mark_all}
use Rattle.emit_image.proofs.functions.beginnings.Given as goal

abbrev pub invariant-loop-instr : goal.invariant-loop-instr
invariant-loop-instr l =
    mark_all (drop l.instr-index l.code) l.marks.items ≡ mark_all l.code l.initial.marks.items
