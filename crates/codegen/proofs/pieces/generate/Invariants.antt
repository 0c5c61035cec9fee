use Rattle.std.proofs.Common.{◌≡◌, ◌≤◌, ◌+◌, ◌++◌, drop, map}
use Rattle.program.specs.Trees.{as_version}
use Rattle.program.specs.Views.{program_of, procedure_of}
use Rattle.codegen.specs.Generated.{length_of, piece_of, unlinked_from}
use Rattle.codegen.proofs.pieces.generate.Given as goal

-- what is generated, and what is left, is all, and so no more instructions
abbrev pub invariant-loop-procedure : goal.invariant-loop-procedure
invariant-loop-procedure l = let p = as_version l.layout.version (program_of l.program) in record {
  counted : l.number ≡ l.procedure-index;
  made : map piece_of l.pieces.items ++ unlinked_from p l.number
      (map procedure_of (drop l.procedure-index l.program.procedures.items))
      ≡ unlinked_from p 0 (map procedure_of l.program.procedures.items);
  within : l.total + length_of p (map procedure_of (drop l.procedure-index l.program.procedures.items))
      ≤ length_of p (map procedure_of l.program.procedures.items);
}
