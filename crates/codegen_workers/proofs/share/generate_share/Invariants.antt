use Rattle.std.proofs.Common.{◌≡◌, ◌≤◌, ◌+◌, ◌++◌, drop, map}
use Rattle.std.specs.Prelude.{filter}
use Rattle.program.specs.Trees.{as_version}
use Rattle.program.specs.Views.{program_of, procedure_of}
use Rattle.codegen.specs.Generated.{length_of, piece_of, unlinked_from}
use Rattle.codegen_workers.specs.Shares.{belongs, share_of}
use Rattle.codegen_workers.proofs.share.generate_share.Given as goal

-- what is made, and what is the worker's of what is left, is all; with all that is left it is no more than all pieces
abbrev pub invariant-loop-procedure : goal.invariant-loop-procedure
invariant-loop-procedure g l = let p = as_version l.layout.version (program_of l.program) in record {
  counted : l.number ≡ l.procedure-index;
  made : map piece_of l.pieces.items ++ filter (belongs l.workers l.worker)
      (unlinked_from p l.number (map procedure_of (drop l.procedure-index l.program.procedures.items)))
      ≡ share_of p l.workers l.worker;
  within : l.total + length_of p (map procedure_of (drop l.procedure-index l.program.procedures.items))
      ≤ length_of p (map procedure_of l.program.procedures.items);
}
