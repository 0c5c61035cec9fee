use Rattle.std.proofs.Common.{◌≡◌, [], length}
use Rattle.lowering.specs.Pieces.{code_of}
use Rattle.runner.specs.Logs.{opening}
use Rattle.piece_machine.specs.PieceViews.{parts}
use Rattle.program.specs.Trees.{Program}
use Rattle.program.specs.WellFormed.{WellFormed}
use Rattle.log_simulation.specs.Recording.{IsAlong, IsWhole}
use Rattle.log_simulation.proofs.walking.walk.Given as goal

abbrev pub invariant-loop-entry : goal.invariant-loop-entry
invariant-loop-entry l = record {
  program : l.machine.view.program ≡ l.image;
  number : l.number ≡ length l.yielded;
  recorded : (p : Program) → WellFormed p → l.image ≡ code_of p
      → IsAlong p [] (opening l.image) l.fn.recorder
      → IsWhole p l.yielded (parts l.machine) l.recorder;
}
