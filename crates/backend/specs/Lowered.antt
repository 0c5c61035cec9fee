-- What a program is lowered to.
use Rattle.std.specs.Prelude.{◌≡◌}
use Rattle.program.specs.Trees.{Program}
use Rattle.lowering.specs.Layout.{layout_of}
use Rattle.lowering.specs.Pieces.{code_of, marks_of}
use Rattle.backend.specs.Refusals.{CodeFits}
use Rattle.backend.specs.declared.lowered.Lowered.{Lowered}

-- the program's code, no longer than an image may have, its layout, and the mark of each instruction
pub record IsLowered (p : Program) (lowered : Lowered) : Type 0 where
  pub image : lowered.image ≡ code_of p
  pub fits : CodeFits p
  pub layout : lowered.layout ≡ layout_of p
  pub marks : lowered.marks.items ≡ marks_of p
