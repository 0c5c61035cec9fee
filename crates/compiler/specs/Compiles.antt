-- What is read of a text, and what an image owes to it.
use Rattle.std.specs.Prelude.{◌≡◌, ℕ, List}
use Rattle.words.specs.declared.version.ImageVersion.{ImageVersion}
use Rattle.isa.specs.Programs.{Program as Image}
use Rattle.program.specs.Names.{CheckedProgram, said_by}
use Rattle.program.specs.Trees.{Program, as_version}
use Rattle.program.specs.WellFormed.{WellFormed}
use Rattle.lowering.specs.Pieces.{code_of}
use Rattle.refinement.specs.Refines.{Refines}
use Rattle.refinement.specs.Pieces.{RefinesInPieces}
use Rattle.backend.specs.Lowered.{IsLowered}
use Rattle.backend.specs.Refusals.{CodeFits}
use Rattle.backend.specs.declared.lowered.Lowered.{Lowered}
use Rattle.compiler.specs.Accepts.{AcceptsText}

-- the text's checked program
pub record IsRead (text : List ℕ) (c : CheckedProgram) : Type 0 where
  pub accepts : AcceptsText text (said_by c)
  pub well_formed : WellFormed (said_by c)

-- the text is a program; the image is its code, no longer than an image may have, and refines it. The promise is the line
-- `pieces`, of a machine that takes futex calls in pieces, over any number of buckets, as each run of a command does. The
-- line `refines` is the same of a machine whose futex calls are one step each; neither follows from the other
pub record IsCompiled (text : List ℕ) (image : Image) : Type 0 where
  pub program : Program
  pub accepts : AcceptsText text program
  pub fits : CodeFits program
  pub code : image ≡ code_of program
  pub refines : Refines program image
  pub pieces : RefinesInPieces program image

-- the same for an image of this version
pub record IsCompiledAs (version : ImageVersion) (text : List ℕ) (image : Image) : Type 0 where
  pub program : Program
  pub accepts : AcceptsText text program
  pub fits : CodeFits (as_version version program)
  pub code : image ≡ code_of (as_version version program)
  pub refines : Refines (as_version version program) image
  pub pieces : RefinesInPieces (as_version version program) image

-- the text's checked program, and what it is lowered to
pub record IsReadLowered (text : List ℕ) (c : CheckedProgram) (lowered : Lowered) : Type 0 where
  pub accepts : AcceptsText text (said_by c)
  pub code : IsLowered (said_by c) lowered
  pub compiled : IsCompiled text lowered.image

-- the same for an image of this version
pub record IsReadLoweredAs (version : ImageVersion) (text : List ℕ) (c : CheckedProgram) (lowered : Lowered) : Type 0
  where
    pub accepts : AcceptsText text (said_by c)
    pub code : IsLowered (as_version version (said_by c)) lowered
    pub compiled : IsCompiledAs version text lowered.image
