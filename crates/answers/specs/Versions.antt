-- The code of a text's program, for an image of a version.
use Rattle.words.specs.declared.version.ImageVersion.{ImageVersion}
use Rattle.isa.specs.Programs.{Program as Image}
use Rattle.program.specs.Trees.{Program, as_version}
use Rattle.lowering.specs.Pieces.{code_of}

abbrev pub code_as : ImageVersion → Program → Image
code_as version p = code_of (as_version version p)
