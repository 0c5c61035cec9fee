-- What the checker answers.
use Rattle.std.specs.Prelude.{◌≡◌}
use Rattle.syntax.specs.Tree.{UnitTree}
use Rattle.types.specs.Resolved.{resolved, naming}
use Rattle.program.specs.Names.{CheckedProgram, said_by}
use Rattle.program.specs.WellFormed.{WellFormed}
use Rattle.proof_well_formed.specs.Faultless.{IsFaultless}

-- the unit has no fault, and this is its program, which is well formed, with its names
pub record IsChecked (u : UnitTree) (c : CheckedProgram) : Type 0 where
  pub faultless : IsFaultless u
  pub program : said_by c ≡ resolved u
  pub names : c.names ≡ naming u
  pub well_formed : WellFormed (said_by c)
