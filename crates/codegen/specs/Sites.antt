-- Where code is made.
use Rattle.std.specs.Prelude.{◌≡◌}
use Rattle.program.specs.Trees.{Program, as_version}
use Rattle.program.specs.Views.{program_of}
use Rattle.lowering.specs.Layout.{layout_of}
use Rattle.lowering.specs.Statements.{Setting}
use Rattle.codegen.specs.declared.site.Site.{Site}

-- what the program says, for an image of the layout's version
abbrev pub said_at : Site → Program
said_at s = as_version s.layout.now.version (program_of s.program.now)

-- the layout is the program's
abbrev pub IsLaidOut : Site → Type 0
IsLaidOut s = s.layout.now ≡ layout_of (said_at s)

-- calls name pieces by their numbers
abbrev pub setting_at : Site → Setting
setting_at s = record {
  program = said_at s;
  starts = λ piece. piece;
  role = s.role;
  result = s.outcome;
}
