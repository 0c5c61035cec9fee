-- A program with its code.
use Rattle.std.specs.Prelude.{ℕ}
use Rattle.program.specs.Trees.{Program}
use Rattle.program.specs.Tokens.{most_tokens}
use Rattle.program.specs.WellFormed.{WellFormed}
use Rattle.lowering.specs.Pieces.{code_of, marks_of, start_of}
use Rattle.proof_thread.specs.Deferrals.{MarkedImage}
use Rattle.proof_thread.specs.Following.{Build}

-- the code of a program, with its marks
abbrev pub marked_image : Program → MarkedImage
marked_image p = record { image = code_of p; marks = marks_of p }

-- a program with its code, the heights of its procedures, bounds that its statements keep, and how many processes were
-- made
abbrev pub build_of : (p : Program) → WellFormed p → ℕ → Build
build_of p w made = record {
  program = p;
  code = marked_image p;
  starts = start_of p;
  height = w.acyclic.height;
  most = most_tokens p;
  width = most_tokens p;
  made = made;
}
