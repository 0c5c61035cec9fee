-- A source text that is laid out.
use Rattle.std.specs.Prelude.{ℕ, ◌≡◌, Bool, true, false, List, [], None, bytes_eq, codes}
use Rattle.source_layout.specs.Laid.{IsSameUnit}
use Rattle.answers.specs.Answers.{ArePuts}
use Rattle.answers.specs.declared.answer.Answer.{Answer}
use Rattle.answers.specs.declared.status.Status.{Status}
use Rattle.answers.specs.declared.status.Status.TheVariants.{Done, Found}

-- how the command ends, by whether the text is only looked at, and whether it is the one that is laid out
abbrev pub layout_status : (check same : Bool) → Status
layout_status false same = Done
layout_status true true = Done
layout_status true false = Found

-- what is told: the text that is laid out, or whether this one is
abbrev pub layout_lines : (check same : Bool) → (laid : List ℕ) → List ℕ
layout_lines false same laid = laid
layout_lines true true laid = codes "ok\n"
layout_lines true false laid = codes "not laid out\n"

-- that is told alone
pub record TellsLayout (check same : Bool) (laid : List ℕ) (a : Answer) : Type 0 where
  pub ended : a.status ≡ layout_status check same
  pub output : a.output.items ≡ layout_lines check same laid
  pub account : a.account.items ≡ []
  pub files : ArePuts None a.files

-- the text was laid out: what is told has its tokens and its comments
pub record HasLaidOut (check : Bool) (text : List ℕ) (a : Answer) : Type 0 where
  pub laid : List ℕ
  pub same : IsSameUnit text laid
  pub tells : TellsLayout check (bytes_eq laid text) laid a
