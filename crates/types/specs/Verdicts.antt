-- What is said of a whole unit.
use Rattle.std.specs.Prelude.{Option, Some, None}
use Rattle.scanner.specs.declared.token.Place.{Place}
use Rattle.scanner.specs.declared.refusal.Refusal.{Refusal}
use Rattle.scanner.specs.declared.refusal.RefusalKind.{RefusalKind}
use Rattle.syntax.specs.Tree.{UnitTree}
use Rattle.types.specs.Judgement.{IsFaulty, IsRefusalOf}

-- nothing is faulty at any place
abbrev pub IsFaultless : UnitTree → Type 0
IsFaultless u = (place : Place) (kind : RefusalKind) → IsFaulty u place kind → ⊥

-- its refusal, none where it is faultless
abbrev pub IsVerdict : UnitTree → Option Refusal → Type 0
IsVerdict u None = IsFaultless u
IsVerdict u (Some e) = IsRefusalOf u e
