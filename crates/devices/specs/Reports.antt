-- The two texts of what a run tells, and what their writers have where they aren't written.
use Rattle.std.specs.Prelude.{ℕ, ◌≡◌, ◌⊎◌, List, Option, string_bytes}
use Rattle.devices.specs.Writing.{HasAll, HasFront}
use Rattle.devices.specs.declared.counted.Counted.{Counted}
use Rattle.devices.specs.declared.report.ReportTexts.{ReportTexts}
use Rattle.devices.specs.declared.report.WriteFault.{WriteFault}
use Rattle.devices.specs.declared.report.WriteFault.TheVariants.{Errors, Memory, Output}

-- the text for standard output
abbrev pub output_of : ReportTexts → List ℕ
output_of texts = string_bytes texts.output

-- the text for standard error
abbrev pub account_of : ReportTexts → List ℕ
account_of texts = string_bytes texts.account

-- for want of memory they are as before; else the one that the fault names has a front of its lines, and each before it
-- all, and the one after it all or a front
abbrev pub IsWriteFault : {O E : Type 0} → (O → Option (List ℕ)) → (E → Option (List ℕ)) → Counted O → Counted O
    → Counted E → Counted E → List ℕ → List ℕ → WriteFault → Type 0
IsWriteFault out err output output' errors errors' printed told Memory = (output' ≡ output) × (errors' ≡ errors)
IsWriteFault out err output output' errors errors' printed told Output =
    HasFront out output output' printed
    × (HasAll err errors errors' told ⊎ HasFront err errors errors' told)
IsWriteFault out err output output' errors errors' printed told Errors =
    HasAll out output output' printed × HasFront err errors errors' told
