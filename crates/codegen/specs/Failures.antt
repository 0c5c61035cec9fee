-- Why code isn't made.
use Rattle.std.specs.Prelude.{◌≡◌, ◌<◌, ℕ, ◌⊎◌}
use Rattle.isa.specs.Limits.{most_instructions}
use Rattle.scanner.specs.declared.refusal.Refusal.{Refusal}
use Rattle.scanner.specs.declared.refusal.RefusalKind.TheVariants.{Limit}
use Rattle.scanner.specs.Places.{start}
use Rattle.scanner.specs.Refusals.{out_of_memory}

-- code of more instructions than an image may have is refused at the text's start
abbrev pub too_long : Refusal
too_long = record { kind = Limit; place = start }

-- memory has run out, or the code, of so many instructions, is too long
abbrev pub Fails : Refusal → ℕ → Type 0
Fails e n = (e ≡ out_of_memory) ⊎ ((e ≡ too_long) × (most_instructions < n))
