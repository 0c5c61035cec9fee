-- The answer for a whole text.
use Rattle.std.proofs.Common.{◌≡◌, ◌⊎◌, inl, inr, ℕ, List, ap, ◌∙◌, MatchResult, Result, Ok, Err}
use Rattle.words.specs.declared.version.ImageVersion.{ImageVersion}
use Rattle.scanner.specs.declared.refusal.Refusal.{Refusal}
use Rattle.scanner.specs.Refusals.{out_of_memory}
use Rattle.isa.specs.Programs.{Program as Image}
use Rattle.program.specs.Trees.{Program, as_version}
use Rattle.lowering.specs.Pieces.{code_of}
use Rattle.backend.specs.Refusals as backend
use Rattle.compiler.specs.Accepts.{AcceptsText, RefusesTextAs}
use Rattle.compiler.specs.Compiles.{IsCompiledAs}

abbrev pub Answers : ImageVersion → List ℕ → Result Image Refusal → Type 0
Answers v text r = MatchResult r (λ image. IsCompiledAs v text image) (λ e. (e ≡ out_of_memory) ⊎ RefusesTextAs v text e)

pub record Laws : Type 0 where
  pub one : (text : List ℕ) (p q : Program) → AcceptsText text p → AcceptsText text q → p ≡ q
  pub not_both : (v : ImageVersion) (text : List ℕ) (p : Program) (e : Refusal) → AcceptsText text p
      → backend.CodeFits (as_version v p) → RefusesTextAs v text e → ⊥

pub only_memory : Laws → (v : ImageVersion) (text : List ℕ) (r : Result Image Refusal) → Answers v text r
    → (p : Program) → AcceptsText text p → backend.CodeFits (as_version v p)
    → MatchResult r (λ image. image ≡ code_of (as_version v p)) (λ e. e ≡ out_of_memory)
only_memory laws v text (Ok image) c p a fits =
    c.code ∙ ap (λ (q : Program). code_of (as_version v q)) (laws.one text c.program p c.accepts a)
only_memory laws v text (Err e) (inl memory) p a fits = memory
only_memory laws v text (Err e) (inr refused) p a fits = absurd (laws.not_both v text p e a fits refused)
