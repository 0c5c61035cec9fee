-- The source text beside an image: it is that one's, or of another.
use Rattle.std.proofs.Common.{◌≡◌, Bor, ℕ, Bool, true, List, Option, Some, Result, Ok, Err, IfOk, OnOk, ap, inl, inr, is_some, subst}
use Rattle.isa.specs.Programs.{Program}
use Rattle.isa.specs.Lines.{lines}
use Rattle.compiler.specs.Compiles.{IsCompiledAs}
use Rattle.answers.specs.Causes.{IsBesideAnother}
use Rattle.answers.specs.Done.{HasListed, IsListed, TellsLines}
use Rattle.answers.specs.Failures.{OrMemory}
use Rattle.answers.specs.declared.answer.Answer.{Answer}
use Rattle.answers.specs.declared.failure.Failure.{Failure}
use Rattle.answers.specs.declared.failure.Failure.TheVariants.{OtherImage}

pub is_beside : (name : Bor (List ℕ)) (text : List ℕ) (image own : Program) (f : Failure)
    → IsCompiledAs image.version text own → OrMemory (λ f. (f ≡ OtherImage name) × (own ≡ image → ⊥)) f
    → OrMemory (IsBesideAnother (Some name) text image) f
is_beside name text image own f compiled (inl memory) = inl memory
is_beside name text image own f compiled (inr (is, other)) =
    inr (is, record { own = own; compiled = compiled; other = other })

-- an image of the same version that is the same
pub is_compiled : (text : List ℕ) (image own : Program) → IsCompiledAs image.version text own
    → (own.version ≡ image.version → own ≡ image) → IsCompiledAs image.version text image
is_compiled text image own compiled same =
    subst (λ (p : Program). IsCompiledAs image.version text p) (same (ap (λ (p : Program). p.version) compiled.code)) compiled

pub is_listed : {E : Type 0} (r : Result Answer E) (linux more : Bool) (bytes second : List ℕ) (image : Program)
    → IsListed linux bytes image → OnOk r (more ≡ true → IsCompiledAs image.version second image)
    → IfOk r (TellsLines more (lines 0 image.code)) → IfOk r (HasListed linux more bytes second)
is_listed (Ok a) linux more bytes second image is same tells =
    record { image = image; is = is; beside = same; tells = tells }
is_listed (Err e) linux more bytes second image is same tells = tt
