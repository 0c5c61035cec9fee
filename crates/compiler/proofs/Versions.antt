-- A text's program is of the second version, and its image of that version is its image.
use Rattle.std.proofs.Common.{◌≡◌, ◌⊎◌, ◌∙◌, ap, inl, inr, refl, subst, sym, ℕ, List, Result, Ok, Err, MatchResult}
use Rattle.words.specs.declared.version.ImageVersion.TheVariants.{Two}
use Rattle.scanner.specs.declared.refusal.Refusal.{Refusal}
use Rattle.scanner.specs.Refusals.{out_of_memory}
use Rattle.isa.specs.Programs.{Program as Image}
use Rattle.program.specs.Names.{CheckedProgram, said_by}
use Rattle.program.specs.Trees.{Program, as_version}
use Rattle.lowering.specs.Pieces.{code_of}
use Rattle.refinement.specs.Refines.{Refines}
use Rattle.refinement.specs.Pieces.{RefinesInPieces}
use Rattle.backend.specs.Lowered.{IsLowered}
use Rattle.backend.specs.Refusals.{CodeFits, CodeIsTooLong}
use Rattle.backend.specs.declared.lowered.Lowered.{Lowered}
use Rattle.compiler.specs.Accepts.{AcceptsText, RefusesText, RefusesTextAs}
use Rattle.compiler.specs.Compiles.{IsCompiled, IsCompiledAs, IsReadLowered, IsReadLoweredAs}

pub is_two : (text : List ℕ) (p : Program) → AcceptsText text p → as_version Two p ≡ p
is_two text p a = subst (λ (q : Program). as_version Two q ≡ q) (sym a.is_program.program) refl

pub compiled : (text : List ℕ) (image : Image) → IsCompiledAs Two text image → IsCompiled text image
compiled text image h =
    let is = is_two text h.program h.accepts in record {
      program = h.program;
      accepts = h.accepts;
      fits = subst CodeFits is h.fits;
      code = h.code ∙ ap code_of is;
      refines = subst (λ (q : Program). Refines q image) is h.refines;
      pieces = subst (λ (q : Program). RefinesInPieces q image) is h.pieces;
    }

pub read : (text : List ℕ) (c : CheckedProgram) (lowered : Lowered) → IsReadLoweredAs Two text c lowered
    → IsReadLowered text c lowered
read text c lowered h = record {
  accepts = h.accepts;
  code = subst (λ (q : Program). IsLowered q lowered) (is_two text (said_by c) h.accepts) h.code;
  compiled = compiled text lowered.image h.compiled;
}

pub refused : (text : List ℕ) (e : Refusal) → RefusesTextAs Two text e → RefusesText text e
refused text e (inl x) = inl x
refused text e (inr x) = inr record {
  program = x.program;
  accepts = x.accepts;
  long = subst CodeIsTooLong (is_two text x.program x.accepts) x.long;
  refusal = x.refusal;
}

pub refused_so : (text : List ℕ) (e : Refusal) → RefusesText text e → RefusesTextAs Two text e
refused_so text e (inl x) = inl x
refused_so text e (inr x) = inr record {
  program = x.program;
  accepts = x.accepts;
  long = subst CodeIsTooLong (sym (is_two text x.program x.accepts)) x.long;
  refusal = x.refusal;
}

pub memory_or : (text : List ℕ) (e : Refusal) → (e ≡ out_of_memory) ⊎ RefusesTextAs Two text e
    → (e ≡ out_of_memory) ⊎ RefusesText text e
memory_or text e (inl memory) = inl memory
memory_or text e (inr x) = inr (refused text e x)

-- what is answered for an image of that version is the answer
pub answered : (text : List ℕ) (A : Type 0) (P Q : A → Type 0) (r : Result A Refusal) → ((a : A) → P a → Q a)
    → MatchResult r P (λ e. (e ≡ out_of_memory) ⊎ RefusesTextAs Two text e)
    → MatchResult r Q (λ e. (e ≡ out_of_memory) ⊎ RefusesText text e)
answered text A P Q (Ok a) f h = f a h
answered text A P Q (Err e) f h = memory_or text e h
