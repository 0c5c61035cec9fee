-- The checked program and the image of a text, or its refusal.
use Rattle.std.proofs.Common.{◌≡◌, ◌⊎◌, inl, inr, ℕ, List, sym, subst, Result, Ok, Err, IfErr, MatchResult}
use Rattle.words.specs.declared.version.ImageVersion.{ImageVersion}
use Rattle.scanner.specs.declared.refusal.Refusal.{Refusal}
use Rattle.scanner.specs.Refusals.{out_of_memory}
use Rattle.isa.specs.Programs.{Program as Image}
use Rattle.program.specs.Names.{CheckedProgram, said_by}
use Rattle.program.specs.Trees.{Program, as_version}
use Rattle.lowering.specs.Pieces.{code_of}
use Rattle.backend.specs.Refusals as backend
use Rattle.backend.specs.Lowered.{IsLowered}
use Rattle.backend.specs.declared.lowered.Lowered.{Lowered}
use Rattle.refinement.specs.Refines.{Refines}
use Rattle.refinement.specs.Pieces.{RefinesInPieces}
use Rattle.compiler.specs.Accepts.{AcceptsText, RefusesProgram, RefusesTextAs}
use Rattle.compiler.specs.Compiles.{IsCompiledAs, IsRead, IsReadLoweredAs}

module _ (v : ImageVersion) (text : List ℕ) where
  -- a text that is no program
  pub unread : (e : Refusal) → (e ≡ out_of_memory) ⊎ RefusesProgram text e
      → (e ≡ out_of_memory) ⊎ RefusesTextAs v text e
  unread e (inl memory) = inl memory
  unread e (inr refused) = inr (inl refused)

  -- a program whose code is too long
  pub not_fitting : (p : Program) (e : Refusal) → AcceptsText text p → backend.RefusesCode (as_version v p) e
      → (e ≡ out_of_memory) ⊎ RefusesTextAs v text e
  not_fitting p e a (inl memory) = inl memory
  not_fitting p e a (inr long) =
      inr (inr record { program = p; accepts = a; long = long.1; refusal = long.0 })

  -- the image of a program whose code fits
  pub imaged : (c : CheckedProgram) (image : Image) → IsRead text c
      → Refines (as_version v (said_by c)) (code_of (as_version v (said_by c)))
      → RefinesInPieces (as_version v (said_by c)) (code_of (as_version v (said_by c)))
      → (image ≡ code_of (as_version v (said_by c))) × backend.CodeFits (as_version v (said_by c))
      → IsCompiledAs v text image
  imaged c image read refines pieces is = record {
    program = said_by c;
    accepts = read.accepts;
    fits = is.1;
    code = is.0;
    refines = subst (λ (i : Image). Refines (as_version v (said_by c)) i) (sym is.0) refines;
    pieces = subst (λ (i : Image). RefinesInPieces (as_version v (said_by c)) i) (sym is.0) pieces;
  }

  -- such a program, and what it is lowered to
  pub read_whole : (c : CheckedProgram) (lowered : Lowered) → IsRead text c
      → Refines (as_version v (said_by c)) (code_of (as_version v (said_by c)))
      → RefinesInPieces (as_version v (said_by c)) (code_of (as_version v (said_by c)))
      → IsLowered (as_version v (said_by c)) lowered → IsReadLoweredAs v text c lowered
  read_whole c lowered read refines pieces is = record {
    accepts = read.accepts;
    code = is;
    compiled = imaged c lowered.image read refines pieces (is.image, is.fits);
  }

  -- a text whose program's code fits is refused for want of memory alone
  pub only_memory : ((p : Program) (e : Refusal) → AcceptsText text p → backend.CodeFits (as_version v p)
      → RefusesTextAs v text e → ⊥)
      → (A : Type 0) (Good : A → Type 0) (r : Result A Refusal)
      → MatchResult r Good (λ e. (e ≡ out_of_memory) ⊎ RefusesTextAs v text e) → (p : Program)
      → AcceptsText text p → backend.CodeFits (as_version v p) → IfErr r (λ e. e ≡ out_of_memory)
  only_memory not_both A Good (Ok x) h p a fits = tt
  only_memory not_both A Good (Err e) (inl memory) p a fits = memory
  only_memory not_both A Good (Err e) (inr refused) p a fits = absurd (not_both p e a fits refused)
